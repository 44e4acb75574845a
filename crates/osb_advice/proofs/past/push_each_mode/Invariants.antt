use Rattle.std.proofs.Common.{◌≡◌, ◌++◌, string_bytes}
use Rattle.serde_json.specs.View.{members_view}
use Rattle.osb_advice.specs.Past.{past_in_modes}
use Rattle.osb_advice.proofs.past.push_each_mode.Given as goal

abbrev pub invariant-loop-name : goal.invariant-loop-name
invariant-loop-name l = string_bytes l.text ++ past_in_modes (members_view l.name-iterator) ≡ string_bytes l.initial.text ++ past_in_modes (members_view l.modes.entries)
