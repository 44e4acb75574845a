use Rattle.std.proofs.Common.{◌≡◌, ◌++◌, drop, string_bytes}
use Rattle.serde_json.specs.View.{items_view}
use Rattle.osb_advice.specs.Past.{lines_of, past_in_service}
use Rattle.osb_advice.proofs.past.push_services.Given as goal

abbrev pub invariant-loop-at : goal.invariant-loop-at
invariant-loop-at l = string_bytes l.text ++ lines_of past_in_service l.at (items_view (drop l.at l.services)) ≡ string_bytes l.initial.text ++ lines_of past_in_service 0 (items_view l.services)
