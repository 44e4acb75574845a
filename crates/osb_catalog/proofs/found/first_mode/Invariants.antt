use Rattle.std.proofs.Common.{◌≡◌}
use Rattle.serde_json.specs.View.{members_view}
use Rattle.osb_catalog.specs.IdSet.{texts}
use Rattle.osb_catalog.specs.Found.{first_named_place, mode_place}
use Rattle.osb_catalog.proofs.found.first_mode.Given as goal

abbrev pub invariant-loop-name : goal.invariant-loop-name
invariant-loop-name l = first_named_place (mode_place (texts l.ids) l.fault) (members_view l.name-iterator) ≡ first_named_place (mode_place (texts l.ids) l.fault) (members_view l.modes.entries)
