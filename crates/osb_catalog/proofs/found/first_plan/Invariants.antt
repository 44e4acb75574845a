use Rattle.std.proofs.Common.{◌≡◌, drop}
use Rattle.serde_json.specs.View.{view, items_view}
use Rattle.osb_catalog.specs.IdSet.{texts}
use Rattle.osb_catalog.specs.Found.{first_place, place_in_service}
use Rattle.osb_catalog.proofs.found.first_plan.Given as goal

abbrev pub invariant-loop-at : goal.invariant-loop-at
invariant-loop-at l = first_place (place_in_service (view l.file) (texts l.ids) l.fault) l.at (items_view (drop l.at l.services)) ≡ first_place (place_in_service (view l.file) (texts l.ids) l.fault) 0 (items_view l.services)
