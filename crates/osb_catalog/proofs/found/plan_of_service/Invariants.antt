use Rattle.std.proofs.Common.{◌≡◌, drop}
use Rattle.serde_json.specs.View.{view, items_view}
use Rattle.osb_catalog.specs.IdSet.{texts}
use Rattle.osb_catalog.specs.Found.{first_place, plan_place}
use Rattle.osb_catalog.proofs.found.plan_of_service.Given as goal

abbrev pub invariant-loop-at : goal.invariant-loop-at
invariant-loop-at l = first_place (plan_place (view l.file) (texts l.ids) l.fault l.number (view l.service)) l.at (items_view (drop l.at l.plan-items)) ≡ first_place (plan_place (view l.file) (texts l.ids) l.fault l.number (view l.service)) 0 (items_view l.plan-items)
