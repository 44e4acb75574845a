use Rattle.std.proofs.Common.{◌≡◌, ◌++◌, drop}
use Rattle.serde_json.specs.View.{items_view}
use Rattle.osb_catalog.specs.Ids.{plan_ids}
use Rattle.osb_catalog.specs.IdSet.{texts}
use Rattle.osb_catalog.proofs.ids.plan_ids.Given as goal

abbrev pub invariant-loop-service : goal.invariant-loop-service
invariant-loop-service l = texts l.ids.items ++ plan_ids (items_view (drop l.service-index l.services)) ≡ plan_ids (items_view l.services)
