use Rattle.std.proofs.Common.{◌≡◌, ◌++◌, drop}
use Rattle.serde_json.specs.View.{view, items_view}
use Rattle.osb_catalog.specs.Items.{all_of_each}
use Rattle.osb_catalog.specs.Contents.{plans_of_service}
use Rattle.osb_catalog.proofs.contents.read_plans.Given as goal

abbrev pub invariant-loop-service : goal.invariant-loop-service
invariant-loop-service l = l.all.items ++ all_of_each (plans_of_service (view l.file)) (items_view (drop l.service-index l.services)) ≡ all_of_each (plans_of_service (view l.file)) (items_view l.services)
