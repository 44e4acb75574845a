use Rattle.std.proofs.Common.{◌≡◌, drop}
use Rattle.serde_json.specs.View.{items_view}
use Rattle.osb_catalog.specs.Items.{any_item}
use Rattle.osb_catalog.specs.Versions.{has_plan_of_wrong_version}
use Rattle.osb_catalog.proofs.version.some_service_has_wrong_version.Given as goal

abbrev pub invariant-loop-service : goal.invariant-loop-service
invariant-loop-service l = any_item has_plan_of_wrong_version (items_view (drop l.service-index l.services)) ≡ any_item has_plan_of_wrong_version (items_view l.services)
