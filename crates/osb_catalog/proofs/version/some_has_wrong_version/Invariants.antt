use Rattle.std.proofs.Common.{◌≡◌, drop}
use Rattle.serde_json.specs.View.{items_view}
use Rattle.osb_catalog.specs.Items.{any_item}
use Rattle.osb_catalog.specs.Versions.{has_wrong_version}
use Rattle.osb_catalog.proofs.version.some_has_wrong_version.Given as goal

abbrev pub invariant-loop-plan : goal.invariant-loop-plan
invariant-loop-plan l = any_item has_wrong_version (items_view (drop l.plan-index l.plans)) ≡ any_item has_wrong_version (items_view l.plans)
