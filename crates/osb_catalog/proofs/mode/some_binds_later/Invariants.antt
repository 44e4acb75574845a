use Rattle.std.proofs.Common.{◌≡◌, drop}
use Rattle.serde_json.specs.View.{view, items_view}
use Rattle.osb_catalog.specs.Items.{any_item}
use Rattle.osb_catalog.specs.Modes.{binds_later}
use Rattle.osb_catalog.proofs.mode.some_binds_later.Given as goal

abbrev pub invariant-loop-plan : goal.invariant-loop-plan
invariant-loop-plan l = any_item (binds_later (view l.file)) (items_view (drop l.plan-index l.plans)) ≡ any_item (binds_later (view l.file)) (items_view l.plans)
