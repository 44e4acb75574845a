use Rattle.std.proofs.Common.{◌≡◌, drop}
use Rattle.serde_json.specs.View.{view, items_view}
use Rattle.osb_catalog.specs.Items.{any_item}
use Rattle.osb_catalog.specs.Modes.{has_lost_bindings}
use Rattle.osb_catalog.proofs.mode.some_has_lost_bindings.Given as goal

abbrev pub invariant-loop-service : goal.invariant-loop-service
invariant-loop-service l = any_item (has_lost_bindings (view l.file)) (items_view (drop l.service-index l.services)) ≡ any_item (has_lost_bindings (view l.file)) (items_view l.services)
