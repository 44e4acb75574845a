use Rattle.std.proofs.Common.{◌≡◌, drop}
use Rattle.serde_json.specs.View.{items_view}
use Rattle.osb_catalog.specs.Kinds.{are_objects}
use Rattle.osb_catalog.proofs.kind.are_objects.Given as goal

abbrev pub invariant-loop-item : goal.invariant-loop-item
invariant-loop-item l = are_objects (items_view (drop l.item-index l.items.items)) ≡ are_objects (items_view l.items.items)
