use Rattle.std.proofs.Common.{◌≡◌, ◌++◌, drop}
use Rattle.serde_json.specs.View.{items_view}
use Rattle.osb_catalog.specs.Ids.{ids_of}
use Rattle.osb_catalog.specs.IdSet.{texts}
use Rattle.osb_catalog.proofs.ids.push_ids.Given as goal

abbrev pub invariant-loop-item : goal.invariant-loop-item
invariant-loop-item l = texts l.ids.items ++ ids_of (items_view (drop l.item-index l.items)) ≡ texts l.initial.ids.items ++ ids_of (items_view l.items)
