use Rattle.std.proofs.Common.{◌≡◌, drop}
use Rattle.serde_json.specs.View.{items_view}
use Rattle.osb_catalog.specs.Items.{all_items}
use Rattle.osb_catalog.specs.Kinds.{is_text}
use Rattle.osb_catalog.proofs.kind.are_texts.Given as goal

abbrev pub invariant-loop-item : goal.invariant-loop-item
invariant-loop-item l = all_items is_text (items_view (drop l.item-index l.items.items)) ≡ all_items is_text (items_view l.items.items)
