use Rattle.std.proofs.Common.{◌≡◌, ◌++◌, drop, true}
use Rattle.serde_json.specs.View.{items_view}
use Rattle.osb_text.specs.Whole.{items_are_whole}
use Rattle.osb_catalog.specs.Catalog.{shown, shown_in_plan}
use Rattle.osb_catalog.specs.Pieces.{item_pieces}
use Rattle.osb_catalog.proofs.shown.plan_texts.Given as goal

abbrev pub invariant-loop-plan : goal.invariant-loop-plan
invariant-loop-plan l = record {
  whole : items_are_whole (items_view (drop l.plan-index l.plans)) ≡ true;
  texts : l.texts.items ++ item_pieces (shown shown_in_plan) (items_view (drop l.plan-index l.plans)) ≡ item_pieces (shown shown_in_plan) (items_view l.plans);
}
