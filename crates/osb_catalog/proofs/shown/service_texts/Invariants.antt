use Rattle.std.proofs.Common.{◌≡◌, ◌++◌, drop, true}
use Rattle.serde_json.specs.View.{items_view}
use Rattle.osb_text.specs.Whole.{items_are_whole}
use Rattle.osb_catalog.specs.Catalog.{shown, shown_in_service}
use Rattle.osb_catalog.specs.Pieces.{item_pieces}
use Rattle.osb_catalog.proofs.shown.service_texts.Given as goal

abbrev pub invariant-loop-service : goal.invariant-loop-service
invariant-loop-service l = record {
  whole : items_are_whole (items_view (drop l.service-index l.services)) ≡ true;
  texts : l.texts.items ++ item_pieces (shown shown_in_service) (items_view (drop l.service-index l.services)) ≡ item_pieces (shown shown_in_service) (items_view l.services);
}
