use Rattle.std.proofs.Common.{◌≡◌, drop}
use Rattle.serde_json.specs.View.{items_view}
use Rattle.osb_catalog.specs.Items.{first_in}
use Rattle.osb_catalog.specs.Tables.{first_broken}
use Rattle.osb_catalog.proofs.missing.first_broken_in.Given as goal

abbrev pub invariant-loop-item : goal.invariant-loop-item
invariant-loop-item l = first_in (first_broken l.rules) (items_view (drop l.item-index l.items)) ≡ first_in (first_broken l.rules) (items_view l.items)
