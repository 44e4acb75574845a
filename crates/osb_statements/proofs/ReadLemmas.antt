-- Which lives the rows that were read are of.
use Rattle.std.proofs.Common.{◌≡◌, ℕ, List, [], ◌∷◌, map, filter, refl, sym, ap, ap₂, ◌∙◌}
use Rattle.sqlite.specs.Order.{Row}
use Rattle.sqlite.specs.Tree.{Trees}
use Rattle.osb_orders.specs.declared.order.Order.{Order}
use Rattle.osb_orders.specs.Lives.{life_of}
use Rattle.osb_audit.specs.Orders.{Entry, is_of}
use Rattle.osb_statements.specs.Stored.{AreBare, entry_row, order_decoded, entries_in, bare_lives_in}
use Rattle.osb_statements.proofs.SortLemmas.{entry_told_back}
use Rattle.osb_statements.proofs.BareLemmas.{all_filtered, stored_bare}
use Rattle.osb_statements.proofs.LivesLemmas.{life_of_lives}

told_orders : (entries : List Entry) → AreBare entries → map order_decoded (map entry_row entries) ≡ map (λ (entry : Entry). entry.1) entries
told_orders [] bare = refl
told_orders (entry ∷ entries) bare = ap₂ (λ (order : Order) orders. order ∷ orders) (ap (λ (e : Entry). e.1) (entry_told_back entry bare.0)) (told_orders entries bare.1)

-- the rows of an instance have its life
pub life_told : (id : List ℕ) (db : Trees) (rows : List Row) → rows ≡ map entry_row (filter (is_of id) (entries_in db)) → map order_decoded rows ≡ life_of (bare_lives_in db) id
life_told id db rows is =
    let entries = entries_in db in
    ap (map order_decoded) is ∙ told_orders (filter (is_of id) entries) (all_filtered _ (is_of id) entries (stored_bare db)) ∙ sym (life_of_lives id entries)
