-- What is read of the rows is what the lives say.
use Rattle.std.proofs.Common.{◌≡◌, ℕ, ◌+◌, ◌<◌, ◌==◌, List, [], ◌∷◌, map, filter, Bool, true, false, not, cond, ◌||◌, Some, None, Option, refl, sym, ap, ◌∙◌, arith}
use Rattle.std.specs.List.{list_any}
use Rattle.std.specs.Option.{option_to_list}
use Rattle.std.specs.FinMap.{entries}
use Rattle.std.proofs.lemmas.Bool.Decides.{nat_tests}
use Rattle.osb_orders.specs.declared.order.Order.{Order}
use Rattle.osb_orders.specs.declared.view.BindingNow.{BindingNow}
use Rattle.osb_orders.specs.Lists.{last_of, last_from}
use Rattle.osb_orders.specs.Life.{Life}
use Rattle.osb_orders.specs.Lives.{Lives, life_of}
use Rattle.osb_orders.specs.Named.{order_numbered}
use Rattle.osb_orders.specs.IsLife.{is_empty, IsLives}
use Rattle.osb_standing.specs.declared.row.InstanceRow.{InstanceRow}
use Rattle.osb_standing.specs.Rows.{row_of, bindings_of}
use Rattle.osb_standing.specs.Laws.{count_in, has_rows}
use Rattle.osb_audit.specs.Instances.{InstanceEntry, IsRowOf, InstanceStands}
use Rattle.osb_audit.specs.declared.entry.BindingEntry.{BindingEntry}
use Rattle.osb_audit.specs.Bindings.{binding_entry, is_bound, BindingsStand}
use Rattle.osb_statements.proofs.LivesLemmas.{IsNumberedFrom, numbered}
use Rattle.osb_joined.proofs.InstanceLemmas.{lower_number}

abbrev row_in : List InstanceEntry → Option InstanceRow
row_in [] = None
row_in (entry ∷ entries) = Some entry.1

one_row : (id : List ℕ) (a b : Option InstanceRow) → map {B = InstanceEntry} (λ (row : InstanceRow). (id, row)) (option_to_list a) ≡ map {B = InstanceEntry} (λ (row : InstanceRow). (id, row)) (option_to_list b) → a ≡ b
one_row id None None same = refl
one_row id None (Some b) same = ap row_in same
one_row id (Some a) None same = ap row_in same
one_row id (Some a) (Some b) same = ap row_in same

-- the row that is read is that of the life
pub row_is : (id : List ℕ) (life : Life) (row : Option InstanceRow) (instances : List InstanceEntry) → IsRowOf id row instances → InstanceStands id life instances → row ≡ row_of life
row_is id life row instances is stands = one_row id row (row_of life) (sym is ∙ stands)

any_filtered : (p : BindingEntry → Bool) (es : List BindingEntry) → list_any p es ≡ not (is_empty (filter p es))
any_filtered p [] = refl
any_filtered p (e ∷ es) = go (p e) (any_filtered p es)
  where
    go : (b : Bool) → list_any p es ≡ not (is_empty (filter p es)) → (b || list_any p es) ≡ not (is_empty (cond b (e ∷ filter p es) (filter p es)))
    go true more = refl
    go false more = more

as_many : (id : List ℕ) (es : List (List ℕ × BindingNow)) → is_empty (map (binding_entry id) es) ≡ is_empty es
as_many id [] = refl
as_many id (e ∷ es) = refl

-- a binding has a row exactly where one remains
pub bound_is : (id : List ℕ) (life : Life) (bindings : List BindingEntry) → BindingsStand id life bindings → list_any (is_bound id) bindings ≡ has_rows (bindings_of life)
bound_is id life bindings stands = any_filtered (is_bound id) bindings ∙ ap (λ (es : List BindingEntry). not (is_empty es)) stands ∙ ap not (as_many id (entries (bindings_of life)))

-- ---- the last order

same_number : (n : ℕ) → (n == n) ≡ true
same_number n = grind (arith, nat_tests)

last_high : (n : ℕ) (x : Order) (later : Life) → IsNumberedFrom n (x ∷ later) → n < (last_from x later).number
last_high n x [] h = omega (arith, h.0)
last_high n x (y ∷ later) h = let more = last_high (n + 1) y later h.1 in omega (arith, more)

last_numbered : (n : ℕ) (x : Order) (later : Life) → IsNumberedFrom n (x ∷ later) → order_numbered (last_from x later).number (x ∷ later) ≡ Some (last_from x later)
last_numbered n x [] h = rw (same_number x.number) refl
last_numbered n x (y ∷ later) h =
    let high = last_high (n + 1) y later h.1 in
    rw (lower_number x.number (last_from y later).number (omega (arith, h.0, high))) (last_numbered (n + 1) y later h.1)

last_by_row : (life : Life) → IsNumberedFrom 0 life → order_numbered (count_in (row_of life)) life ≡ last_of life
last_by_row [] h = refl
last_by_row (order ∷ later) h = last_numbered 0 order later h

-- the last number of the row is that of the last order
pub last_is : (lives : Lives) (id : List ℕ) → IsLives lives → (row : Option InstanceRow) → row ≡ row_of (life_of lives id) → order_numbered (count_in row) (life_of lives id) ≡ last_of (life_of lives id)
last_is lives id whole row is = ap (λ r. order_numbered (count_in r) (life_of lives id)) is ∙ last_by_row (life_of lives id) (numbered lives id whole)
