-- The listing from the rows of the instances.
use Rattle.std.proofs.Common.{◌≡◌, ℕ, suc, ◌+◌, Bool, true, false, cond, ◌&&◌, ◌==◌, T, List, [], ◌∷◌, ◌++◌, length, length-append, Option, None, Some, refl, sym, ◌∙◌, ap, subst, arith, eq-eqb}
use Rattle.std.specs.List.{cons_option}
use Rattle.std.specs.Prelude.{unwrap_or, IfSome, option_map, filter, filter_map, take}
use Rattle.std.specs.declared.cmp.Ordering.{Ordering}
use Rattle.std.specs.declared.cmp.Ordering.TheVariants.{Less, Equal, Greater}
use Rattle.std.specs.Ordering.{nat_cmp, is_eq, is_lt, is_gt, ordering_reverse}
use Rattle.std.specs.Cmp.{tied_itself}
use Rattle.std.specs.Cmp.Lexicographic.{slice_cmp, nat_list_cmp_total}
use Rattle.std.specs.FinMap.{get, entries, entries_sorted, get-entries}
use Rattle.std.specs.FinMap.Entries.{find, below_all, is_sorted}
use Rattle.osb_orders.specs.declared.order.OrderState.TheVariants.{Running}
use Rattle.osb_orders.specs.declared.order.Order.{Order}
use Rattle.osb_orders.specs.Lists.{last_from}
use Rattle.osb_orders.specs.Orders.{is_now}
use Rattle.osb_orders.specs.Life.{Life, standing_of}
use Rattle.osb_orders.specs.Lives.{Lives, life_of}
use Rattle.osb_orders.specs.Named.{order_numbered}
use Rattle.osb_orders.specs.Listing.{with_last}
use Rattle.osb_orders.specs.Listing.{is_listed as is_order_listed}
use Rattle.osb_orders.specs.IsLife.{IsLifeAfter, IsInstance, IsLives}
use Rattle.osb_standing.specs.declared.row.InstanceRow.{InstanceRow}
use Rattle.osb_standing.specs.Rows.{row_by}
use Rattle.osb_standing.specs.Listing.{with_its_row, is_listed_row, with_order}
use Rattle.osb_standing.specs.Laws.{ListedByRows}

abbrev by_bytes : List ℕ → List ℕ → Ordering
by_bytes = slice_cmp nat_cmp

-- The order that has the last number

same_number : (a b : ℕ) → a ≡ b → (a == b) ≡ true
same_number a b e = eq-eqb a b e

other_number : (a b m k : ℕ) → a ≡ m + 1 → b ≡ m + suc (suc k) → (a == b) ≡ false
other_number a b m k e f = grind arith

further : (m k : ℕ) → m + suc (suc k) ≡ (m + 1) + suc k
further m k = omega arith

-- the last order is the first that has its number
numbered_last : (before later : Life) (x : Order) (n : ℕ) → IsLifeAfter before (x ∷ later) → n ≡ length before + suc (length later) → order_numbered n (x ∷ later) ≡ Some (last_from x later)
numbered_last before [] x n h e = ap (λ b. cond b (Some x) None) (same_number x.number n (h.0.number ∙ sym e))
numbered_last before (y ∷ later) x n h e =
    ap (λ b. cond b (Some x) (order_numbered n (y ∷ later))) (other_number x.number n (length before) (length later) h.0.number e)
    ∙ numbered_last (before ++ x ∷ []) later y n h.1 (e ∙ further (length before) (length later) ∙ ap (λ m. m + suc (length later)) (sym (length-append before (x ∷ []))))

last_number : (before later : Life) (x : Order) → IsLifeAfter before (x ∷ later) → (last_from x later).number ≡ length before + suc (length later)
last_number before [] x h = h.0.number
last_number before (y ∷ later) x h = last_number (before ++ x ∷ []) later y h.1 ∙ ap (λ m. m + suc (length later)) (length-append before (x ∷ [])) ∙ sym (further (length before) (length later))

-- Entry by entry

-- each entry is what a look-up of its key finds
unfoldable AllFound : Lives → List (List ℕ × Life) → Type 0
AllFound lives [] = Unit {0}
AllFound lives (e ∷ es) = (get lives e.0 ≡ Some e.1) × AllFound lives es

abbrev paired : List ℕ → Order → List ℕ × Order
paired at o = (at, o)

listed : (lives : Lives) (after at : List ℕ) (life : Life) → IsLifeAfter [] life → life_of lives at ≡ life → (pairs : List (List ℕ × Order)) (rows : List (List ℕ × InstanceRow)) →
    filter (is_order_listed after) pairs ≡ filter_map (with_order lives) (filter (is_listed_row after) rows) →
    filter (is_order_listed after) (cons_option (with_last (at, life)) pairs) ≡ filter_map (with_order lives) (filter (is_listed_row after) (cons_option (with_its_row (at, life)) rows))
listed lives after at [] h found pairs rows same = same
listed lives after at (o ∷ later) h found pairs rows same =
    by (is_now Running (last_from o later) && is_gt (by_bytes at after))
  where
    last : Order
    last = last_from o later

    row : InstanceRow
    row = row_by (standing_of (o ∷ later)) (last_from o later)

    order : with_order lives (at, row) ≡ Some (at, last)
    order = ap (λ (life : Life). option_map (paired at) (order_numbered (last_from o later).number life)) found
        ∙ ap (option_map (paired at)) (numbered_last [] later o (last_from o later).number h (last_number [] later o h))

    by : (b : Bool) → cond b ((at, last) ∷ filter (is_order_listed after) pairs) (filter (is_order_listed after) pairs) ≡ filter_map (with_order lives) (cond b ((at, row) ∷ filter (is_listed_row after) rows) (filter (is_listed_row after) rows))
    by true = (λ i. (at, last) ∷ same i) ∙ ap (λ p. cons_option p (filter_map (with_order lives) (filter (is_listed_row after) rows))) (sym order)
    by false = same

entry_life : (id : List ℕ) (life : Life) (found : Option Life) → found ≡ Some life → IfSome found (IsInstance id) → IsLifeAfter [] life
entry_life id life None e h = cc
entry_life id life (Some other) e h = let f : other ≡ life = cc in subst (IsLifeAfter []) f h.life.orders

all_listed : (lives : Lives) (after : List ℕ) (es : List (List ℕ × Life)) → IsLives lives → AllFound lives es →
    filter (is_order_listed after) (filter_map with_last es) ≡ filter_map (with_order lives) (filter (is_listed_row after) (filter_map with_its_row es))
unfolding AllFound
all_listed lives after [] h found = refl
all_listed lives after (e ∷ es) h found =
    listed lives after e.0 e.1 (entry_life e.0 e.1 (get lives e.0) found.0 (h e.0)) (ap (λ life. unwrap_or life []) found.0) (filter_map with_last es) (filter_map with_its_row es) (all_listed lives after es h found.1)

-- Each entry of a list in order is what a look-up finds in it

first : (a b : Bool) → T (a && b) → T a
first true b p = tt
first false b p = p

second : (a b : Bool) → T (a && b) → T b
second true b p = p
second false b p = absurd p

less : (o : Ordering) → T (is_lt o) → o ≡ Less
less Less p = refl
less Equal p = absurd p
less Greater p = absurd p

unfoldable Finds : List (List ℕ × Life) → List (List ℕ × Life) → Type 0
Finds all [] = Unit {0}
Finds all (e ∷ es) = (find by_bytes e.0 all ≡ Some e.1) × Finds all es

finds_more : (e : List ℕ × Life) (all es : List (List ℕ × Life)) → T (below_all by_bytes e.0 es) → Finds all es → Finds (e ∷ all) es
unfolding Finds
finds_more e all [] h f = tt
finds_more e all (x ∷ es) h f =
    (ap (λ r. cond (is_eq r) (Some e.1) (find by_bytes x.0 all)) (nat_list_cmp_total.antisymm x.0 e.0 ∙ ap ordering_reverse (less _ (first _ _ h))) ∙ f.0, finds_more e all es (second _ _ h) f.1)

finds_all : (es : List (List ℕ × Life)) → T (is_sorted by_bytes es) → Finds es es
unfolding Finds
finds_all [] h = tt
finds_all (e ∷ es) h = (ap (λ r. cond (is_eq r) (Some e.1) (find by_bytes e.0 es)) (tied_itself nat_list_cmp_total e.0), finds_more e es es (first _ _ h) (finds_all es (second _ _ h)))

found_all : (lives : Lives) (es : List (List ℕ × Life)) → Finds (entries lives) es → AllFound lives es
unfolding Finds AllFound
found_all lives [] f = tt
found_all lives (e ∷ es) f = (get-entries lives e.0 ∙ f.0, found_all lives es f.1)

pub listed_by_rows : ListedByRows
listed_by_rows lives after limit h = ap (take limit) (all_listed lives after (entries lives) h (found_all lives (entries lives) (finds_all (entries lives) (entries_sorted lives))))
