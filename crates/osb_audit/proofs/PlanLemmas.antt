-- The plans in use, read off the rows and the running orders.
use Rattle.std.proofs.Common.{◌≡◌, ℕ, ◌≤◌, suc, Bool, true, false, cond, ◌&&◌, ◌||◌, T, List, [], ◌∷◌, length, map, filter, bytes_eq, is_eq, is_gt, is_lt, Option, Some, None, Ordering, Less, Equal, Greater, refl, sym, ◌∙◌, ap, subst, arith}
use Rattle.std.specs.Prelude.{filter_map, unwrap_or, IfSome}
use Rattle.std.specs.List.{AllByRecursion, list_any, flat_map}
use Rattle.std.specs.Str.{is_utf8}
use Rattle.std.specs.List.Sorted.{IsStrictlySortedBy}
use Rattle.std.specs.Ordering.{eq_by_cmp, ordering_reverse}
use Rattle.std.specs.Cmp.{tied_itself}
use Rattle.std.specs.Cmp.Lexicographic.{nat_list_cmp_total}
use Rattle.std.specs.FinMap.{find, is_sorted, get, entries, entries_sorted, get-entries, slice_cmp-IsAntisymmetric, nat_cmp-IsAntisymmetric}
use Rattle.std.specs.FinMap.Entries.{below_all, same_entries}
use Rattle.std.specs.BTreeSet.{BTreeSet}
use Rattle.std.proofs.lemmas.List.{take_all}
use Rattle.std.proofs.lemmas.List.Folds.{list_any-append}
use Rattle.osb_text.specs.Id.{has_no_controls, is_id}
use Rattle.osb_orders.specs.declared.order.OrderKind.TheVariants.{Update}
use Rattle.osb_orders.specs.declared.order.OrderState.TheVariants.{Running}
use Rattle.osb_orders.specs.declared.order.Order.{Order}
use Rattle.osb_orders.specs.Lists.{last_from}
use Rattle.osb_orders.specs.Orders.{is_a, is_now}
use Rattle.osb_orders.specs.Life.{Life, standing_of}
use Rattle.osb_orders.specs.Lives.{Lives, life_of}
use Rattle.osb_orders.specs.Listing.{with_last, is_listed, listing}
use Rattle.osb_orders.specs.IsLife.{IsInstance, IsLives}
use Rattle.osb_standing.specs.declared.row.InstanceRow.{InstanceRow}
use Rattle.osb_standing.specs.Rows.{row_by, row_of}
use Rattle.osb_standing.specs.Listing.{with_its_row, instance_rows}
use Rattle.osb_audit.specs.Orders.{Entry}
use Rattle.osb_audit.specs.Instances.{InstanceEntry, instance_cmp, is_instance, InstancesStand}
use Rattle.osb_audit.specs.Plans.{Pair, pair_in, pair_cmp, pairs_of, plans_in_use}
use Rattle.osb_audit.specs.Gathered.{pairs_in_row, pairs_in_order, pairs_in_rows, pairs_in_orders, Adds, HasAdded}
use Rattle.osb_audit.proofs.RunLemmas.{by_bytes}
use Rattle.osb_audit.proofs.LivesLemmas.{key_is}
use Rattle.osb_audit.proofs.StandLemmas.{first_of, first_shown}
use Rattle.osb_audit.proofs.SetLemmas.{listed_in_order}

abbrev Lived : Type 0
Lived = List ℕ × Life

-- ---- tests of lists in order

pub both : (a b : Bool) → T a → T b → T (a && b)
both true b p q = q
both false b p q = p

left : (a b : Bool) → T (a && b) → T a
left true b p = tt
left false b p = p

right : (a b : Bool) → T (a && b) → T b
right true b p = p
right false b p = absurd p

less : (o : Ordering) → T (is_lt o) → o ≡ Less
less Less p = refl
less Equal p = absurd p
less Greater p = absurd p

-- ---- each entry is what a look-up of its key finds

finds_more : (e : Lived) (all es : List Lived) → T (below_all by_bytes e.0 es) → AllByRecursion (λ (x : Lived). find by_bytes x.0 all ≡ Some x.1) es → AllByRecursion (λ (x : Lived). find by_bytes x.0 (e ∷ all) ≡ Some x.1) es
finds_more e all [] h f = tt
finds_more e all (x ∷ es) h f =
    (ap (λ o. cond (is_eq o) (Some e.1) (find by_bytes x.0 all)) (nat_list_cmp_total.antisymm x.0 e.0 ∙ ap ordering_reverse (less _ (left _ _ h))) ∙ f.0, finds_more e all es (right _ _ h) f.1)

finds_all : (es : List Lived) → T (is_sorted by_bytes es) → AllByRecursion (λ (x : Lived). find by_bytes x.0 es ≡ Some x.1) es
finds_all [] h = tt
finds_all (e ∷ es) h = (ap (λ o. cond (is_eq o) (Some e.1) (find by_bytes e.0 es)) (tied_itself nat_list_cmp_total e.0), finds_more e es es (left _ _ h) (finds_all es (right _ _ h)))

found_instance : (id : List ℕ) (life : Life) (found : Option Life) → found ≡ Some life → IfSome found (IsInstance id) → IsInstance id life
found_instance id life None e h = cc
found_instance id life (Some other) e h = let f : other ≡ life = cc in subst (IsInstance id) f h

abbrev AreInstances : List Lived → Type 0
AreInstances es = AllByRecursion (λ (e : Lived). IsInstance e.0 e.1) es

all_instances : (lives : Lives) (es : List Lived) → IsLives lives → AllByRecursion (λ (x : Lived). find by_bytes x.0 (entries lives) ≡ Some x.1) es → AreInstances es
all_instances lives [] h f = tt
all_instances lives (e ∷ es) h f = (found_instance e.0 e.1 (get lives e.0) (get-entries lives e.0 ∙ f.0) (h e.0), all_instances lives es h f.1)

pub are_instances : (lives : Lives) → IsLives lives → AreInstances (entries lives)
are_instances lives h = all_instances lives (entries lives) h (finds_all (entries lives) (entries_sorted lives))

-- ---- the rows of all instances, in the order of their ids

find_rows : (q : List ℕ) (es : List Lived) → AreInstances es → find by_bytes q (filter_map with_its_row es) ≡ row_of (unwrap_or (find by_bytes q es) [])
find_rows q [] h = refl
find_rows q ((id, []) ∷ es) h = absurd (h.0.opened refl)
find_rows q ((id, order ∷ life) ∷ es) h = go (eq_by_cmp by_bytes q id) (find_rows q es h.1)
  where
    go : (b : Bool) → find by_bytes q (filter_map with_its_row es) ≡ row_of (unwrap_or (find by_bytes q es) []) → cond b (row_of (order ∷ life)) (find by_bytes q (filter_map with_its_row es)) ≡ row_of (unwrap_or (cond b (Some (order ∷ life)) (find by_bytes q es)) [])
    go true more = refl
    go false more = more

below_rows : (id : List ℕ) (es : List Lived) → AreInstances es → T (below_all by_bytes id es) → T (below_all by_bytes id (filter_map with_its_row es))
below_rows id [] h s = tt
below_rows id ((at, []) ∷ es) h s = absurd (h.0.opened refl)
below_rows id ((at, order ∷ life) ∷ es) h s = both _ _ (left _ _ s) (below_rows id es h.1 (right _ _ s))

sorted_rows : (es : List Lived) → AreInstances es → T (is_sorted by_bytes es) → T (is_sorted by_bytes (filter_map with_its_row es))
sorted_rows [] h s = tt
sorted_rows ((id, []) ∷ es) h s = absurd (h.0.opened refl)
sorted_rows ((id, order ∷ life) ∷ es) h s = both _ _ (below_rows id es h.1 (left _ _ s)) (sorted_rows es h.1 (right _ _ s))

below_first : (first : InstanceEntry) (rows : List InstanceEntry) → AllByRecursion (λ (entry : InstanceEntry). instance_cmp first entry ≡ Less) rows → T (below_all by_bytes first.0 rows)
below_first first [] h = tt
below_first first (entry ∷ rows) h = both _ _ (subst (λ (o : Ordering). T (is_lt o)) (sym h.0) tt) (below_first first rows h.1)

sorted_instances : (rows : List InstanceEntry) → IsStrictlySortedBy instance_cmp rows → T (is_sorted by_bytes rows)
unfolding IsStrictlySortedBy
sorted_instances [] h = tt
sorted_instances (entry ∷ rows) h = both _ _ (below_first entry rows h.0) (sorted_instances rows h.1)

first_found : (q : List ℕ) (rows : List InstanceEntry) → find by_bytes q rows ≡ first_of (filter (is_instance q) rows)
first_found q [] = refl
first_found q (entry ∷ rows) = ap (λ b. cond b (Some entry.1) (find by_bytes q rows)) (key_is q entry.0) ∙ go (bytes_eq entry.0 q) (first_found q rows)
  where
    go : (b : Bool) → find by_bytes q rows ≡ first_of (filter (is_instance q) rows) → cond b (Some entry.1) (find by_bytes q rows) ≡ first_of (cond b (entry ∷ filter (is_instance q) rows) (filter (is_instance q) rows))
    go true more = refl
    go false more = more

-- rows that rise and stand are those of the lives
rows_are : (lives : Lives) (rows : List InstanceEntry) → IsLives lives → IsStrictlySortedBy instance_cmp rows → InstancesStand lives rows → rows ≡ instance_rows lives
rows_are lives rows h rises stand =
    let each = are_instances lives h in
    same_entries by_bytes nat_list_cmp_total (slice_cmp-IsAntisymmetric nat_cmp-IsAntisymmetric) rows (instance_rows lives) (sorted_instances rows rises) (sorted_rows (entries lives) each (entries_sorted lives)) (λ q.
    first_found q rows
    ∙ ap first_of (stand q)
    ∙ first_shown q (row_of (life_of lives q))
    ∙ ap (λ found. row_of (unwrap_or found [])) (get-entries lives q)
    ∙ sym (find_rows q (entries lives) each))

-- ---- the running orders of all instances

as_many : (es : List Lived) → length (filter_map with_last es) ≡ length (filter_map with_its_row es)
as_many [] = refl
as_many ((id, []) ∷ es) = as_many es
as_many ((id, order ∷ life) ∷ es) = ap (λ n. suc n) (as_many es)

fewer : {A : Type 0} (p : A → Bool) (xs : List A) → length (filter p xs) ≤ length xs
fewer p [] = omega arith
fewer p (x ∷ xs) = go (p x) (fewer p xs)
  where
    go : (b : Bool) → length (filter p xs) ≤ length xs → length (cond b (x ∷ filter p xs) (filter p xs)) ≤ suc (length xs)
    go true h = omega arith
    go false h = omega arith

whole_listing : (lives : Lives) (limit : ℕ) → length (instance_rows lives) ≤ limit → listing lives [] limit ≡ filter (is_listed []) (filter_map with_last (entries lives))
whole_listing lives limit h = take_all limit (filter (is_listed []) (filter_map with_last (entries lives))) (omega (arith, fewer (is_listed []) (filter_map with_last (entries lives)), as_many (entries lives)))

-- ---- the pairs of all

none_is_id : (utf8 small plain : Bool) → (((utf8 && false) && small) && plain) ≡ true → false ≡ true
none_is_id true small plain e = e
none_is_id false small plain e = e

after_none : (id : List ℕ) → is_id id ≡ true → is_gt (by_bytes id []) ≡ true
after_none [] e = let no = none_is_id (is_utf8 []) true (has_no_controls []) e in cc
after_none (c ∷ id) e = refl

shuffled : (s u r w : Bool) → ((s || u) || (r || w)) ≡ ((u || r) || (s || w))
shuffled true true r w = refl
shuffled true false true w = refl
shuffled true false false w = refl
shuffled false true r w = refl
shuffled false false r w = refl

and_true : (a : Bool) → (a && true) ≡ a
and_true true = refl
and_true false = refl

and_false : (a : Bool) → (a && false) ≡ false
and_false true = refl
and_false false = refl

module _ (p : Pair → Bool) where
  abbrev updating : Order → Bool
  updating last = list_any p (pairs_in_order last)

  listed_more : (id : List ℕ) (last : Order) (pairs : List Entry) → is_id id ≡ true → list_any p (pairs_in_orders (filter (is_listed []) ((id, last) ∷ pairs))) ≡ (updating last || list_any p (pairs_in_orders (filter (is_listed []) pairs)))
  listed_more id last pairs named = ap (λ after. list_any p (pairs_in_orders (cond (is_now Running last && after) ((id, last) ∷ filter (is_listed []) pairs) (filter (is_listed []) pairs)))) (after_none id named) ∙ go (is_now Running last) refl
    where
      go : (r : Bool) → is_now Running last ≡ r → list_any p (pairs_in_orders (cond (r && true) ((id, last) ∷ filter (is_listed []) pairs) (filter (is_listed []) pairs))) ≡ (updating last || list_any p (pairs_in_orders (filter (is_listed []) pairs)))
      go true e = list_any-append p (pairs_in_order last) (pairs_in_orders (filter (is_listed []) pairs))
      go false e = ap (λ b. list_any p (map (λ (order : Order). pair_in order.attributes) (cond b (last ∷ []) [])) || list_any p (pairs_in_orders (filter (is_listed []) pairs))) (sym (ap (λ r. is_a Update last && r) e ∙ and_false (is_a Update last)))

  all_pairs : (es : List Lived) → AreInstances es →
      list_any p (flat_map (λ (e : Lived). pairs_of e.1) es) ≡ (list_any p (pairs_in_orders (filter (is_listed []) (filter_map with_last es))) || list_any p (pairs_in_rows (filter_map with_its_row es)))
  all_pairs [] h = refl
  all_pairs ((id, []) ∷ es) h = absurd (h.0.opened refl)
  all_pairs ((id, order ∷ life) ∷ es) h =
      let last = last_from order life in
      let row : InstanceRow = row_by (standing_of (order ∷ life)) last in
      list_any-append p (pairs_of (order ∷ life)) (flat_map (λ (e : Lived). pairs_of e.1) es)
      ∙ ap (λ b. b || list_any p (flat_map (λ (e : Lived). pairs_of e.1) es)) (list_any-append p (pairs_in_row row) (pairs_in_order last))
      ∙ ap (λ b. (list_any p (pairs_in_row row) || updating last) || b) (all_pairs es h.1)
      ∙ shuffled (list_any p (pairs_in_row row)) (updating last) _ _
      ∙ (λ i. sym (listed_more id last (filter_map with_last es) h.0.id) i || sym (list_any-append p (pairs_in_row row) (pairs_in_rows (filter_map with_its_row es))) i)

-- what is gathered is the list of the lives
pub gathered : (lives : Lives) (limit : ℕ) (instances : List InstanceEntry) (running : List Entry) (standing all : BTreeSet Pair) → IsLives lives → IsStrictlySortedBy instance_cmp instances → InstancesStand lives instances → length instances ≤ limit → running ≡ listing lives [] limit →
    HasAdded (pairs_in_rows instances) standing → Adds (pairs_in_orders running) standing all → IsStrictlySortedBy pair_cmp all.keys → all.keys ≡ plans_in_use lives
gathered lives limit instances running standing all h rises stand room listed first second ordered =
    let rows = rows_are lives instances h rises stand in
    let fits : length (instance_rows lives) ≤ limit = subst (λ (rows : List InstanceEntry). length rows ≤ limit) rows room in
    let orders = listed ∙ whole_listing lives limit fits in
    listed_in_order all (flat_map (λ (e : Lived). pairs_of e.1) (entries lives)) ordered (λ q.
    second q
    ∙ ap (λ b. list_any (eq_by_cmp pair_cmp q) (pairs_in_orders running) || b) (first q)
    ∙ (λ i. list_any (eq_by_cmp pair_cmp q) (pairs_in_orders (orders i)) || list_any (eq_by_cmp pair_cmp q) (pairs_in_rows (rows i)))
    ∙ sym (all_pairs (eq_by_cmp pair_cmp q) (entries lives) (are_instances lives h)))
