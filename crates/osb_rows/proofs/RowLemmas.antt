-- Rows that are put in and taken out, in whatever order rows lie.
use Rattle.std.proofs.Common.{◌≡◌, inl, inr, ℤ, List, [], ◌∷◌, map, filter, Bool, true, false, not, ◌||◌, ◌&&◌, true≢false, Ordering, Less, Equal, Greater, is_eq, refl, sym, ap, subst, ◌∙◌, IsPermutation}
use Rattle.std.specs.List.{AllByRecursion, list_any}
use Rattle.std.specs.Cmp.{IsTotalOrder}
use Rattle.std.specs.Ordering.{match_ordering, ordering_reverse}
use Rattle.std.proofs.lemmas.Bool.{or_parts, cases_Bool}
use Rattle.std.proofs.lemmas.Cmp.{tied_itself}
use Rattle.std.proofs.lemmas.List.Sorted.{IsPermutation-refl, IsPermutation-sym, IsPermutation-trans, IsPermutation-cons, IsPermutation-middle, IsPermutation-map, list_any-IsPermutation}
use Rattle.sqlite_value.specs.Order.{Row, value_cmp}
use Rattle.sqlite_value.proofs.OrderLemmas.{value_cmp_total}
use Rattle.sqlite_trees.specs.Tree.{rowid, has_rowid, put_row, without_rowid, IsAscending}
use Rattle.sqlite_trees.specs.View.{is_int}
use Rattle.sqlite_trees.proofs.ListLemmas.{all-permutation, filter_same as filter_same_on}
use Rattle.sqlite_rules.specs.Edit.{id_in, without_all, is_taken}
use Rattle.sqlite_rules.specs.Lists.{Has}
use Rattle.sqlite_rules.proofs.ListLemmas.{all_from, all_has}
use Rattle.sqlite_rules.proofs.TableLemmas.{int_is}
use Rattle.sqlite_keyed.proofs.ListLemmas.{all_of, all_weaker, all-filter, any_from_none, none_from_any, along_permutation, ascending-filter, filter-map, filter_all, filter_same, IsPermutation-filter}
use Rattle.sqlite_keyed.proofs.SliceLemmas.{list_any_same}
use Rattle.osb_rows.specs.Rows.{Apart, AreRows}

-- ---- orders and lists

-- who differs from another is one from whom the other differs
pub untied_back : {X : Type 0} (cmp : X → X → Ordering) → IsTotalOrder cmp → (a b : X) → is_eq (cmp a b) ≡ false → is_eq (cmp b a) ≡ false
untied_back cmp total a b apart = ap is_eq (total.antisymm b a) ∙ reversed (cmp a b) ∙ apart
  where
    reversed : (o : Ordering) → is_eq (ordering_reverse o) ≡ is_eq o
    reversed Less = refl
    reversed Equal = refl
    reversed Greater = refl

-- what holds of each two elements, both ways, holds in any order
module _ {X : Type 0} (R : X → X → Type 0) (back : (a b : X) → R a b → R b a) where
  abbrev Follows : List X → List X → Type 0
  Follows xs ys = IsPermutation xs ys × (IsAscending R xs → IsAscending R ys)

  pub ascending_permuted : (xs ys : List X) → IsPermutation xs ys → IsAscending R xs → IsAscending R ys
  ascending_permuted xs ys same = (along_permutation Follows
      (λ xs. (IsPermutation-refl xs, λ up. up))
      (λ x xs ys more. (IsPermutation-cons x xs ys more.0, λ up. (all-permutation (R x) xs ys more.0 up.0, more.1 up.1)))
      (λ x y xs. (IsPermutation-middle (x ∷ []) y xs, λ up. ((back x y up.0.0, up.1.0), (up.0.1, up.1.1))))
      (λ xs ys zs first second. (IsPermutation-trans xs ys zs first.0 second.0, λ up. second.1 (first.1 up)))
      xs ys same).1

filter_twice : {X : Type 0} (p q : X → Bool) (xs : List X) → filter p (filter q xs) ≡ filter (λ x. q x && p x) xs
filter_twice p q [] = refl
filter_twice p q (x ∷ xs) = elim (cases_Bool (q x)) [
  | inl kept ↦ rw (kept, filter_twice p q xs) refl
  | inr left ↦ rw (left, filter_twice p q xs) refl
]

any-map : {X Y : Type 0} (p : Y → Bool) (f : X → Y) (xs : List X) → list_any p (map f xs) ≡ list_any (λ x. p (f x)) xs
any-map p f [] = refl
any-map p f (x ∷ xs) = ap (λ rest. p (f x) || rest) (any-map p f xs)

-- ---- a row put in

apart_back : (a b : Row) → Apart a b → Apart b a
apart_back a b = untied_back value_cmp value_cmp_total (rowid a) (rowid b)

-- under a free rowid, a row is one more
put_adds : (new : Row) (rows : List Row) → is_taken rows new ≡ false → IsPermutation (new ∷ rows) (put_row new rows)
put_adds new [] free = IsPermutation-refl (new ∷ [])
put_adds new (row ∷ rows) free =
    let parts = or_parts _ _ free in
    placed (value_cmp (rowid row) (rowid new)) parts.0 (IsPermutation-cons row _ _ (put_adds new rows parts.1))
  where
    placed : (o : Ordering) → is_eq o ≡ false → IsPermutation (row ∷ new ∷ rows) (row ∷ put_row new rows)
        → IsPermutation (new ∷ row ∷ rows) (match_ordering o (row ∷ put_row new rows) (new ∷ rows) (new ∷ row ∷ rows))
    placed Less untied behind = IsPermutation-trans _ _ _ (IsPermutation-middle (new ∷ []) row rows) behind
    placed Equal untied behind = absurd (true≢false untied)
    placed Greater untied behind = IsPermutation-refl _

-- what is put in under a free rowid is shown beside the rest
pub put_shows : (cells : Row → Row) (rows shown : List Row) (new : Row) → is_int (rowid new) ≡ true → is_taken rows new ≡ false → AreRows cells rows shown → AreRows cells (put_row new rows) (cells new ∷ shown)
put_shows cells rows shown new int free are =
    let adds = put_adds new rows free in
    let away = all_weaker _ (Apart new) (λ row. apart_back row new) rows (none_from_any _ rows free) in
    record {
      apart = ascending_permuted Apart apart_back _ _ adds (away, are.apart);
      keyed = all-permutation _ _ _ adds (int, are.keyed);
      same = IsPermutation-trans _ _ _ (IsPermutation-map cells _ _ (IsPermutation-sym _ _ adds)) (IsPermutation-cons _ _ _ are.same);
    }

-- ---- rows taken out

abbrev pub id_of : Row → ℤ
id_of row = id_in (rowid row)

abbrev is_among : List ℤ → Row → Bool
is_among ids row = list_any (λ id. has_rowid id row) ids

without_all_filters : (ids : List ℤ) (rows : List Row) → without_all rows ids ≡ filter (λ row. not (is_among ids row)) rows
without_all_filters [] rows = sym (filter_all _ rows (all_of _ (λ _. refl) rows))
without_all_filters (id ∷ ids) rows =
    without_all_filters ids (without_rowid id rows) ∙ filter_twice (λ row. not (is_among ids row)) (λ row. not (has_rowid id row)) rows ∙ filter_same _ _ (λ row. neither (has_rowid id row) (is_among ids row)) rows
  where
    neither : (a b : Bool) → (not a && not b) ≡ not (a || b)
    neither true b = refl
    neither false b = refl

-- two rows have one rowid
abbrev ties : Row → Row → Bool
ties a b = is_eq (value_cmp (rowid a) (rowid b))

-- among the rows that pass, a row's rowid is found where the row itself passes
found_itself : (p : Row → Bool) (rows : List Row) → IsAscending Apart rows → (row : Row) → Has rows row → list_any (ties row) (filter p rows) ≡ p row
found_itself p [] up row there = absurd there
found_itself p (first ∷ rows) up row (inl is) = elim (cases_Bool (p first)) [
  | inl passes ↦ rw (is, passes, tied_itself value_cmp_total (rowid first)) refl
  | inr fails ↦ rw (is, fails) (any_from_none _ _ (all-filter _ p rows up.0))
]
found_itself p (first ∷ rows) up row (inr later) =
    let other = apart_back first row (all_has _ rows row up.0 later) in
    let rest = found_itself p rows up.1 row later in
    elim (cases_Bool (p first)) [ inl passes ↦ rw (passes, other) rest | inr fails ↦ rw fails rest ]

module _ (p : Row → Bool) (rows : List Row) (ids : List ℤ) (apart : IsAscending Apart rows) (keyed : AllByRecursion (λ row. is_int (rowid row) ≡ true) rows) (same : IsPermutation (map id_of (filter p rows)) ids) where
  -- a row's rowid is among them exactly where it passes
  among_passes : (row : Row) → Has rows row → is_among ids row ≡ p row
  among_passes row there =
      let test = λ (id : ℤ). has_rowid id row in
      let reads = λ (other : Row) (int : is_int (rowid other) ≡ true). ap (λ value. is_eq (value_cmp (rowid row) value)) (sym (int_is (rowid other) int)) in
      sym (list_any-IsPermutation test _ ids same) ∙ any-map test id_of (filter p rows)
      ∙ list_any_same _ (ties row) _ (all_weaker _ _ reads _ (all-filter _ p rows keyed)) ∙ found_itself p rows apart row there

  left_fails : without_all rows ids ≡ filter (λ row. not (p row)) rows
  left_fails = without_all_filters ids rows ∙ filter_same_on _ _ rows (all_from _ rows (λ row there. ap not (among_passes row there)))

-- where the rowids of the rows that pass are taken out, those that fail are shown
pub left_shows : (cells : Row → Row) (p : Row → Bool) (rows shown : List Row) (ids : List ℤ) → IsPermutation (map id_of (filter (λ row. p (cells row)) rows)) ids → AreRows cells rows shown
    → AreRows cells (without_all rows ids) (filter (λ row. not (p row)) shown)
left_shows cells p rows shown ids same are =
    subst (λ left. AreRows cells left (filter (λ row. not (p row)) shown)) (sym (left_fails (λ row. p (cells row)) rows ids are.apart are.keyed same)) (record {
      apart = ascending-filter Apart _ rows are.apart;
      keyed = all-filter _ _ rows are.keyed;
      same = subst (λ left. IsPermutation left (filter (λ row. not (p row)) shown)) (filter-map (λ row. not (p row)) cells rows) (IsPermutation-filter _ _ _ are.same);
    })
