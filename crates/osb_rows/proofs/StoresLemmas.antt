-- Rows put in and taken out, as changes of the entries that they show.
use Rattle.std.proofs.Common.{◌≡◌, ◌⊎◌, inl, inr, List, [], ◌∷◌, ◌++◌, map, filter, Bool, true, false, not, cond, true≢false, Ordering, Less, Equal, Greater, is_eq, is_gt, refl, sym, ap, subst, subst₂, ◌∙◌, IsPermutation}
use Rattle.std.specs.List.{AllByRecursion}
use Rattle.std.specs.Cmp.{IsTotalOrder}
use Rattle.std.specs.Ordering.{ordering_reverse}
use Rattle.std.proofs.lemmas.Bool.{cases_Bool, false_from_ne_true}
use Rattle.std.proofs.lemmas.List.Sorted.{IsPermutation-refl, IsPermutation-sym, IsPermutation-trans, IsPermutation-cons, IsPermutation-middle, IsPermutation-map, IsPermutation-filter_both}
use Rattle.sqlite_value.specs.Order.{Row}
use Rattle.sqlite_trees.specs.Tree.{rowid, put_row, IsAscending}
use Rattle.sqlite_trees.specs.View.{is_int}
use Rattle.sqlite_trees.proofs.ListLemmas.{all-permutation}
use Rattle.sqlite_rules.specs.Edit.{without_all, is_taken}
use Rattle.sqlite_keyed.specs.Lists.{insert_sorted, delete_where, update_where}
use Rattle.sqlite_keyed.proofs.ListLemmas.{all_kept, all-filter, filter_all, all_weaker, ascending-filter, ascending-map, ascending_weaker, filter-map, filter_none, filter_same, IsPermutation-filter}
use Rattle.osb_rows.specs.Rows.{AreRows, Stores, HaveUtf8Texts, AreInUtf8}
use Rattle.osb_rows.proofs.RowLemmas.{put_shows, left_shows, id_of}

-- ---- lists of entries

module _ {E : Type 0} (hit : E → Bool) where
  pub all_hit : (es : List E) → AllByRecursion (λ e. hit e ≡ true) (filter hit es)
  all_hit [] = tt
  all_hit (e ∷ es) = elim (cases_Bool (hit e)) [ inl is ↦ rw is (is, all_hit es) | inr other ↦ rw other (all_hit es) ]

  missed : (es : List E) → filter hit es ≡ [] → AllByRecursion (λ e. hit e ≡ false) es
  missed es none = all_weaker _ _ (λ e never. false_from_ne_true (hit e) never) es (all_kept (λ _. ⊥) hit es (subst (AllByRecursion (λ _. ⊥)) (sym none) tt))

  -- where none is hit, nothing goes
  pub none_deleted : (es : List E) → filter hit es ≡ [] → delete_where hit es ≡ es
  none_deleted es none = filter_all (λ e. not (hit e)) es (all_weaker _ _ (λ e misses. ap not misses) es (missed es none))

  module _ (change : E → E) where
    stays : (es : List E) → AllByRecursion (λ e. hit e ≡ false) es → update_where hit change es ≡ es
    stays [] none = refl
    stays (e ∷ es) none = rw (none.0, stays es none.1) refl

    -- where none is hit, nothing changes
    pub none_changed : (es : List E) → filter hit es ≡ [] → update_where hit change es ≡ es
    none_changed es none = stays es (missed es none)

    -- where one is hit, the changed one stands beside the others
    pub one_changed : (es : List E) (e : E) → filter hit es ≡ e ∷ [] → IsPermutation (change e ∷ delete_where hit es) (update_where hit change es)
    one_changed es e one =
        let parts : IsPermutation es (e ∷ delete_where hit es) = subst (λ hits. IsPermutation es (hits ++ delete_where hit es)) one (IsPermutation-filter_both hit (λ e. not (hit e)) (λ _. refl) es) in
        let passed : hit e ≡ true = (subst (AllByRecursion (λ e. hit e ≡ true)) one (all_hit es)).0 in
        let others = stays (delete_where hit es) (fails es) in
        let now : update_where hit change (e ∷ delete_where hit es) ≡ change e ∷ delete_where hit es = rw (passed, others) refl in
        subst (λ list. IsPermutation list (update_where hit change es)) now (IsPermutation-sym _ _ (IsPermutation-map _ _ _ parts))
      where
        fails : (es : List E) → AllByRecursion (λ e. hit e ≡ false) (delete_where hit es)
        fails [] = tt
        fails (e ∷ es) = elim (cases_Bool (hit e)) [ inl is ↦ rw is (fails es) | inr other ↦ rw other (other, fails es) ]

-- ---- entries in the order of their keys

module _ {E : Type 0} (cmp : E → E → Ordering) (total : IsTotalOrder cmp) where
  abbrev Rises : List E → Type 0
  Rises = IsAscending (λ a b. cmp a b ≡ Less)

  insert_adds : (new : E) (es : List E) → IsPermutation (new ∷ es) (insert_sorted cmp new es)
  insert_adds new [] = IsPermutation-refl (new ∷ [])
  insert_adds new (e ∷ es) = elim (cases_Bool (is_gt (cmp new e))) [
    | inl behind ↦ rw behind (IsPermutation-trans _ _ _ (IsPermutation-middle (new ∷ []) e es) (IsPermutation-cons e _ _ (insert_adds new es)))
    | inr before ↦ rw before (IsPermutation-refl _)
  ]

  -- a new key goes to its place
  insert_rises : (new : E) (es : List E) → AllByRecursion (λ e. is_eq (cmp new e) ≡ false) es → Rises es → Rises (insert_sorted cmp new es)
  insert_rises new [] fresh up = (tt, tt)
  insert_rises new (e ∷ es) fresh up = placed (cmp new e) refl (insert_rises new es fresh.1 up.1)
    where
      placed : (o : Ordering) → cmp new e ≡ o → Rises (insert_sorted cmp new es) → Rises (cond (is_gt o) (e ∷ insert_sorted cmp new es) (new ∷ e ∷ es))
      placed Less is behind = ((is, all_weaker _ _ (λ later above. total.trans new e later is above) es up.0), up)
      placed Equal is behind = absurd (true≢false (ap is_eq (sym is) ∙ fresh.0))
      placed Greater is behind =
          let below : cmp e new ≡ Less = total.antisymm e new ∙ ap ordering_reverse is in
          (all-permutation _ _ _ (insert_adds new es) (below, up.0), behind)

  -- a test that knows the key hits at most one
  pub one_hit : (hit : E → Bool) → ((a b : E) → hit a ≡ true → hit b ≡ true → cmp a b ≡ Equal) → (es : List E) → Rises es → (filter hit es ≡ []) ⊎ ((e : E) × (filter hit es ≡ e ∷ []))
  one_hit hit knows [] up = inl refl
  one_hit hit knows (e ∷ es) up = elim (cases_Bool (hit e)) [
    | inl is ↦ inr (e, rw (is, filter_none hit es (all_weaker _ _ (λ later above. false_from_ne_true (hit later) (λ too. absurd (let tie = sym above ∙ knows e later is too in cc))) es up.0)) refl)
    | inr other ↦ rw other (one_hit hit knows es up.1)
  ]

  -- ---- what rows show

  module _ (cells : Row → Row) (shown : E → Row) where
    -- a row that shows an entry was put in
    put_stores : (rows : List Row) (es next : List E) (new : Row) (e : E) → is_int (rowid new) ≡ true → is_taken rows new ≡ false → cells new ≡ shown e → IsPermutation (e ∷ es) next → Rises next
        → HaveUtf8Texts (shown e) → AreInUtf8 shown es → AreRows cells rows (map shown es) → Stores cells shown cmp (put_row new rows) next
    put_stores rows es next new e int free shows adds up text texts are =
        let put = put_shows cells rows (map shown es) new int free are in
        let as_shown : IsPermutation (cells new ∷ map shown es) (map shown next) = subst (λ cell. IsPermutation (cell ∷ map shown es) (map shown next)) (sym shows) (IsPermutation-map shown _ _ adds) in
        record { held = record { apart = put.apart; keyed = put.keyed; same = IsPermutation-trans _ _ _ put.same as_shown }; rising = up; texts = all-permutation _ _ _ adds (text, texts) }

    pub inserted_stores : (rows : List Row) (es : List E) (new : Row) (e : E) → is_int (rowid new) ≡ true → is_taken rows new ≡ false → cells new ≡ shown e → AllByRecursion (λ y. is_eq (cmp e y) ≡ false) es → HaveUtf8Texts (shown e)
        → Stores cells shown cmp rows es → Stores cells shown cmp (put_row new rows) (insert_sorted cmp e es)
    inserted_stores rows es new e int free shows fresh text old = put_stores rows es _ new e int free shows (insert_adds e es) (insert_rises e es fresh old.rising) text old.texts old.held

    module _ (p : Row → Bool) (hit : E → Bool) (agree : (e : E) → p (shown e) ≡ hit e) where
      -- the rows that pass show the entries that are hit
      pub hits_show : (rows : List Row) (es : List E) → Stores cells shown cmp rows es → IsPermutation (map cells (filter (λ row. p (cells row)) rows)) (map shown (filter hit es))
      hits_show rows es old = subst₂ IsPermutation (filter-map p cells rows) (filter-map p shown es ∙ ap (map shown) (filter_same _ _ agree es)) (IsPermutation-filter p _ _ old.held.same)

      pub deleted_stores : (rows : List Row) (es : List E) (ids : _) → IsPermutation (map id_of (filter (λ row. p (cells row)) rows)) ids → Stores cells shown cmp rows es → Stores cells shown cmp (without_all rows ids) (delete_where hit es)
      deleted_stores rows es ids same old =
          let left : filter (λ cell. not (p cell)) (map shown es) ≡ map shown (delete_where hit es) = filter-map _ shown es ∙ ap (map shown) (filter_same _ _ (λ e. ap not (agree e)) es) in
          record { held = subst (AreRows cells (without_all rows ids)) left (left_shows cells p rows (map shown es) ids same old.held); rising = ascending-filter _ _ es old.rising; texts = all-filter _ _ es old.texts }

      -- the one row that passes was taken out, and put back with other cells
      pub changed_stores : (change : E → E) → ((a b : E) → cmp (cond (hit a) (change a) a) (cond (hit b) (change b) b) ≡ cmp a b) → (rows : List Row) (es : List E) (row new : Row) (e : E)
          → filter (λ row. p (cells row)) rows ≡ row ∷ [] → filter hit es ≡ e ∷ [] → is_int (rowid new) ≡ true → is_taken (without_all rows (id_of row ∷ [])) new ≡ false → cells new ≡ shown (change e)
          → HaveUtf8Texts (shown (change e)) → Stores cells shown cmp rows es → Stores cells shown cmp (put_row new (without_all rows (id_of row ∷ []))) (update_where hit change es)
      changed_stores change same_key rows es row new e only one int free shows text old =
          let ids = subst (λ passed. IsPermutation (map id_of passed) (id_of row ∷ [])) (sym only) (IsPermutation-refl _) in
          let up = ascending-map _ (λ e. cond (hit e) (change e) e) es (ascending_weaker _ _ (λ a b above. same_key a b ∙ above) es old.rising) in
          let left = deleted_stores rows es _ ids old in
          put_stores _ _ _ new (change e) int free shows (one_changed hit change es e one) up text left.texts left.held
