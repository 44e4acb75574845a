-- What is read of a whole table.
use Rattle.std.proofs.Common.{◌≡◌, ℕ, List, [], ◌∷◌, map, filter, Bool, true, false, Less, is_eq, nat_cmp, nat_lt, refl, arith, sym, ap, subst, subst₂, ◌∙◌, IsPermutation}
use Rattle.std.specs.List.{AllByRecursion, IsAllAdjacentAnswer}
use Rattle.std.specs.List.Sorted.{IsStrictlySortedBy}
use Rattle.std.proofs.lemmas.Bool.Decides.{nat_tests}
use Rattle.std.proofs.lemmas.Cmp.{nat_cmp_total}
use Rattle.std.proofs.lemmas.Map.Keys.{sorted_from_all_adjacent}
use Rattle.std.proofs.lemmas.List.Sorted.{IsPermutation-sym, IsPermutation-map}
use Rattle.sqlite.specs.Order.{Row}
use Rattle.sqlite.specs.Program.{overlay}
use Rattle.sqlite.specs.Query.{Output, IsAnswer}
use Rattle.sqlite.specs.Term.{Term, col}
use Rattle.sqlite.specs.Tree.{Trees}
use Rattle.sqlite_value.specs.Order.{value_cmp}
use Rattle.sqlite_value.specs.declared.keys.Key.{Key}
use Rattle.sqlite_value.proofs.OrderLemmas.{value_cmp_total}
use Rattle.sqlite_trees.specs.Tree.{rowid, IsAscending}
use Rattle.sqlite_trees.specs.View.{is_int}
use Rattle.sqlite_trees.proofs.ListLemmas.{all-permutation}
use Rattle.sqlite_keyed.proofs.ListLemmas.{map-map, map_same, ascending_from_map, all_unmap}
use Rattle.osb_contexts.specs.Read.{AreRowids, HaveRowids, rowid_shown}
use Rattle.osb_rows.proofs.AnswerLemmas.{over, out, answered}
use Rattle.osb_rows.proofs.RowLemmas.{ascending_permuted, untied_back}
use Rattle.osb_contexts.proofs.TestLemmas.{number_cmp}
use Rattle.osb_contexts.proofs.Texts.{every, rowids_of, by_rowid}

none_left : {A : Type 0} (items : List A) → filter (λ _. true) items ≡ items
none_left [] = refl
none_left (item ∷ items) = ap (λ rest. item ∷ rest) (none_left items)

-- ---- rowids

pub less_below : (m n : ℕ) → true ≡ nat_lt m n → nat_cmp m n ≡ Less
less_below m n h = grind (arith, nat_tests)

pub rises : (ids : List ℕ) (answer : Bool) → IsAllAdjacentAnswer (λ a b c. c ≡ nat_lt a b) ids answer → answer ≡ true → IsStrictlySortedBy nat_cmp ids
unfolding IsStrictlySortedBy
rises [] answer h is = tt
rises (id ∷ ids) true h is = sorted_from_all_adjacent nat_cmp_total (id ∷ ids) id (λ k below. less_below _ _ (h k id below))
rises (id ∷ ids) false h is = absurd (cc)

pub apart_ids : (ids : List ℕ) → IsStrictlySortedBy nat_cmp ids → IsAscending (λ a b. is_eq (value_cmp a b) ≡ false) (map rowid_shown ids)
unfolding IsStrictlySortedBy
apart_ids [] up = tt
apart_ids (id ∷ ids) up = (above ids up.0, apart_ids ids up.1)
  where
    above : (others : List ℕ) → AllByRecursion (λ other. nat_cmp id other ≡ Less) others → AllByRecursion (λ value. is_eq (value_cmp (rowid_shown id) value) ≡ false) (map rowid_shown others)
    above [] h = tt
    above (other ∷ others) h = (ap is_eq (number_cmp id other ∙ h.0), above others h.1)

pub all_ints : (ids : List ℕ) → AllByRecursion (λ value. is_int value ≡ true) (map rowid_shown ids)
all_ints [] = tt
all_ints (id ∷ ids) = (refl, all_ints ids)

-- the rows of the table have the rowids that were read
pub have_rowids : (told : Row → Row) → ((row : Row) → rowid (told row) ≡ rowid row) → (rows read : List Row) → IsPermutation (map told rows) read → AreRowids read → HaveRowids rows
have_rowids told ids_told rows read same are =
    let ids = subst₂ IsPermutation (map-map rowid told rows ∙ map_same _ rowid ids_told rows) (sym are.shown) (IsPermutation-map rowid _ _ same) in
    let back = IsPermutation-sym _ _ ids in
    record {
      apart = ascending_from_map (λ a b. is_eq (value_cmp a b) ≡ false) rowid rows (ascending_permuted (λ a b. is_eq (value_cmp a b) ≡ false) (untied_back value_cmp value_cmp_total) _ _ back (apart_ids are.ids are.rising));
      keyed = all_unmap (λ value. is_int value ≡ true) rowid rows (all-permutation _ _ _ back (all_ints are.ids));
    }

-- ---- one table

module _ (tree : ℕ) (db : Trees) where
  abbrev seen : Trees
  seen = overlay db []

  module _ (sees : seen tree ≡ db tree) where
    -- what a query of the whole table shows
    pub all_shown : (project : List Term) (order : List (Term × Key)) (rows : List Row) → IsAnswer (over tree [] project order every) seen [] rows → IsPermutation (map (λ row. (out tree [] project order every seen [] row).1) (db tree)) rows
    all_shown project order rows a =
        let whole = subst (λ own. IsPermutation (map (out tree [] project order every seen []) own) a.ordered) (none_left (seen tree) ∙ sees) (answered tree [] project order every seen [] rows a) in
        subst₂ IsPermutation (map-map (λ (o : Output). o.1) (out tree [] project order every seen []) (db tree)) (sym a.shown) (IsPermutation-map (λ (o : Output). o.1) _ _ whole)

    pub rowids_shown : (rows : List Row) → IsAnswer (rowids_of tree) seen [] rows → AreRowids rows → HaveRowids (db tree)
    rowids_shown rows a are = have_rowids (λ row. rowid row ∷ []) (λ _. refl) (db tree) rows (all_shown (col 1 0 ∷ []) by_rowid rows a) are
