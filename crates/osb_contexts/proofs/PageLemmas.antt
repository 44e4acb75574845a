-- What pages of a table say of the whole table.
use Rattle.std.proofs.Common.{◌≡◌, inl, IsTrue, ℕ, ℤ, zero, suc, add-one, ◌<◌, pos, List, [], ◌∷◌, ◌++◌, length, map, filter, take, drop, Bool, true, false, not, ◌&&◌, Option, None, Some, Ordering, Less, Equal, Greater, is_eq, is_gt, is_lt, nat_cmp, true≢false, refl, sym, ap, subst, subst₂, ◌∙◌, arith, IsPermutation, IsSorted}
use Rattle.std.specs.Prelude.{◌↔◌, slice_get}
use Rattle.std.specs.List.{AllByRecursion, list_all}
use Rattle.std.specs.Cmp.{IsTotalOrder}
use Rattle.std.specs.Ordering.{is_ge, ordering_reverse}
use Rattle.std.proofs.lemmas.Bool.{and_parts}
use Rattle.std.proofs.lemmas.Cmp.{upto}
use Rattle.std.proofs.lemmas.List.{append-nil, take-append-drop}
use Rattle.std.proofs.lemmas.List.Elements.{filter-append}
use Rattle.std.proofs.lemmas.List.Sorted.{IsPermutation-filter_both, IsPermutation-map, IsPermutation-sym}
use Rattle.sqlite.specs.declared.types.Value.{Value}
use Rattle.sqlite.specs.declared.types.Value.TheVariants.{Null, Int, Real, Text, Blob}
use Rattle.sqlite.specs.Order.{Row, column, value_cmp}
use Rattle.sqlite.specs.Ops.{binary, is_true}
use Rattle.sqlite.specs.Program.{overlay}
use Rattle.sqlite.specs.Query.{Query, Output, IsAnswer, output_cmp, page as paged}
use Rattle.sqlite.specs.Effect.{Database}
use Rattle.sqlite.specs.State.{State, HasCleanDisk, IsUnchanged, Shown, Survives}
use Rattle.sqlite.specs.Term.{Term, col, holds}
use Rattle.sqlite.specs.Tree.{Trees}
use Rattle.sqlite.proofs.Callers.{reads_as, unchanged_then}
use Rattle.sqlite.proofs.StateLemmas.{unchanged, survives_then}
use Rattle.sqlite_sql.specs.declared.ops.BinaryOp.TheVariants.{Compare}
use Rattle.sqlite_sql.specs.declared.ops.CompareOp.TheVariants.{Ge}
use Rattle.sqlite_sql.proofs.QueryLemmas.{output_cmp_total}
use Rattle.sqlite_value.specs.declared.keys.Collation.TheVariants.{Binary}
use Rattle.sqlite_value.proofs.OrderLemmas.{value_cmp_total}
use Rattle.sqlite_trees.specs.Tree.{rowid, IsAscending}
use Rattle.sqlite_trees.proofs.ListLemmas.{all-permutation}
use Rattle.sqlite_keyed.proofs.ListLemmas.{all-append, all_both, all-filter, all-map, all_map, all-slice_get, all_unmap, all_weaker, ascending-append, ascending-filter, filter-filter, filter-map, filter_none, filter_same, IsPermutation-filter, map-map}
use Rattle.osb_joined.proofs.ListLemmas.{all_pass, ascending, filter_swap, sorted_by}
use Rattle.osb_rows.specs.Rows.{Apart}
use Rattle.osb_rows.proofs.AnswerLemmas.{over, out, answered}
use Rattle.osb_rows.proofs.RowLemmas.{ascending_permuted, untied_back}
use Rattle.osb_tables.specs.Tables.{second_schema}
use Rattle.osb_contexts.specs.Inside.{ShowsSchema}
use Rattle.osb_contexts.specs.Pages.{is_below, IsPage, HasId, IsNext, AreReadBelow, AreReadTo}
use Rattle.osb_contexts.specs.Pieces.{AreNamed}
use Rattle.osb_contexts.specs.Read.{AreRowids, HaveRowids, rowid_shown}
use Rattle.osb_contexts.proofs.FormatLemmas.{all_in}
use Rattle.osb_contexts.proofs.PageTexts.{named_cells, from_id, first_rows, rows_from, names_shown}
use Rattle.osb_contexts.proofs.PieceLemmas.{named_cell, named_is}
use Rattle.osb_contexts.proofs.StepLemmas.{clean_before}
use Rattle.osb_contexts.proofs.TestLemmas.{and_true, then_equal, truth_back}
use Rattle.osb_contexts.proofs.Texts.{IsQuery, by_rowid}
use Rattle.osb_contexts.proofs.WholeLemmas.{have_rowids}

-- ---- the first so many items

module _ {X : Type 0} where
  all_taken : (P : X → Type 0) (most : ℕ) (xs : List X) → AllByRecursion P xs → AllByRecursion P (take most xs)
  all_taken P zero xs all = tt
  all_taken P (suc most) [] all = tt
  all_taken P (suc most) (x ∷ xs) all = (all.0, all_taken P most xs all.1)

  all_dropped : (P : X → Type 0) (most : ℕ) (xs : List X) → AllByRecursion P xs → AllByRecursion P (drop most xs)
  all_dropped P zero xs all = all
  all_dropped P (suc most) [] all = tt
  all_dropped P (suc most) (x ∷ xs) all = all_dropped P most xs all.1

  -- fewer are all
  few_are_all : (most : ℕ) (xs : List X) → length (take most xs) < most → take most xs ≡ xs
  few_are_all zero xs few = absurd (omega (arith, few))
  few_are_all (suc most) [] few = refl
  few_are_all (suc most) (x ∷ xs) few = ap (λ rest. x ∷ rest) (few_are_all most xs (omega (arith, few)))

  -- the rest is behind each of them
  rest_behind : (R : X → X → Type 0) (most : ℕ) (xs : List X) → IsAscending R xs → (at : ℕ) (x : X) → slice_get (take most xs) at ≡ Some x → AllByRecursion (R x) (drop most xs)
  rest_behind R zero xs up at x is = absurd (cc)
  rest_behind R (suc most) [] up at x is = absurd (cc)
  rest_behind R (suc most) (first ∷ xs) up zero x is = let same : first ≡ x = cc in subst (λ y. AllByRecursion (R y) (drop most xs)) same (all_dropped (R first) most xs up.0)
  rest_behind R (suc most) (first ∷ xs) up (suc at) x is = rest_behind R most xs up.1 at x is

-- items in order, told in other words
told_in_order : {X Y : Type 0} (R : X → X → Type 0) (Q : Y → Y → Type 0) (P : X → Type 0) (f : X → Y) → ((a b : X) → P a → P b → R a b → Q (f a) (f b)) → (xs : List X) → IsAscending R xs → AllByRecursion P xs → IsAscending Q (map f xs)
told_in_order R Q P f tells [] up all = tt
told_in_order R Q P f tells (x ∷ xs) up all =
    (all_map (Q (f x)) f xs (all_both (R x) P (λ y. Q (f x) (f y)) (λ y up its. tells x y all.0 its up) xs up.0 all.1), told_in_order R Q P f tells xs up.1 all.1)

-- ---- values in order

module _ {X : Type 0} (cmp : X → X → Ordering) (total : IsTotalOrder cmp) where
  abbrev UpTo : X → X → Type 0
  UpTo a b = is_gt (cmp a b) ≡ false

  not_less : (o : Ordering) → is_lt o ≡ false → is_gt (ordering_reverse o) ≡ false
  not_less Less h = absurd (true≢false h)
  not_less Equal h = refl
  not_less Greater h = refl

  -- a sorted list rises, from each item to all behind it
  sorted_rises : (xs : List X) → IsSorted cmp xs → IsAscending UpTo xs
  sorted_rises [] sorted = tt
  sorted_rises (x ∷ []) sorted = (tt, tt)
  sorted_rises (x ∷ y ∷ xs) sorted =
      let rest = sorted_rises (y ∷ xs) (λ k d low high. rw add-one (rw add-one at (sorted (suc k) d (omega arith) (omega arith)))) in
      let next : UpTo x y = ap is_gt (total.antisymm x y) ∙ not_less (cmp y x) (sorted 0 x (omega arith) (omega arith)) in
      ((next, all_weaker (UpTo y) (UpTo x) (λ z. upto total x y z next) xs rest.0), rest)

by_value : IsTotalOrder value_cmp
by_value = value_cmp_total

module _ (low high : Value) (up : is_lt (value_cmp high low) ≡ false) where
  -- what is below the lower is below the higher
  below_higher : (v : Value) → is_lt (value_cmp v low) ≡ true → is_lt (value_cmp v high) ≡ true
  below_higher v is = go (value_cmp v low) (value_cmp high low) refl refl is up
    where
      go : (o p : Ordering) → value_cmp v low ≡ o → value_cmp high low ≡ p → is_lt o ≡ true → is_lt p ≡ false → is_lt (value_cmp v high) ≡ true
      go Less Equal o_is p_is is up = ap is_lt (by_value.antisymm v high ∙ ap ordering_reverse (by_value.congr high low v p_is ∙ by_value.antisymm low v ∙ ap ordering_reverse o_is))
      go Less Greater o_is p_is is up = ap is_lt (by_value.trans v low high o_is (by_value.antisymm low high ∙ ap ordering_reverse p_is))
      go Less Less o_is p_is is up = absurd (true≢false up)
      go Equal p o_is p_is is up = absurd (true≢false (sym is))
      go Greater p o_is p_is is up = absurd (true≢false (sym is))

-- what isn't above another value isn't below this
not_under : (a b : Value) → is_gt (value_cmp a b) ≡ false → is_lt (value_cmp b a) ≡ false
not_under a b up = ap is_lt (by_value.antisymm b a) ∙ go (value_cmp a b) up
  where
    go : (o : Ordering) → is_gt o ≡ false → is_lt (ordering_reverse o) ≡ false
    go Less h = refl
    go Equal h = refl
    go Greater h = absurd (true≢false h)

-- ---- rowids

apart_back : (a b : Row) → Apart a b → Apart b a
apart_back a b = untied_back value_cmp value_cmp_total (rowid a) (rowid b)

rowids_below : (id : Value) (rows : List Row) → AreRowids rows → AreRowids (filter (is_below id) rows)
rowids_below id rows are =
    let under = λ (v : Value). is_lt (value_cmp v id) in record {
      ids = filter (λ (n : ℕ). under (rowid_shown n)) are.ids;
      shown = sym (filter-map under rowid_shown are.ids) ∙ ap (filter under) are.shown ∙ filter-map under rowid rows;
      rising = sorted_by nat_cmp _ (ascending-filter (λ a b. nat_cmp a b ≡ Less) (λ (n : ℕ). under (rowid_shown n)) are.ids (ascending nat_cmp are.ids are.rising));
    }

-- rows below an id, and rows that aren't
module _ (from : Value) (whole one other : List Row) (parts : IsPermutation whole (one ++ other)) (low : AllByRecursion (λ row. is_below from row ≡ true) one) (high : AllByRecursion (λ row. is_below from row ≡ false) other) where
  apart_by : (a b : Row) → is_below from a ≡ true → is_below from b ≡ false → Apart a b
  apart_by a b under over = go (value_cmp (rowid a) (rowid b)) refl
    where
      go : (o : Ordering) → value_cmp (rowid a) (rowid b) ≡ o → is_eq o ≡ false
      go Less is = refl
      go Equal is = absurd (true≢false (sym under ∙ ap is_lt (by_value.congr (rowid a) (rowid b) from is) ∙ over))
      go Greater is = refl

  rowids_together : HaveRowids one → HaveRowids other → HaveRowids whole
  rowids_together first second = record {
    apart = ascending_permuted Apart apart_back (one ++ other) whole (IsPermutation-sym _ _ parts)
        (ascending-append Apart one other first.apart second.apart (all_weaker _ (λ a. AllByRecursion (Apart a) other) (λ a under. all_weaker _ (Apart a) (λ b over. apart_by a b under over) other high) one low));
    keyed = all-permutation _ _ _ (IsPermutation-sym _ _ parts) (all-append _ one other first.keyed second.keyed);
  }

  named_together : AreNamed one → AreNamed other → AreNamed whole
  named_together first second = all-permutation _ _ _ (IsPermutation-sym _ _ parts) (all-append _ one other first second)

-- ---- a page

abbrev IsOne : Row → Type 0
IsOne row = column row 1 ≡ Int (pos 1)

module _ (passes : Row → Bool) (most : ℕ) (table rows : List Row) (page : IsPage passes most table rows) where
  -- fewer rows than were asked for are all that pass
  whole_page : length rows < most → IsPermutation (map page.shown (filter passes table)) rows
  whole_page few = subst (IsPermutation (map page.shown (filter passes table))) (sym (page.first ∙ few_are_all most page.all (subst (λ (read : List Row). length read < most) page.first few))) page.same

  -- those below the id of one of them are among them
  rows_below : (id : Value) → HasId id rows → IsPermutation (map page.shown (filter (is_below id) (filter passes table))) (filter (is_below id) rows)
  rows_below id has =
      let rest = rest_behind _ most page.all page.rising has.place has.row (subst (λ (read : List Row). slice_get read has.place ≡ Some has.row) page.first has.is) in
      let none : filter (is_below id) (drop most page.all) ≡ [] =
      filter_none (is_below id) (drop most page.all) (all_weaker _ _ (λ row up. not_under id (rowid row) (subst (λ v. is_gt (value_cmp v (rowid row)) ≡ false) has.id_is up)) (drop most page.all) rest) in
      let found : filter (is_below id) page.all ≡ filter (is_below id) rows =
      ap (filter (is_below id)) (sym (take-append-drop most page.all)) ∙ filter-append (is_below id) (take most page.all) (drop most page.all) ∙ ap (λ end. filter (is_below id) (take most page.all) ++ end) none
      ∙ append-nil (filter (is_below id) (take most page.all)) ∙ ap (filter (is_below id)) (sym page.first) in
      let those : filter (is_below id) (map page.shown (filter passes table)) ≡ map page.shown (filter (is_below id) (filter passes table)) =
      filter-map (is_below id) page.shown (filter passes table) ∙ ap (map page.shown) (filter_same _ (is_below id) (λ row. ap (λ v. is_lt (value_cmp v id)) (page.shows.ids row)) (filter passes table)) in
      subst₂ IsPermutation those found (IsPermutation-filter (is_below id) _ _ page.same)

  each_read : (P : Row → Type 0) → AllByRecursion (λ row. P (page.shown row)) (filter passes table) → AllByRecursion P rows
  each_read P all = subst (AllByRecursion P) (sym page.first) (all_taken P most page.all (all-permutation P _ _ page.same (all_map P page.shown (filter passes table) all)))

  -- where all rows of the table are named, those of the page are
  named_read : AreNamed table → AllByRecursion IsOne rows
  named_read all = each_read IsOne (all_weaker _ _ (λ row is. (page.shows.named row).1 is) (filter passes table) (all-filter _ passes table all))

  module _ (part read : List Row) (same : IsPermutation (map page.shown part) read) where
    rowids_of : AreRowids read → HaveRowids part
    rowids_of = have_rowids page.shown page.shows.ids part read same

    names_of : AllByRecursion IsOne read → AreNamed part
    names_of all = all_weaker _ _ (λ row is. (page.shows.named row).0 is) part (all_unmap IsOne page.shown part (all-permutation IsOne _ _ (IsPermutation-sym _ _ same) all))

-- the first page
module _ (most : ℕ) (table rows : List Row) (page : IsPage (λ _. true) most table rows) (named : Bool) (are : AreRowids rows) (says : (named ≡ true) ↔ AllByRecursion IsOne rows) where
  abbrev any : Row → Bool
  any _ = true

  pub first_read : (next : Option ℤ) → IsNext most rows next → AreReadTo table named next
  first_read None few =
      let same = subst (λ (part : List Row). IsPermutation (map page.shown part) rows) (all_in table) (whole_page any most table rows page few) in
      (rowids_of any most table rows page table rows same are, (λ is. names_of any most table rows page table rows same (says.0 is), λ all. says.1 (named_read any most table rows page all)))
  first_read (Some id) has =
      let same = subst (λ (part : List Row). IsPermutation (map page.shown (filter (is_below (Int id)) part)) (filter (is_below (Int id)) rows)) (all_in table) (rows_below any most table rows page (Int id) has) in record {
        rowids = rowids_of any most table rows page _ _ same (rowids_below (Int id) rows are);
        named_below = λ is. names_of any most table rows page _ _ same (all-filter IsOne (is_below (Int id)) rows (says.0 is));
        all_named = λ all. says.1 (named_read any most table rows page all);
      }

abbrev is_from : Value → Row → Bool
is_from id row = not (is_below id row)

not_so : (b : Bool) → not b ≡ true → b ≡ false
not_so true is = absurd (true≢false (sym is))
not_so false is = refl

-- a page behind others
module _ (most : ℕ) (table rows : List Row) (from : ℤ) (page : IsPage (is_from (Int from)) most table rows) (before named : Bool) (was : AreReadBelow (Int from) table before) (are : AreRowids rows) (says : (named ≡ true) ↔ AllByRecursion IsOne rows) where
  abbrev first : List Row
  first = filter (is_below (Int from)) table

  abbrev rest : List Row
  rest = filter (is_from (Int from)) table

  first_low : AllByRecursion (λ row. is_below (Int from) row ≡ true) first
  first_low = all_pass (is_below (Int from)) table

  rest_high : AllByRecursion (λ row. is_below (Int from) row ≡ false) rest
  rest_high = all_weaker _ _ (λ row is. not_so (is_below (Int from) row) is) rest (all_pass (is_from (Int from)) table)

  both_parts : IsPermutation table (first ++ rest)
  both_parts = IsPermutation-filter_both (is_below (Int from)) (is_from (Int from)) (λ _. refl) table

  both_true : (a b : Bool) → a ≡ true → b ≡ true → (a && b) ≡ true
  both_true true true p q = refl
  both_true true false p q = q
  both_true false b p q = p

  all_true : AreNamed table → (before && named) ≡ true
  all_true all = both_true before named (was.all_named all) (says.1 (named_read (is_from (Int from)) most table rows page all))

  pub next_read : (next : Option ℤ) → IsNext most rows next → AreReadTo table (before && named) next
  next_read None few =
      let same = whole_page (is_from (Int from)) most table rows page few in (
        rowids_together (Int from) table first rest both_parts first_low rest_high was.rowids (rowids_of (is_from (Int from)) most table rows page rest rows same are),
        (
          λ is. let both = and_parts before named is in
              named_together (Int from) table first rest both_parts first_low rest_high (was.named_below both.0) (names_of (is_from (Int from)) most table rows page rest rows same (says.0 both.1)),
          all_true,
        ),
      )
  next_read (Some id) has =
      let up : is_lt (value_cmp (Int id) (Int from)) ≡ false =
      ap (λ v. is_lt (value_cmp v (Int from))) (sym has.id_is)
      ∙ all-slice_get (λ row. is_below (Int from) row ≡ false) rows has.place has.row has.is
      (each_read (is_from (Int from)) most table rows page (λ row. is_below (Int from) row ≡ false) (all_weaker _ _ (λ row is. ap (λ v. is_lt (value_cmp v (Int from))) (page.shows.ids row) ∙ is) rest rest_high)) in
      let below = filter (is_below (Int id)) table in
      let later = filter (is_below (Int id)) rest in
      let parts : IsPermutation below (first ++ later) =
      subst₂ (λ (one other : List Row). IsPermutation below (one ++ other)) (filter-filter (is_below (Int from)) (is_below (Int id)) (λ row. below_higher (Int from) (Int id) up (rowid row)) table) (filter_swap (is_from (Int from)) (is_below (Int id)) table)
      (IsPermutation-filter_both (is_below (Int from)) (is_from (Int from)) (λ _. refl) below) in
      let later_high = all-filter _ (is_below (Int id)) rest rest_high in
      let same = rows_below (is_from (Int from)) most table rows page (Int id) has in record {
        rowids = rowids_together (Int from) below first later parts first_low later_high was.rowids (rowids_of (is_from (Int from)) most table rows page later _ same (rowids_below (Int id) rows are));
        named_below = λ is. let both = and_parts before named is in
            named_together (Int from) below first later parts first_low later_high (was.named_below both.0) (names_of (is_from (Int from)) most table rows page later _ same (all-filter IsOne (is_below (Int id)) rows (says.0 both.1)));
        all_named = all_true;
      }

-- ---- what the queries answer

at_least : (o : Ordering) → is_ge o ≡ not (is_lt o)
at_least Less = refl
at_least Equal = refl
at_least Greater = refl

from_test : (id : ℤ) (v : Value) → is_true (binary (Compare Ge Binary) v (Int id)) ≡ not (is_lt (value_cmp v (Int id)))
unfolding binary value_cmp
from_test id Null = refl
from_test id (Int n) = truth_back _ ∙ at_least (value_cmp (Int n) (Int id))
from_test id (Real x) = truth_back _ ∙ at_least (value_cmp (Real x) (Int id))
from_test id (Text t) = truth_back _ ∙ at_least (value_cmp (Text t) (Int id))
from_test id (Blob b) = truth_back _ ∙ at_least (value_cmp (Blob b) (Int id))

module _ (tree : ℕ) (db : Trees) (tests : List Term) (limit : Term) (params : Row) (most : ℕ) where
  abbrev query : Query
  query = over tree tests named_cells by_rowid limit

  abbrev seen : Trees
  seen = overlay db []

  abbrev told : Row → Output
  told = out tree tests named_cells by_rowid limit seen params

  -- an answer has its key as the first of its columns
  abbrev HasKey : Output → Type 0
  HasKey o = column o.1 0 ≡ column o.0 0

  -- an answer with a limit is a page
  page_of : seen tree ≡ db tree → ((rows : List Row) → paged query params rows ≡ take most rows) → (passes : Row → Bool) → ((row : Row) → list_all (holds (params ∷ row ∷ [])) tests ≡ passes row) → (rows : List Row) → IsAnswer query seen params rows → IsPage passes most (db tree) rows
  page_of sees limits passes is rows a =
      let kept = filter passes (db tree) in
      let found : IsPermutation (map told kept) a.ordered =
      subst (λ own. IsPermutation (map told own) a.ordered) (filter_same _ _ is (seen tree) ∙ ap (filter passes) sees) (answered tree tests named_cells by_rowid limit seen params rows a) in
      let keyed : AllByRecursion HasKey a.ordered = all-permutation HasKey _ _ found (all-map HasKey told (λ row. refl) kept) in record {
        shown = λ row. column row 0 ∷ named_cell row ∷ [];
        shows = record { ids = λ _. refl; named = named_is };
        all = map (λ (o : Output). o.1) a.ordered;
        same = subst (λ shown. IsPermutation shown (map (λ (o : Output). o.1) a.ordered)) (map-map (λ (o : Output). o.1) told kept) (IsPermutation-map (λ (o : Output). o.1) _ _ found);
        rising = told_in_order (λ x y. is_gt (output_cmp query x y) ≡ false) (λ v w. is_gt (value_cmp (rowid v) (rowid w)) ≡ false) HasKey (λ (o : Output). o.1)
            (λ x y x_key y_key up. subst₂ (λ v w. is_gt (value_cmp v w) ≡ false) (sym x_key) (sym y_key) (ap is_gt (sym (then_equal (value_cmp (column x.0 0) (column y.0 0)))) ∙ up)) a.ordered
            (sorted_rises (output_cmp query) (output_cmp_total query) a.ordered a.sorted) keyed;
        first = a.shown ∙ limits (map (λ (o : Output). o.1) a.ordered);
      }

module _ (text : List ℕ) (tree : ℕ) (old new : State) (has : old.now.schema ≡ second_schema) (most : ℕ) (rows : List Row) where
  pub first_page : IsQuery text (first_rows tree) names_shown → overlay old.now.trees [] tree ≡ old.now.trees tree → Shown text (Int (pos most) ∷ []) old new rows → IsPage (λ _. true) most (old.now.trees tree) rows
  first_page is sees shown =
      let read = reads_as text (Int (pos most) ∷ []) old new second_schema has _ is.0 is.2 is.1 rows shown in
      page_of tree old.now.trees [] (col 0 0) (Int (pos most) ∷ []) most sees (λ _. refl) (λ _. true) (λ _. refl) rows (read.answer Null)

  pub page_from : (id : ℤ) → IsQuery text (rows_from tree) names_shown → overlay old.now.trees [] tree ≡ old.now.trees tree → Shown text (Int id ∷ Int (pos most) ∷ []) old new rows → IsPage (is_from (Int id)) most (old.now.trees tree) rows
  page_from id is sees shown =
      let params = Int id ∷ Int (pos most) ∷ [] in
      let read = reads_as text params old new second_schema has _ is.0 is.2 is.1 rows shown in
      page_of tree old.now.trees from_id (col 0 1) params most sees (λ _. refl) (is_from (Int id)) (λ row. and_true _ ∙ from_test id (column row 0)) rows (read.answer Null)

-- ---- page after page

-- so far this is known of what was found first, and nothing was changed
pub record HasReadPages (old now : State) (Found : Type 0) : Type 0 where
  pub shows : ShowsSchema second_schema now
  pub survives : Survives old now (λ _. ⊥)
  pub was_open : HasCleanDisk now → IsTrue now.is_open → IsTrue old.is_open
  pub same : HasCleanDisk now → IsTrue old.is_open → IsUnchanged old now
  pub found : HasCleanDisk now → IsTrue old.is_open → Found

pub no_page_yet : (s : State) (Found : Type 0) → Found → ShowsSchema second_schema s → HasReadPages s s Found
no_page_yet s Found found shows = record {
  shows = shows;
  survives = record { clean = omega arith; shield = λ shielded. shielded; counts = omega arith; limit = refl; closes = λ _ live. inl live; crash = λ _ db left. inl left };
  was_open = λ _ live. live;
  same = λ _ live. unchanged s live;
  found = λ _ _. found;
}

-- a page more
pub one_page_more : (old now next : State) (Found More : Type 0) → HasReadPages old now Found → Survives now next (λ _. ⊥) → (HasCleanDisk next → IsUnchanged now next) → (HasCleanDisk next → now.now ≡ old.now → Found → More) → HasReadPages old next More
one_page_more old now next Found More so_far survives same more = record {
  shows = λ clean live. let it = same clean in ap (λ (d : Database). d.schema) it.0.now_is ∙ so_far.shows (clean_before now next _ survives clean) it.0.was_open;
  survives = survives_then old now next (λ _. ⊥) (λ _. ⊥) (λ _. ⊥) (λ _ db none. none) (λ _ db none. none) so_far.survives survives;
  was_open = λ clean live. so_far.was_open (clean_before now next _ survives clean) (same clean).0.was_open;
  same = λ clean live. unchanged_then old now next (so_far.same (clean_before now next _ survives clean) live) (same clean);
  found = λ clean live. let before = clean_before now next _ survives clean in more clean (so_far.same before live).0.now_is (so_far.found before live);
}
