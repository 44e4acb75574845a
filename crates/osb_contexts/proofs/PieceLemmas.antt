-- What is read of the rows of some instances, and that each row has the id of one.
use Rattle.std.proofs.Common.{◌≡◌, ℕ, pos, List, [], ◌∷◌, length, map, filter, Bool, true, false, not, ◌&&◌, Option, None, Some, Ordering, Less, Equal, Greater, is_gt, refl, sym, ap, subst, subst₂, ◌∙◌, IsPermutation}
use Rattle.std.specs.Prelude.{◌↔◌, unwrap_or}
use Rattle.std.specs.Ordering.{is_le}
use Rattle.std.specs.List.{list_all}
use Rattle.std.proofs.lemmas.List.{length-map}
use Rattle.std.proofs.lemmas.List.Sorted.{IsPermutation-map, IsPermutation-sym, IsPermutation-trans, length_permutation}
use Rattle.sqlite.specs.declared.types.Value.{Value}
use Rattle.sqlite.specs.declared.types.Value.TheVariants.{Null, Int, Real, Text, Blob}
use Rattle.sqlite.specs.Order.{Row, column, value_cmp}
use Rattle.sqlite.specs.Ops.{binary, is_true, from_truth}
use Rattle.sqlite.specs.Program.{overlay}
use Rattle.sqlite.specs.Query.{Output, IsAnswer, output_cmp}
use Rattle.sqlite.specs.Term.{Term, holds}
use Rattle.sqlite.specs.Tree.{Trees}
use Rattle.sqlite_sql.specs.declared.ops.BinaryOp.TheVariants.{And, Compare}
use Rattle.sqlite_sql.specs.declared.ops.CompareOp.TheVariants.{Gt, Le}
use Rattle.sqlite_sql.specs.Ops.{is_null, truth, and3}
use Rattle.sqlite_sql.proofs.QueryLemmas.{output_cmp_total}
use Rattle.sqlite_value.specs.declared.keys.Collation.TheVariants.{Binary}
use Rattle.sqlite_value.specs.declared.keys.Key.{Key}
use Rattle.sqlite_keyed.proofs.ListLemmas.{all-filter, ascending-filter, ascending-map, ascending_weaker, filter_same, map-map, map_same}
use Rattle.sqlite_keyed.proofs.SortLemmas.{sorted_unique}
use Rattle.osb_rows.specs.Rows.{Apart, AreRows, Stores}
use Rattle.osb_rows.proofs.AnswerLemmas.{over, out, answered}
use Rattle.osb_contexts.specs.Pieces.{beyond, is_between, is_row_between}
use Rattle.osb_contexts.specs.Read.{HaveRowids}
use Rattle.osb_contexts.proofs.TestLemmas.{truth_back, and_true}
use Rattle.osb_contexts.proofs.Texts.{every, between_tests}

-- ---- the tests

not_greater : (o : Ordering) → is_le o ≡ not (is_gt o)
not_greater Less = refl
not_greater Equal = refl
not_greater Greater = refl

abbrev is_above : Value → Value → Bool
is_above a b = is_true (binary (Compare Gt Binary) a b)

abbrev is_up_to : Value → Value → Bool
is_up_to a b = is_true (binary (Compare Le Binary) a b)

-- as WHERE compares values that aren't NULL
above_test : (a b : Value) → is_null a ≡ false → is_null b ≡ false → is_above a b ≡ is_gt (value_cmp a b)
unfolding binary
above_test a b some other = rw (some, other) (truth_back (is_gt (value_cmp a b)))

up_to_test : (a b : Value) → is_null a ≡ false → is_null b ≡ false → is_up_to a b ≡ not (is_gt (value_cmp a b))
unfolding binary
up_to_test a b some other = rw (some, other) (truth_back (is_le (value_cmp a b)) ∙ not_greater (value_cmp a b))

above_null : (a : Value) → is_null a ≡ false → is_gt (value_cmp a Null) ≡ true
unfolding value_cmp
above_null Null some = cc
above_null (Int n) some = refl
above_null (Real x) some = refl
above_null (Text t) some = refl
above_null (Blob b) some = refl

null_is_low : (after : List ℕ) → is_gt (value_cmp Null (Text after)) ≡ false
unfolding value_cmp
null_is_low after = refl

never_up_to_null : (a : Value) → is_up_to a Null ≡ false
unfolding binary
never_up_to_null Null = refl
never_up_to_null (Int n) = refl
never_up_to_null (Real x) = refl
never_up_to_null (Text t) = refl
never_up_to_null (Blob b) = refl

never_above : (b : Value) → is_above Null b ≡ false
unfolding binary
never_above b = refl

-- a test of both bounds is the definition's
pub between_test : (after : List ℕ) (to id : Value) → (is_above id (Text after) && is_up_to id to) ≡ is_between after to id
between_test after to id = by_null (is_null id) (is_null to) refl refl
  where
    null_is : (v : Value) → is_null v ≡ true → v ≡ Null
    null_is Null is = refl
    null_is (Int n) is = cc
    null_is (Real x) is = cc
    null_is (Text t) is = cc
    null_is (Blob b) is = cc

    by_null : (b c : Bool) → is_null id ≡ b → is_null to ≡ c → (is_above id (Text after) && is_up_to id to) ≡ is_between after to id
    by_null true c is other = rw (null_is id is, never_above (Text after), null_is_low after) refl
    by_null false true some is = rw (null_is to is, never_up_to_null id, above_null id some, above_test id (Text after) some refl) refl
    by_null false false some other = rw (above_test id (Text after) some refl, up_to_test id to some other) refl

pub at_between : (after : List ℕ) (to : Value) (row : Row) → list_all (holds ((Text after ∷ to ∷ []) ∷ row ∷ [])) between_tests ≡ is_row_between after to row
at_between after to row = ap (λ b. is_above (column row 1) (Text after) && b) (and_true (is_up_to (column row 1) to)) ∙ between_test after to (column row 1)

-- ---- the rows of a piece

module _ (tree : ℕ) (db : Trees) (after : List ℕ) (to : Value) where
  abbrev seen : Trees
  seen = overlay db []

  abbrev bounds : Row
  bounds = Text after ∷ to ∷ []

  abbrev kept : List Row
  kept = filter (is_row_between after to) (db tree)

  module _ (sees : seen tree ≡ db tree) (project : List Term) (order : List (Term × Key)) (rows : List Row) (a : IsAnswer (over tree between_tests project order every) seen bounds rows) where
    abbrev told : Row → Output
    told = out tree between_tests project order every seen bounds

    told_rows : IsPermutation (map told kept) a.ordered
    told_rows =
        subst (λ own. IsPermutation (map told own) a.ordered) (filter_same _ _ (at_between after to) (seen tree) ∙ ap (filter (is_row_between after to)) sees)
        (answered tree between_tests project order every seen bounds rows a)

    -- as many rows as the piece has
    pub piece_counted : length rows ≡ length kept
    piece_counted = ap length a.shown ∙ length-map a.ordered _ ∙ length_permutation _ _ told_rows ∙ length-map kept told

    module _ {E : Type 0} (cells : Row → Row) (shown : E → Row) (cmp : E → E → Ordering)
        (told_shows : (row : Row) → (told row).1 ≡ cells row) (told_cells : (row : Row) → told row ≡ told (Null ∷ cells row))
        (shows : (e : E) → (told (Null ∷ shown e)).1 ≡ shown e)
        (ordered : (a b : E) → cmp a b ≡ Less → output_cmp (over tree between_tests project order every) (told (Null ∷ shown a)) (told (Null ∷ shown b)) ≡ Less)
        (columns : Row → Row) (columns_cells : (row : Row) → columns (cells row) ≡ cells row) (columns_shown : (e : E) → columns (shown e) ≡ shown e) where
      abbrev tells : E → Output
      tells e = told (Null ∷ shown e)

      same_told : (others : List E) → Stores cells shown cmp kept others → IsPermutation (map told kept) (map tells others)
      same_told others stores =
          subst₂ IsPermutation (map-map (λ cell. told (Null ∷ cell)) cells kept ∙ sym (map_same told _ told_cells kept)) (map-map (λ cell. told (Null ∷ cell)) shown others)
          (IsPermutation-map (λ cell. told (Null ∷ cell)) _ _ stores.held.same)

      -- where they store entries, the rows that were read show them
      pub piece_shown : (others : List E) → Stores cells shown cmp kept others → rows ≡ map shown others
      piece_shown others stores =
          let query = over tree between_tests project order every in
          let up = ascending-map (λ x y. output_cmp query x y ≡ Less) tells others (ascending_weaker _ _ ordered others stores.rising) in
          let same = IsPermutation-trans _ _ _ (IsPermutation-sym _ _ (same_told others stores)) told_rows in
          let is = sorted_unique (output_cmp query) (output_cmp_total query) (map tells others) a.ordered up same a.sorted in
          a.shown ∙ ap (map (λ (o : Output). o.1)) is ∙ map-map (λ (o : Output). o.1) tells others ∙ map_same _ shown shows others

      -- the rows show what was read of them
      pub piece_read : (entries : List E) → HaveRowids (db tree) → map shown entries ≡ map columns rows → AreRows cells kept (map shown entries) × ((others : List E) → Stores cells shown cmp kept others → map shown others ≡ map shown entries)
      piece_read entries have is = (
        record {
          apart = ascending-filter Apart (is_row_between after to) (db tree) have.apart;
          keyed = all-filter _ (is_row_between after to) (db tree) have.keyed;
          same =
              let all = subst₂ IsPermutation (map-map (λ (o : Output). o.1) told kept ∙ map_same _ cells told_shows kept) (sym a.shown) (IsPermutation-map (λ (o : Output). o.1) _ _ told_rows) in
              subst₂ IsPermutation (map-map columns cells kept ∙ map_same _ cells columns_cells kept) (sym is) (IsPermutation-map columns _ _ all);
        },
        λ others stores. sym (is ∙ ap (map columns) (piece_shown others stores) ∙ map-map columns shown others ∙ map_same _ shown columns_shown others),
      )

-- ---- rows that are named

-- what the column beside the rowid has
abbrev pub named_cell : Row → Value
named_cell row = binary And (binary (Compare Gt Binary) (column row 1) (Text [])) (binary (Compare Le Binary) (column row 1) beyond)

both_true : (a b : Option Bool) → from_truth (and3 a b) ≡ Int (pos 1) → (unwrap_or a false && unwrap_or b false) ≡ true
both_true (Some true) (Some true) is = refl
both_true (Some true) (Some false) is = absurd (cc)
both_true (Some true) None is = absurd (cc)
both_true (Some false) b is = absurd (cc)
both_true None (Some true) is = absurd (cc)
both_true None (Some false) is = absurd (cc)
both_true None None is = absurd (cc)

true_of_both : (a b : Option Bool) → (unwrap_or a false && unwrap_or b false) ≡ true → from_truth (and3 a b) ≡ Int (pos 1)
true_of_both (Some true) (Some true) is = refl
true_of_both (Some true) (Some false) is = absurd (cc)
true_of_both (Some true) None is = absurd (cc)
true_of_both (Some false) b is = absurd (cc)
true_of_both None b is = absurd (cc)

-- AND in a column
and_cell : (a b : Value) → (binary And a b ≡ Int (pos 1)) ↔ ((is_true a && is_true b) ≡ true)
unfolding binary
and_cell a b = (both_true (truth a) (truth b), true_of_both (truth a) (truth b))

pub named_is : (row : Row) → (named_cell row ≡ Int (pos 1)) ↔ (is_row_between [] beyond row ≡ true)
named_is row =
    let both = and_cell (binary (Compare Gt Binary) (column row 1) (Text [])) (binary (Compare Le Binary) (column row 1) beyond) in
    let is = between_test [] beyond (column row 1) in
    (λ one. sym is ∙ both.0 one, λ between. both.1 (is ∙ between))
