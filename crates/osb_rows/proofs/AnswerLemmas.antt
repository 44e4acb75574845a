-- What a query over one table answers, in whatever order the table's rows lie.
use Rattle.std.proofs.Common.{◌≡◌, ℕ, pos, List, [], ◌∷◌, map, filter, Bool, true, false, cond, None, Less, refl, sym, ap, subst, ◌∙◌, IsPermutation}
use Rattle.std.specs.List.{list_all, flat_map}
use Rattle.std.specs.Cmp.{IsTotalOrder}
use Rattle.std.specs.declared.cmp.Ordering.{Ordering}
use Rattle.std.proofs.lemmas.List.Sorted.{IsPermutation-map, IsPermutation-trans, IsPermutation-sym}
use Rattle.sqlite_value.specs.declared.value.Value.TheVariants.{Null, Int}
use Rattle.sqlite_value.specs.declared.keys.Key.{Key}
use Rattle.sqlite_value.specs.Order.{Row}
use Rattle.sqlite_trees.specs.Tree.{Trees}
use Rattle.sqlite_sql.specs.Term.{Term, lit, holds}
use Rattle.sqlite_sql.specs.Query.{Query, Output, output, output_cmp, page, matches_as, inner, end, IsAnswer}
use Rattle.sqlite_sql.proofs.QueryLemmas.{output_cmp_total}
use Rattle.sqlite_keyed.proofs.SortLemmas.{sorted_unique}
use Rattle.sqlite_keyed.proofs.ListLemmas.{ascending-filter, ascending-map, ascending_weaker, filter_as_flat_map, filter_same, flat_map_same_on, map-flat_map, map-map, map_same}
use Rattle.osb_rows.specs.Rows.{Stores}
use Rattle.osb_rows.proofs.StoresLemmas.{hits_show}

-- a query over the rows of one table
abbrev pub over : ℕ → List Term → List Term → List (Term × Key) → Term → Query
over tree filter project order limit = record {
  from = inner tree end;
  filter = filter;
  group = None;
  project = project;
  distinct = false;
  collations = [];
  order = order;
  limit = limit;
  offset = lit (Int (pos 0));
}

module _ (tree : ℕ) (terms project : List Term) (order : List (Term × Key)) (limit : Term) (db : Trees) (params : Row) where
  abbrev query : Query
  query = over tree terms project order limit

  abbrev pub passes : Row → Bool
  passes row = list_all (holds (params ∷ row ∷ [])) terms

  abbrev pub out : Row → Output
  out row = output query (params ∷ row ∷ [])

  -- what the matches show is what the rows show that pass
  matched : (rows : List Row) → map (output query) (flat_map (λ row. matches_as Null db terms end (params ∷ row ∷ [])) rows) ≡ map out (filter passes rows)
  matched rows =
      map-flat_map (output query) _ rows ∙ flat_map_same_on _ _ (λ row. single (passes row) row) rows
      ∙ sym (ap (map out) (filter_as_flat_map passes rows) ∙ map-flat_map out (λ row. cond (passes row) (row ∷ []) []) rows)
    where
      single : (passed : Bool) (row : Row) → map (output query) (cond passed ((params ∷ row ∷ []) ∷ []) []) ≡ map out (cond passed (row ∷ []) [])
      single true row = refl
      single false row = refl

  -- the rows that pass, in an order that ORDER BY allows
  pub answered : (rows : List Row) (a : IsAnswer query db params rows) → IsPermutation (map out (filter passes (db tree))) a.ordered
  answered rows a = subst (λ kept. IsPermutation kept a.ordered) (a.distinct ∙ ap (map (output query)) a.grouped ∙ matched (db tree)) a.same

  -- Where the query reads no rowid and the keys decide the order, there is one answer.
  module _ {E : Type 0} (cells : Row → Row) (shown : E → Row) (cmp : E → E → Ordering) (total : IsTotalOrder cmp) (hit : E → Bool)
      (passes_cells : (row : Row) → passes row ≡ passes (Null ∷ cells row)) (out_cells : (row : Row) → out row ≡ out (Null ∷ cells row))
      (agree : (e : E) → passes (Null ∷ shown e) ≡ hit e)
      (ordered : (a b : E) → cmp a b ≡ Less → output_cmp query (out (Null ∷ shown a)) (out (Null ∷ shown b)) ≡ Less) where
    abbrev told : Row → Output
    told cell = out (Null ∷ cell)

    abbrev tells : E → Output
    tells e = told (shown e)

    -- the rows that pass tell what the entries tell that are hit
    same_told : (es : List E) → Stores cells shown cmp (db tree) es → IsPermutation (map out (filter passes (db tree))) (map tells (filter hit es))
    same_told es stores =
        let by_cells = ap (map out) (filter_same _ _ passes_cells (db tree)) ∙ map_same out _ out_cells _ ∙ sym (map-map told cells _) in
        let hits = IsPermutation-map told _ _ (hits_show cmp total cells shown (λ cell. passes (Null ∷ cell)) hit agree (db tree) es stores) in
        subst (λ rows. IsPermutation rows (map tells (filter hit es))) (sym by_cells) (subst (IsPermutation _) (map-map told shown (filter hit es)) hits)

    pub one_answer : (es : List E) (rows : List Row) → Stores cells shown cmp (db tree) es → IsAnswer query db params rows → rows ≡ page query params (map (λ e. (tells e).1) (filter hit es))
    one_answer es rows stores a =
        let up = ascending-map (λ x y. output_cmp query x y ≡ Less) tells _ (ascending_weaker _ _ ordered _ (ascending-filter _ hit es stores.rising)) in
        let same = IsPermutation-trans _ _ _ (IsPermutation-sym _ _ (same_told es stores)) (answered rows a) in
        let is = sorted_unique (output_cmp query) (output_cmp_total query) (map tells (filter hit es)) a.ordered up same a.sorted in
        a.shown ∙ ap (λ outputs. page query params (map (λ (o : Output). o.1) outputs)) is ∙ ap (page query params) (map-map (λ (o : Output). o.1) tells _)
