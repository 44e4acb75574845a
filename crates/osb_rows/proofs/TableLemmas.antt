-- What a statement makes of the entries of its table.
use Rattle.std.proofs.Common.{◌≡◌, inl, inr, ℕ, ℤ, negsuc, List, [], ◌∷◌, map, filter, Bool, true, false, cond, Ordering, Equal, is_eq, refl, sym, ap, subst, subst₂, ◌∙◌, arith, IsPermutation}
use Rattle.std.specs.List.{AllByRecursion, list_all}
use Rattle.std.specs.Cmp.{IsTotalOrder}
use Rattle.std.proofs.lemmas.Bool.{and_parts, not-true}
use Rattle.std.proofs.lemmas.List.Sorted.{IsPermutation-sym, IsPermutation-map, length_permutation}
use Rattle.sqlite.specs.declared.types.Value.TheVariants.{Null, Int}
use Rattle.sqlite.specs.declared.types.Value.{Value}
use Rattle.sqlite.specs.Order.{Row}
use Rattle.sqlite.specs.Ops.{unary}
use Rattle.sqlite.specs.Cast.{cast, cast_all}
use Rattle.sqlite.specs.Kind.TheVariants.{Integer}
use Rattle.sqlite.specs.Term.{Term, col, lit, eval_all, holds}
use Rattle.sqlite.specs.Query.{Output, IsAnswer}
use Rattle.sqlite.specs.Edit.{Edit, edit_of, next_rowid}
use Rattle.sqlite.specs.Rowids.TheVariants.{Chosen, Given}
use Rattle.sqlite_trees.specs.Tree.{Trees, rowid, put_row}
use Rattle.sqlite_trees.specs.View.{is_int}
use Rattle.sqlite.specs.Schema.{Schema}
use Rattle.sqlite.specs.Table.{Table}
use Rattle.sqlite_schema.specs.declared.schema.Keys.{Keys}
use Rattle.sqlite_schema.specs.declared.schema.Column.{Column}
use Rattle.sqlite_rules.specs.Edit.{Applies, put_all, is_taken, are_fresh, left_by}
use Rattle.sqlite_rules.specs.Calls.{ids_of}
use Rattle.sqlite_rules.proofs.TableLemmas.{int_is}
use Rattle.sqlite_keyed.specs.Lists.{insert_sorted, delete_where, update_where}
use Rattle.sqlite_keyed.proofs.ListLemmas.{map-map, filter_same, all-filter}
use Rattle.sqlite.proofs.Callers.{one_permutation}
use Rattle.osb_rows.specs.Rows.{Stores, HaveUtf8Texts}
use Rattle.osb_tables.specs.Tables.{plain_table}
use Rattle.osb_rows.proofs.RowLemmas.{id_of}
use Rattle.osb_rows.proofs.StoresLemmas.{all_hit, changed_stores, deleted_stores, hits_show, inserted_stores, none_changed, one_hit}
use Rattle.osb_rows.proofs.AnswerLemmas.{over, passes, out, answered}

-- ---- values and lists

same_branch : (b : Bool) (value : Value) → cond b value value ≡ value
same_branch true value = refl
same_branch false value = refl

pub cast_null : cast Integer Null ≡ Null
unfolding unary
cast_null = same_branch _ Null

pub cast_int : (n : ℤ) → cast Integer (Int n) ≡ Int n
unfolding unary
cast_int n = same_branch _ (Int n)

none_mapped : {X Y : Type 0} (f : X → Y) (xs : List X) → IsPermutation (map f xs) [] → xs ≡ []
none_mapped f [] same = refl
none_mapped f (x ∷ xs) same = absurd (omega (arith, length_permutation _ _ same))

one_mapped : {X Y : Type 0} (f : X → Y) (xs : List X) (y : Y) → IsPermutation (map f xs) (y ∷ []) → (x : X) × (xs ≡ x ∷ []) × (f x ≡ y)
one_mapped f xs y same = unmapped xs (one_permutation y (map f xs) (IsPermutation-sym _ _ same))
  where
    unmapped : (xs : List _) → map f xs ≡ y ∷ [] → (x : _) × (xs ≡ x ∷ []) × (f x ≡ y)
    unmapped [] is = absurd (cc)
    unmapped (x ∷ []) is = (x, refl, cc)
    unmapped (x ∷ z ∷ xs) is = absurd (cc)

-- a row that goes in alone is fresh where its rowid is free
free_alone : (rows : List Row) (new : Row) → are_fresh rows (new ∷ []) ≡ true → is_taken rows new ≡ false
free_alone rows new fresh = not-true _ (and_parts _ _ fresh).0

module _ (schema : Schema) (keys : Keys) (db next : Trees) (name : List ℕ) (tree : ℕ) (columns : List Column) (primary : List ℕ) (uniques : List (List ℕ))
    {E : Type 0} (cmp : E → E → Ordering) (total : IsTotalOrder cmp) (cells : Row → Row) (shown : E → Row) where
  abbrev table : Table
  table = plain_table name tree columns primary uniques

  -- an edit that puts in one row
  one_put : (edit : Edit) (new : Row) → edit.table ≡ table → edit.news ≡ new ∷ [] → Applies schema keys db edit next → (is_taken (left_by db edit) new ≡ false) × (next tree ≡ put_row new (left_by db edit))
  one_put edit new of_table one applied = (
    free_alone (left_by db edit) new (subst (λ news. are_fresh (left_by db edit) news ≡ true) one applied.fresh),
    subst (λ t. next t.tree ≡ put_all (left_by db edit) edit.news) of_table applied.rows ∙ ap (put_all (left_by db edit)) one,
  )

  pub insert_stores : (e : E) (es : List E) → ((value : Value) → cells (value ∷ shown e) ≡ shown e) → cast_all columns (shown e) ≡ shown e → AllByRecursion (λ y. is_eq (cmp e y) ≡ false) es → HaveUtf8Texts (shown e)
      → Applies schema keys db (edit_of db table [] Chosen 0 ((Null ∷ shown e) ∷ [])) next → Stores cells shown cmp (db tree) es → Stores cells shown cmp (next tree) (insert_sorted cmp e es)
  insert_stores e es read casts fresh text applied stores =
      let new : Row = Int (next_rowid (db tree)) ∷ shown e in
      let put = one_put (edit_of db table [] Chosen 0 ((Null ∷ shown e) ∷ [])) new refl (rw (cast_null, casts) refl) applied in
      subst (λ rows. Stores cells shown cmp rows (insert_sorted cmp e es)) (sym put.1) (inserted_stores cmp total cells shown (db tree) es new e refl put.0 (read _) fresh text stores)

  module _ (seen : Trees) (sees : seen tree ≡ db tree) (params : Row) (terms : List Term) (hit : E → Bool) (passes_cells : (row : Row) → list_all (holds (params ∷ row ∷ [])) terms ≡ list_all (holds (params ∷ (Null ∷ cells row) ∷ [])) terms)
      (agree : (e : E) → list_all (holds (params ∷ (Null ∷ shown e) ∷ [])) terms ≡ hit e) where
    abbrev test : Row → Bool
    test cell = list_all (holds (params ∷ (Null ∷ cell) ∷ [])) terms

    abbrev hits : List Row
    hits = filter (λ row. test (cells row)) (db tree)

    -- there is no LIMIT
    abbrev all_rows : Term
    all_rows = lit (Int (negsuc 0))

    abbrev outs : List Term → Row → Output
    outs project row = out tree terms project [] all_rows seen params row

    -- the query finds the rows that pass
    finds : (project : List Term) (rows : List Row) (a : IsAnswer (over tree terms project [] all_rows) seen params rows) → IsPermutation (map (outs project) hits) a.ordered
    finds project rows a =
        let in_seen = answered tree terms project [] all_rows seen params rows a in
        let in_db = subst (λ rows. IsPermutation (map (outs project) (filter (passes tree terms project [] all_rows seen params) rows)) a.ordered) sees in_seen in
        subst (λ found. IsPermutation (map (outs project) found) a.ordered) (filter_same _ _ passes_cells (db tree)) in_db

    pub delete_stores : (es : List E) (rows : List Row) → IsAnswer (over tree terms (col 1 0 ∷ []) [] all_rows) seen params rows
        → Applies schema keys db (edit_of db table (ids_of rows) Given 0 []) next → Stores cells shown cmp (db tree) es → Stores cells shown cmp (next tree) (delete_where hit es)
    delete_stores es rows a applied stores =
        let project = col 1 0 ∷ [] in
        let id = λ (o : Output). id_of o.1 in
        let ids : IsPermutation (map id_of hits) (ids_of rows) =
        subst₂ IsPermutation (map-map id (outs project) hits) (sym (map-map id_of (λ (o : Output). o.1) a.ordered) ∙ ap ids_of (sym a.shown)) (IsPermutation-map id _ _ (finds project rows a)) in
        subst (λ rows. Stores cells shown cmp rows (delete_where hit es)) (sym applied.rows) (deleted_stores cmp total cells shown test hit agree (db tree) es (ids_of rows) ids stores)

    module _ (keyed : (a b : E) → hit a ≡ true → hit b ≡ true → cmp a b ≡ Equal) (change : E → E) (same_key : (a b : E) → cmp (cond (hit a) (change a) a) (cond (hit b) (change b) b) ≡ cmp a b)
        (rest : List Term) (read : (value : Value) (e : E) → cells (value ∷ shown e) ≡ shown e)
        (moved : (row : Row) (e : E) → cells row ≡ shown e → hit e ≡ true → cast_all columns (eval_all rest (params ∷ row ∷ [])) ≡ shown (change e))
        (keeps_texts : (e : E) → hit e ≡ true → HaveUtf8Texts (shown e) → HaveUtf8Texts (shown (change e))) where
      -- the rowid as it was, the rowid that is to be, and the columns
      abbrev project : List Term
      project = col 1 0 ∷ col 1 0 ∷ rest

      abbrev updates : List Row → Edit
      updates rows = edit_of db table (ids_of rows) Given 1 rows

      abbrev Updated : List E → List Row → Type 0
      Updated es rows = Applies schema keys db (updates rows) next → Stores cells shown cmp (next tree) (update_where hit change es)

      -- one row is updated
      one_updated : (es : List E) (row : Row) (e : E) → hits ≡ row ∷ [] → cells row ≡ shown e → filter hit es ≡ e ∷ [] → Stores cells shown cmp (db tree) es → Updated es ((outs project row).1 ∷ [])
      one_updated es row e only shows one stores applied =
          let hits_e = (subst (AllByRecursion (λ e. hit e ≡ true)) one (all_hit hit es)).0 in
          let text : HaveUtf8Texts (shown e) = (subst (AllByRecursion (λ e. HaveUtf8Texts (shown e))) one (all-filter _ hit es stores.texts)).0 in
          let is_number = (subst (AllByRecursion (λ row. is_int (rowid row) ≡ true)) only (all-filter _ (λ row. test (cells row)) _ stores.held.keyed)).0 in
          let number : rowid row ≡ Int (id_of row) = int_is (rowid row) is_number in
          let new : Row = Int (id_of row) ∷ shown (change e) in
          let news = ap (λ value. (cast Integer value ∷ cast_all columns (eval_all rest (params ∷ row ∷ []))) ∷ []) number ∙ rw (cast_int (id_of row), moved row e shows hits_e) refl in
          let put = one_put (updates ((outs project row).1 ∷ [])) new refl news applied in
          subst (λ rows. Stores cells shown cmp rows (update_where hit change es)) (sym put.1)
          (changed_stores cmp total cells shown test hit agree change same_key (db tree) es row new e only one refl put.0 (read _ (change e)) (keeps_texts e hits_e text) stores)

      pub update_stores : (es : List E) (rows : List Row) → IsAnswer (over tree terms project [] all_rows) seen params rows → Stores cells shown cmp (db tree) es → Updated es rows
      update_stores es rows a stores =
          let show = hits_show cmp total cells shown test hit agree (db tree) es stores in
          let found = finds project rows a in
          elim (one_hit cmp total hit keyed es stores.rising) [
            | inl none ↦
                let no_hits = none_mapped cells hits (subst (λ es. IsPermutation (map cells hits) (map shown es)) none show) in
                let no_rows = a.shown ∙ ap (map (λ (o : Output). o.1)) (none_mapped (λ o. o) a.ordered (subst (λ os. IsPermutation os []) (sym (map_itself a.ordered)) (IsPermutation-sym _ _ (subst (λ hits. IsPermutation (map (outs project) hits) a.ordered) no_hits found)))) in
                subst (Updated es) (sym no_rows) (λ applied. subst₂ (Stores cells shown cmp) (sym applied.rows) (sym (none_changed hit change es none)) stores)
            | inr one ↦
                let it = one_mapped cells hits (shown one.0) (subst (λ es. IsPermutation (map cells hits) (map shown es)) one.1 show) in
                let one_row = a.shown ∙ ap (map (λ (o : Output). o.1)) (one_permutation _ _ (subst (λ hits. IsPermutation (map (outs project) hits) a.ordered) it.1 found)) in
                subst (Updated es) (sym one_row) (one_updated es it.0 one.0 it.1 it.2 one.1 stores)
          ]
        where
          map_itself : {X : Type 0} (xs : List X) → map (λ x. x) xs ≡ xs
          map_itself [] = refl
          map_itself (x ∷ xs) = ap (λ rest. x ∷ rest) (map_itself xs)
