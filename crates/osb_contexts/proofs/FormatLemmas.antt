-- What the statements do to the row of the format.
use Rattle.std.proofs.Common.{◌≡◌, ℕ, pos, List, [], ◌∷◌, map, filter, true, not, codes, Ok, nat_cmp, refl, sym, ap, subst, subst₂, ◌∙◌, arith, IsPermutation}
use Rattle.std.proofs.lemmas.Cmp.{nat_cmp_total}
use Rattle.std.proofs.lemmas.List.Sorted.{IsPermutation-refl, IsPermutation-map, length_permutation}
use Rattle.sqlite.specs.Order.{Row}
use Rattle.sqlite.specs.Program.{overlay}
use Rattle.sqlite.specs.Change.{KeepsRows}
use Rattle.sqlite.specs.Effect.{Database}
use Rattle.sqlite.specs.Query.{Output, IsAnswer}
use Rattle.sqlite.specs.Term.{col}
use Rattle.sqlite.specs.Listing.{understood}
use Rattle.sqlite.specs.State.{State, mode_of, Executes, IsUnchanged}
use Rattle.sqlite.proofs.Callers.{runs_as, statement_of}
use Rattle.sqlite_trees.specs.Tree.{Trees}
use Rattle.sqlite_rules.specs.Edit.{without_all}
use Rattle.sqlite_rules.specs.Calls.{ids_of}
use Rattle.sqlite_keyed.proofs.ListLemmas.{map-map}
use Rattle.osb_tables.specs.Tables.{second_schema, columns_of_formats, contexts_table}
use Rattle.osb_contexts.specs.Format.{version_cells, version_row, HoldsVersion}
use Rattle.osb_contexts.specs.Inside.{lasting_tables}
use Rattle.osb_contexts.specs.Made.{ClearsFormat}
use Rattle.osb_contexts.specs.Read.{HaveRowids}
use Rattle.osb_contexts.specs.Steps.{VersionSteps}
use Rattle.osb_rows.specs.Rows.{AreRows}
use Rattle.osb_rows.proofs.AnswerLemmas.{out, answered}
use Rattle.osb_rows.proofs.RowLemmas.{id_of, left_shows}
use Rattle.osb_rows.proofs.StatementLemmas.{insert_does, delete_does}
use Rattle.osb_rows.proofs.TableLemmas.{cast_int, insert_stores}
use Rattle.osb_contexts.proofs.SortLemmas.{none_stored}
use Rattle.osb_contexts.proofs.StepLemmas.{Leaves, within_then, within_later}
use Rattle.osb_contexts.proofs.Texts.{clear_format, clear_format_is, clear_query, every, insert_version, insert_version_is, insert_version_terms}

pub all_in : {A : Type 0} (items : List A) → filter (λ _. true) items ≡ items
all_in [] = refl
all_in (item ∷ items) = ap (λ rest. item ∷ rest) (all_in items)

none_in : {A : Type 0} (items : List A) → filter (λ _. not true) items ≡ []
none_in [] = refl
none_in (item ∷ items) = none_in items

same_items : {A : Type 0} (items : List A) → map (λ item. item) items ≡ items
same_items [] = refl
same_items (item ∷ items) = ap (λ rest. item ∷ rest) (same_items items)

none_left : {A : Type 0} (items : List A) → IsPermutation items [] → items ≡ []
none_left [] same = refl
none_left (item ∷ items) same = absurd (omega (arith, length_permutation _ _ same))

-- where the rowids of all rows are taken out, no row is left
none_remain : (rows : List Row) (ids : List _) → HaveRowids rows → IsPermutation (map id_of rows) ids → without_all rows ids ≡ []
none_remain rows ids have same =
    let shown : AreRows (λ row. row) rows rows = record { apart = have.apart; keyed = have.keyed; same = subst (λ items. IsPermutation items rows) (sym (same_items rows)) (IsPermutation-refl rows) } in
    let left = left_shows (λ row. row) (λ _. true) rows rows ids (subst (λ kept. IsPermutation (map id_of kept) ids) (sym (all_in rows)) same) shown in
    none_left _ (subst₂ IsPermutation (same_items (without_all rows ids)) (none_in rows) left.same)

-- the rowids that the deletion finds
ids_found : (db : Trees) (rows : List Row) → overlay db [] 0 ≡ db 0 → IsAnswer clear_query (overlay db []) [] rows → IsPermutation (map id_of (db 0)) (ids_of rows)
ids_found db rows sees a =
    let seen = overlay db [] in
    let outs : Row → Output = out 0 [] (col 1 0 ∷ []) [] every seen [] in
    let id = λ (o : Output). id_of o.1 in
    let found = subst (λ own. IsPermutation (map outs own) a.ordered) (all_in (seen 0) ∙ sees) (answered 0 [] (col 1 0 ∷ []) [] every seen [] rows a) in
    subst₂ IsPermutation (map-map id outs (db 0)) (sym (map-map id_of (λ (o : Output). o.1) a.ordered) ∙ ap ids_of (sym a.shown)) (IsPermutation-map id _ _ found)

module _ (old new : State) (count : ℕ) (has : old.now.schema ≡ second_schema) where
  abbrev Keeps : Type 0
  Keeps = Leaves second_schema (contexts_table ∷ lasting_tables) old new

  pub clears : HaveRowids (old.now.trees 0) → Executes clear_format [] old new (Ok count) → Keeps × (new.now.trees 0 ≡ [])
  clears have h =
      let w = runs_as clear_format [] old new second_schema has _ clear_format_is.0 clear_format_is.1 count h in
      let did = delete_does old.step_limit (mode_of old) [] old.now new.now w.tally (statement_of clear_format (understood second_schema clear_format)) second_schema 0 (codes "format") 0 columns_of_formats [] [] has refl (λ _ _. refl)
      clear_query w.changed in
      let applied = did.2.1 in
      let others = applied.tables in (
        (did.2.0, (others.1.1.1.1.0 (λ e. absurd (omega (arith, e))), (others.1.0 (λ e. absurd (omega (arith, e))), (others.1.1.0 (λ e. absurd (omega (arith, e))), (others.1.1.1.0 (λ e. absurd (omega (arith, e))), tt)))), w.sound),
        applied.rows ∙ none_remain (old.now.trees 0) _ have (ids_found old.now.trees did.0 refl did.1),
      )

  pub adds_version : old.now.trees 0 ≡ [] → Executes insert_version [] old new (Ok count) → Keeps × HoldsVersion 2 new.now.trees
  adds_version blank h =
      let w = runs_as insert_version [] old new second_schema has _ insert_version_is.0 insert_version_is.1 count h in
      let did = insert_does old.step_limit (mode_of old) [] old.now new.now w.tally (statement_of insert_version (understood second_schema insert_version)) second_schema 0 (codes "format") 0 columns_of_formats [] [] has refl (λ _ _. refl)
      insert_version_terms 2 (version_row 2) refl w.changed in
      let others = did.1.tables in (
        (did.0, (others.1.1.1.1.0 (λ e. absurd (omega (arith, e))), (others.1.0 (λ e. absurd (omega (arith, e))), (others.1.1.0 (λ e. absurd (omega (arith, e))), (others.1.1.1.0 (λ e. absurd (omega (arith, e))), tt)))), w.sound),
        insert_stores second_schema _ old.now.trees new.now.trees (codes "format") 0 columns_of_formats [] [] nat_cmp nat_cmp_total version_cells version_row 2 [] (λ _. refl) (rw (cast_int (pos 2)) refl) tt (tt, tt) did.1 (none_stored version_cells version_row nat_cmp _ blank),
      )

-- the check, the deletion and the insertion
pub version_then : (old read mid new : State) → IsUnchanged old read → ClearsFormat read mid → VersionSteps mid new → VersionSteps old new
version_then old read mid new same clears it =
    let first = clears.reshapes in let next = it.reshapes in
    let now = same.0.now_is in
    let kept : KeepsRows (contexts_table ∷ lasting_tables) read.now.trees new.now.trees = (next.kept.0 ∙ first.kept.0, (next.kept.1.0 ∙ first.kept.1.0, (next.kept.1.1.0 ∙ first.kept.1.1.0, (next.kept.1.1.1.0 ∙ first.kept.1.1.1.0, tt)))) in record {
      reshapes = record {
        within = within_later old read new same (within_then read mid new first.within next.within);
        schema_is = next.schema_is;
        kept = subst (λ (d : Database). KeepsRows (contexts_table ∷ lasting_tables) d.trees new.now.trees) now kept;
        sound = next.sound;
      };
      version = it.version;
    }
