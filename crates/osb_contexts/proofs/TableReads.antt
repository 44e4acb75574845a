-- What is read of the table of contexts, and of the rowids of the format.
use Rattle.std.proofs.Common.{◌≡◌, ℕ, [], ◌∷◌, List, map, refl, sym, ap, ◌∙◌}
use Rattle.sqlite.specs.declared.types.Value.{Value}
use Rattle.sqlite.specs.declared.types.Value.TheVariants.{Null, Text}
use Rattle.sqlite.specs.Order.{Row}
use Rattle.sqlite.specs.Program.{overlay}
use Rattle.sqlite.specs.Query.{IsAnswer}
use Rattle.sqlite.specs.State.{State, Shown}
use Rattle.sqlite.proofs.Callers.{reads_as}
use Rattle.sqlite_keyed.proofs.ListLemmas.{map_back}
use Rattle.osb_tables.specs.Tables.{second_schema}
use Rattle.osb_rows.proofs.AnswerLemmas.{over}
use Rattle.osb_joined.specs.declared.entry.ContextEntry.{ContextEntry}
use Rattle.osb_joined.specs.Contexts.{context_cmp}
use Rattle.osb_rows.specs.Rows.{AreInUtf8}
use Rattle.osb_contexts.specs.Contexts.{context_row, context_cells, context_decoded, HoldsContexts, AreContextsOf}
use Rattle.osb_contexts.specs.Pieces.{piece}
use Rattle.osb_contexts.specs.Read.{AreRowids, HaveRowids, context_columns}
use Rattle.osb_contexts.proofs.PieceLemmas.{piece_read, piece_shown}
use Rattle.osb_contexts.proofs.SortLemmas.{context_back}
use Rattle.osb_contexts.proofs.TestLemmas.{by_both}
use Rattle.osb_contexts.proofs.Texts.{all_cells, between_tests, by_key, every, select_contexts, select_contexts_is, version_rowids, version_rowids_is}
use Rattle.osb_contexts.proofs.WholeLemmas.{rowids_shown}

module _ (old new : State) (has : old.now.schema ≡ second_schema) (rows : List Row) where
  contexts_answer : (after : List ℕ) (to : Value) → Shown select_contexts (Text after ∷ to ∷ []) old new rows → IsAnswer (over 7 between_tests all_cells by_key every) (overlay old.now.trees []) (Text after ∷ to ∷ []) rows
  contexts_answer after to shown = (reads_as select_contexts (Text after ∷ to ∷ []) old new second_schema has _ select_contexts_is.0 select_contexts_is.2 select_contexts_is.1 rows shown).answer Null

  pub contexts_shown : (after : List ℕ) (to : Value) (entries : List ContextEntry) → Shown select_contexts (Text after ∷ to ∷ []) old new rows → HoldsContexts entries (piece after to old.now.trees) → rows ≡ map context_row entries
  contexts_shown after to entries shown stores =
      piece_shown 7 old.now.trees after to refl all_cells by_key rows (contexts_answer after to shown) context_cells context_row context_cmp (λ _. refl) (λ _. refl) (λ _. refl) (λ a b less. by_both a b ∙ less) context_columns (λ _. refl) (λ _. refl) entries stores

  pub contexts_read : (after : List ℕ) (to : Value) (entries : List ContextEntry) → Shown select_contexts (Text after ∷ to ∷ []) old new rows → map context_row entries ≡ map context_columns rows → AreInUtf8 context_row entries → HaveRowids (old.now.trees 7)
      → AreContextsOf (piece after to old.now.trees) entries
  contexts_read after to entries shown is texts have =
      let list = piece_read 7 old.now.trees after to refl all_cells by_key rows (contexts_answer after to shown) context_cells context_row context_cmp (λ _. refl) (λ _. refl) (λ _. refl) (λ a b less. by_both a b ∙ less) context_columns (λ _. refl) (λ _. refl) entries have is in
      record { held = list.0; texts = texts; only = λ others stores. same_contexts others entries (list.1 others stores) }
    where
      same_contexts : (es others : List ContextEntry) → map context_row es ≡ map context_row others → es ≡ others
      same_contexts es others is = sym (map_back context_row context_decoded context_back es) ∙ ap (map context_decoded) is ∙ map_back context_row context_decoded context_back others

pub format_rowids : (old new : State) (ids : List Row) → old.now.schema ≡ second_schema → Shown version_rowids [] old new ids → AreRowids ids → HaveRowids (old.now.trees 0)
format_rowids old new ids has shown are =
    let found = reads_as version_rowids [] old new second_schema has _ version_rowids_is.0 version_rowids_is.2 version_rowids_is.1 ids shown in
    rowids_shown 0 old.now.trees refl ids (found.answer Null) are
