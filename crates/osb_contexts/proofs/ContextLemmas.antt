-- What the statements do to the rows of contexts, and what the query of one key answers.
use Rattle.std.proofs.Common.{◌≡◌, inl, inr, ℕ, pos, List, [], ◌∷◌, map, filter, slice_get, true, codes, Option, Some, Ok, refl, sym, ap, subst, ◌∙◌, arith}
use Rattle.std.specs.List.{AllByRecursion}
use Rattle.std.specs.Str.{is_utf8}
use Rattle.sqlite.specs.declared.types.Value.TheVariants.{Null, Int, Text}
use Rattle.sqlite.specs.Order.{Row, column, bytes}
use Rattle.sqlite.specs.Term.{col, eval_all}
use Rattle.sqlite.specs.Cast.{cast_all}
use Rattle.sqlite.specs.Program.{overlay}
use Rattle.sqlite.specs.Listing.{understood}
use Rattle.sqlite.specs.State.{State, mode_of, Executes, Shown}
use Rattle.sqlite.proofs.Callers.{runs_as, reads_as, statement_of}
use Rattle.sqlite_keyed.specs.Lists.{insert_sorted, update_where}
use Rattle.osb_tables.specs.Tables.{tables_schema, second_schema, columns_of_contexts}
use Rattle.osb_joined.specs.declared.entry.ContextEntry.{ContextEntry}
use Rattle.osb_joined.specs.Contexts.{context_cmp, context_entry, is_context, with_context, AreRising}
use Rattle.osb_rows.specs.Rows.{HaveUtf8Texts}
use Rattle.osb_contexts.specs.Contexts.{context_row, context_cells, contexts_in, HoldsContexts}
use Rattle.osb_contexts.specs.Read.{context_shown}
use Rattle.osb_contexts.specs.Inside.{Within}
use Rattle.osb_contexts.specs.Steps.{HasContexts, ContextSteps}
use Rattle.osb_rows.proofs.AnswerLemmas.{one_answer}
use Rattle.osb_rows.proofs.StatementLemmas.{insert_does, update_does}
use Rattle.osb_rows.proofs.StoresLemmas.{one_hit, all_hit}
use Rattle.osb_rows.proofs.TableLemmas.{cast_int, insert_stores, update_stores}
use Rattle.osb_contexts.proofs.SortLemmas.{context_total, contexts_are, held_again}
use Rattle.osb_contexts.proofs.StepLemmas.{Leaves}
use Rattle.osb_contexts.proofs.TestLemmas.{at_key, at_updated, by_both, context_keeps, has_other, hit_key, key_free, one_keyed, other_keyed, updated_others}
use Rattle.osb_contexts.proofs.Texts.{insert_context, insert_context_is, insert_context_terms, update_context, update_context_is, update_context_query, updated_cells, select_context, select_context_is, by_key, every, is_at, is_not_at}

cast_row : (entry : ContextEntry) → cast_all columns_of_contexts (context_row entry) ≡ context_row entry
cast_row entry = rw (cast_int (pos entry.number)) refl

updated_row : (params : Row) (context : List ℕ) (stored : Row) (entry : ContextEntry) → column params 0 ≡ Text context → context_cells stored ≡ context_row entry
    → cast_all columns_of_contexts (eval_all updated_cells (params ∷ stored ∷ [])) ≡ context_row (with_context context entry)
updated_row params context stored entry given is =
    let instance : column stored 1 ≡ Text entry.instance = ap (λ cells. column cells 0) is in
    let number : column stored 2 ≡ Int (pos entry.number) = ap (λ cells. column cells 1) is in
    rw (given, instance, number, cast_int (pos entry.number)) refl

-- what a statement on the table of contexts leaves
abbrev pub Gives : State → State → List ContextEntry → Type 0
Gives old new entries = Leaves second_schema (tables_schema).tables old new × HoldsContexts entries new.now.trees

pub steps_of : (old new : State) (entries : List ContextEntry) → Within old new → Gives old new entries → ContextSteps old new entries
steps_of old new entries within gives = record {
  within = within;
  tables = record { schema = gives.0.0; holds = held_again new.now.trees entries gives.1 };
  contexts_are = contexts_are new.now.trees entries gives.1;
  kept = gives.0.1;
  sound = gives.0.2;
}

module _ (old new : State) (count : ℕ) (tables : HasContexts old.now) (id : List ℕ) (number : ℕ) (context : List ℕ) where
  abbrev entries : List ContextEntry
  entries = contexts_in old.now.trees

  pub adds_context : filter (is_context id number) entries ≡ [] → HaveUtf8Texts (context_row (context_entry id number context)) → Executes insert_context (context_row (context_entry id number context)) old new (Ok count) → Gives old new (insert_sorted context_cmp (context_entry id number context) entries)
  adds_context none texts h =
      let entry = context_entry id number context in
      let params = context_row entry in
      let w = runs_as insert_context params old new second_schema tables.schema _ insert_context_is.0 insert_context_is.1 count h in
      let did = insert_does old.step_limit (mode_of old) params old.now new.now w.tally (statement_of insert_context (understood second_schema insert_context)) second_schema 4 (codes "contexts") 7 columns_of_contexts (1 ∷ 2 ∷ []) ((1 ∷ 2 ∷ []) ∷ []) tables.schema refl (λ _ _. refl)
      insert_context_terms 4 params refl w.changed in
      let others = did.1.tables in (
        (did.0, (others.0 (λ e. absurd (omega (arith, e))), (others.1.0 (λ e. absurd (omega (arith, e))), (others.1.1.0 (λ e. absurd (omega (arith, e))), (others.1.1.1.0 (λ e. absurd (omega (arith, e))), tt)))), w.sound),
        insert_stores second_schema _ old.now.trees new.now.trees (codes "contexts") 7 columns_of_contexts (1 ∷ 2 ∷ []) ((1 ∷ 2 ∷ []) ∷ []) context_cmp context_total context_cells context_row entry entries (λ _. refl) (cast_row entry) (key_free id number context entries none) texts did.1 tables.holds,
      )

  pub updates_context : is_utf8 context ≡ true → Executes update_context (Text context ∷ Text id ∷ Int (pos number) ∷ []) old new (Ok count) → Gives old new (update_where (is_context id number) (with_context context) entries)
  updates_context utf8 h =
      let params = Text context ∷ Text id ∷ Int (pos number) ∷ [] in
      let w = runs_as update_context params old new second_schema tables.schema _ update_context_is.0 update_context_is.1 count h in
      let did = update_does old.step_limit (mode_of old) params old.now new.now w.tally (statement_of update_context (understood second_schema update_context)) second_schema 4 (codes "contexts") 7 columns_of_contexts (1 ∷ 2 ∷ []) ((1 ∷ 2 ∷ []) ∷ []) tables.schema refl (λ _ _. refl)
      update_context_query w.changed in
      let applied = did.2.1 in
      let others = applied.tables in (
        (did.2.0, (others.0 (λ e. absurd (omega (arith, e))), (others.1.0 (λ e. absurd (omega (arith, e))), (others.1.1.0 (λ e. absurd (omega (arith, e))), (others.1.1.1.0 (λ e. absurd (omega (arith, e))), tt)))), w.sound),
        subst (λ next. HoldsContexts next new.now.trees) (updated_others context id number entries)
            (update_stores second_schema _ old.now.trees new.now.trees (codes "contexts") 7 columns_of_contexts (1 ∷ 2 ∷ []) ((1 ∷ 2 ∷ []) ∷ []) context_cmp context_total context_cells context_row (overlay old.now.trees []) refl params (is_at 1 1 ∷ is_at 2 2 ∷ is_not_at 3 0 ∷ [])
            (has_other context id number) (λ _. refl) (at_updated context id number) (other_keyed context id number) (with_context context) (context_keeps (has_other context id number) context) updated_cells (λ _ _. refl)
            (λ stored entry is hits. updated_row params context stored entry refl is) (λ entry hits texts. (texts.0, (tt, (utf8, tt)))) entries did.0 did.1 tables.holds applied),
      )

-- ---- the query of one key

pub shows_context : (old new : State) (tables : HasContexts old.now) (id : List ℕ) (number : ℕ) (rows : List Row) → Shown select_context (Text id ∷ Int (pos number) ∷ []) old new rows
    → (rows ≡ map context_shown (filter (is_context id number) (contexts_in old.now.trees))) × AreRising (contexts_in old.now.trees)
shows_context old new tables id number rows h =
    let params = Text id ∷ Int (pos number) ∷ [] in
    let read = reads_as select_context params old new second_schema tables.schema _ select_context_is.0 select_context_is.2 select_context_is.1 rows h in (
      one_answer 7 (is_at 1 0 ∷ is_at 2 1 ∷ []) (col 1 3 ∷ []) by_key every (overlay old.now.trees []) params context_cells context_row context_cmp context_total (is_context id number)
          (λ _. refl) (λ _. refl) (at_key id number) (λ a b less. by_both a b ∙ less) (contexts_in old.now.trees) rows tables.holds (read.answer Null),
      tables.holds.rising,
    )

-- the text of the one row is the context of the key
pub context_found : (id : List ℕ) (number : ℕ) (entries : List ContextEntry) (rows : List Row) (row : Row) (context : List ℕ) → rows ≡ map context_shown (filter (is_context id number) entries) → AreRising entries
    → slice_get rows 0 ≡ Some row → column row 0 ≡ Text context → filter (is_context id number) entries ≡ context_entry id number context ∷ []
context_found id number entries rows row context are up first reads = elim (one_hit context_cmp context_total (is_context id number) (one_keyed id number) entries up) [
  | inl none ↦ absurd (let no : rows ≡ [] = are ∙ ap (map context_shown) none in let empty = subst (λ rows. slice_get rows 0 ≡ Some row) no first in cc)
  | inr one ↦
      let entry = one.0 in
      let shown : rows ≡ context_shown entry ∷ [] = are ∙ ap (map context_shown) one.1 in
      let same : context_shown entry ≡ row = some_same (subst (λ rows. slice_get rows 0 ≡ Some row) shown first) in
      let text : entry.context ≡ context = ap (λ cells. bytes (column cells 0)) same ∙ ap bytes reads in
      let hit = (subst (AllByRecursion (λ e. is_context id number e ≡ true)) one.1 (all_hit (is_context id number) entries)).0 in
      let key = hit_key id number entry hit in
      one.1 ∙ ap (λ e. e ∷ []) (parts entry id number context key.0 key.1 text)
]
  where
    some_same : {a b : Row} → ◌≡◌ {A = Option Row} (Some a) (Some b) → a ≡ b
    some_same is = cc

    parts : (entry : ContextEntry) (id : List ℕ) (number : ℕ) (context : List ℕ) → entry.instance ≡ id → entry.number ≡ number → entry.context ≡ context → entry ≡ context_entry id number context
    parts entry id number context a b c = rw (sym a, sym b, sym c) refl
