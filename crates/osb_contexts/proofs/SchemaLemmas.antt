-- What is made of the tables and indexes.
use Rattle.std.proofs.Common.{◌≡◌, ℕ, List, [], slice_get, false, None, Some, Ok, sym, ap, subst, ◌∙◌}
use Rattle.sqlite.specs.Table.{Table}
use Rattle.sqlite.specs.Schema.{Schema}
use Rattle.sqlite_schema.specs.declared.schema.Index.{Index}
use Rattle.sqlite.specs.Command.TheVariants.{CreateTable, CreateIndex, DropIndex}
use Rattle.sqlite.specs.Change.{created, indexed, without_index, next_tree, KeepsRows}
use Rattle.sqlite.specs.Does.{Tally, AtPlace, Defines, MakesIndex, Leaves as LeavesRows, lacks_sequence}
use Rattle.sqlite_catalog.specs.Calls.{RefusesToDropIndex}
use Rattle.sqlite.specs.Effect.{Database, RefusesToAlter}
use Rattle.sqlite.specs.State.{State, Writes, Executes, mode_of}
use Rattle.sqlite.proofs.Callers.{runs_as}
use Rattle.osb_tables.specs.Tables.{tables_schema, five_tables, second_schema}
use Rattle.osb_contexts.specs.Contexts.{HoldsContexts}
use Rattle.osb_contexts.specs.Inside.{Reshapes}
use Rattle.osb_contexts.specs.Made.{MakesContexts}
use Rattle.osb_contexts.specs.Steps.{ContextSteps}
use Rattle.osb_rows.proofs.StatementLemmas.{went, same_value}
use Rattle.osb_contexts.proofs.SortLemmas.{none_stored, contexts_are, held_again}
use Rattle.osb_contexts.proofs.StepLemmas.{Leaves, within_then}
use Rattle.osb_contexts.proofs.Texts.{MakesOn, DropsAt, create_contexts, create_contexts_is, create_contexts_plain, contexts_made, contexts_placed}

-- the text drops the index at this place, and the rows stay
module _ (text : List ℕ) (before : Schema) (place : ℕ) (index : Index) (drops : DropsAt text before place) (there : slice_get before.indexes place ≡ Some index) where
  pub drops_index : (old new : State) (count : ℕ) → old.now.schema ≡ before → Executes text [] old new (Ok count) → Leaves (without_index before index.tree) before.tables old new
  drops_index old new count has h =
      let w = subst (λ t. Writes old new None (DropIndex place) t [] count) drops.1 (runs_as text [] old new before has (DropIndex place) drops.0 drops.2 count h) in
      let at = subst (λ (s : Schema). AtPlace (λ found. Defines (mode_of old) (LeavesRows (without_index s found.tree) old.now.trees (RefusesToAlter (RefusesToDropIndex found)))) (slice_get s.indexes place) (Ok (w.tally, new.now))) has w.changed in
      let all = went (subst (λ found. AtPlace (λ found. Defines (mode_of old) (LeavesRows (without_index before found.tree) old.now.trees (RefusesToAlter (RefusesToDropIndex found)))) found (Ok (w.tally, new.now))) there at) in
      let left = all.1 in
      let now : new.now ≡ all.0 = ap (λ (p : Tally × Database). p.1) (same_value all.2) in
      (ap (λ (d : Database). d.schema) now ∙ left.0, subst (λ (d : Database). KeepsRows before.tables old.now.trees d.trees) (sym now) left.1, w.sound)

-- the text makes the index on that table, and the rows stay
module _ (text : List ℕ) (before : Schema) (place : ℕ) (table : Table) (index : Index) (makes : MakesOn text before place table index) (there : slice_get before.tables place ≡ Some table) where
  pub makes_index : (old new : State) (count : ℕ) → old.now.schema ≡ before → Executes text [] old new (Ok count) → Leaves (indexed before table index) before.tables old new
  makes_index old new count has h =
      let w = subst (λ t. Writes old new None (CreateIndex place) t [] count) makes.1 (runs_as text [] old new before has (CreateIndex place) makes.0 makes.3 count h) in
      let at = subst (λ (s : Schema). AtPlace (λ found. Defines (mode_of old) (MakesIndex text old.now found)) (slice_get s.tables place) (Ok (w.tally, new.now))) has w.changed in
      let all = went (subst (λ found. AtPlace (λ found. Defines (mode_of old) (MakesIndex text old.now found)) found (Ok (w.tally, new.now))) there at) in
      let made = all.1 in
      let both : Ok made.index ≡ Ok index = sym made.defined ∙ makes.2 in
      let same : made.index ≡ index = same_value both in
      let schema : all.0.schema ≡ indexed before table index = made.is ∙ ap (λ s. indexed s table made.index) has ∙ ap (indexed before table) same in
      let now : new.now ≡ all.0 = ap (λ (p : Tally × Database). p.1) (same_value all.2) in
      let kept = subst (λ found. KeepsRows found old.now.trees all.0.trees) (ap (λ (s : Schema). s.tables) has) made.rows in
      (ap (λ (d : Database). d.schema) now ∙ schema, subst (λ (d : Database). KeepsRows before.tables old.now.trees d.trees) (sym now) kept, w.sound)

-- the table of contexts behind the four tables, whose rows stay
pub makes_contexts : (old new : State) (count : ℕ) → old.now.schema ≡ tables_schema → Executes create_contexts [] old new (Ok count) → Leaves five_tables (tables_schema).tables old new × (new.now.trees 7 ≡ [])
makes_contexts old new count has h =
    let w = subst (λ t. Writes old new None CreateTable t [] count) create_contexts_is.1 (runs_as create_contexts [] old new tables_schema has CreateTable create_contexts_is.0 create_contexts_plain count h) in
    let all = went w.changed in
    let first = went all.1 in
    let makes = first.1 in
    let both : Ok makes.table ≡ Ok contexts_made = sym makes.defined ∙ create_contexts_is.2 in
    let same : makes.table ≡ contexts_made = same_value both in
    let schema : first.0.schema ≡ five_tables = makes.is ∙ ap (λ s. created s makes.table) has ∙ ap (created tables_schema) same ∙ contexts_placed in
    let plain : lacks_sequence first.0.schema ≡ false = ap lacks_sequence schema in
    let now : new.now ≡ first.0 = ap (λ (p : Tally × Database). p.1) (same_value all.2) ∙ same_value (rw plain at first.2) in
    let others = subst (λ (s : Schema). KeepsRows s.tables old.now.trees first.0.trees) has makes.others in (
      (
        ap (λ (d : Database). d.schema) now ∙ schema,
        subst (λ (d : Database). KeepsRows (tables_schema).tables old.now.trees d.trees) (sym now) others,
        w.sound,
      ),
      ap (λ (d : Database). d.trees 7) now ∙ subst (λ s. first.0.trees (next_tree s) ≡ []) has makes.empty,
    )

-- ---- one after another

-- an index beside the five tables after another
pub indexes_then : (schema between : Schema) (old mid new : State) → Reshapes between (five_tables).tables old mid → Reshapes schema (five_tables).tables mid new → Reshapes schema (five_tables).tables old new
indexes_then schema between old mid new first it = record {
  within = within_then old mid new first.within it.within;
  schema_is = it.schema_is;
  kept = (it.kept.0 ∙ first.kept.0, (it.kept.1.0 ∙ first.kept.1.0, (it.kept.1.1.0 ∙ first.kept.1.1.0, (it.kept.1.1.1.0 ∙ first.kept.1.1.1.0, (it.kept.1.1.1.1.0 ∙ first.kept.1.1.1.1.0, tt)))));
  sound = it.sound;
}

-- the table of contexts after an index was dropped
pub makes_then : (between : Schema) (old mid new : State) → Reshapes between (tables_schema).tables old mid → MakesContexts mid new → MakesContexts old new
makes_then between old mid new first makes =
    let it = makes.reshapes in record {
      reshapes = record {
        within = within_then old mid new first.within it.within;
        schema_is = it.schema_is;
        kept = (it.kept.0 ∙ first.kept.0, (it.kept.1.0 ∙ first.kept.1.0, (it.kept.1.1.0 ∙ first.kept.1.1.0, (it.kept.1.1.1.0 ∙ first.kept.1.1.1.0, tt))));
        sound = it.sound;
      };
      blank = makes.blank;
    }

-- the indexes beside the table of contexts, which has no row
pub reshaped : (old mid new : State) → MakesContexts old mid → Reshapes second_schema (five_tables).tables mid new → ContextSteps old new []
reshaped old mid new makes it =
    let first = makes.reshapes in
    let holds : HoldsContexts [] new.now.trees = none_stored _ _ _ (new.now.trees 7) (it.kept.1.1.1.1.0 ∙ makes.blank) in record {
      within = within_then old mid new first.within it.within;
      tables = record { schema = it.schema_is; holds = held_again new.now.trees [] holds };
      contexts_are = contexts_are new.now.trees [] holds;
      kept = (it.kept.0 ∙ first.kept.0, (it.kept.1.0 ∙ first.kept.1.0, (it.kept.1.1.0 ∙ first.kept.1.1.0, (it.kept.1.1.1.0 ∙ first.kept.1.1.1.0, tt))));
      sound = it.sound;
    }
