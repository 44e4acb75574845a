-- Tables of version 1 become those of version 2, piece after piece.
use Rattle.std.proofs.Common.{◌≡◌, inl, ℕ, List, [], ◌++◌, false, filter, refl, sym, ap, ap₂, subst, ◌∙◌, IsTrue, arith}
use Rattle.sqlite.specs.declared.types.Value.{Value}
use Rattle.sqlite.specs.declared.types.Value.TheVariants.{Text}
use Rattle.sqlite.specs.Change.{KeepsRows}
use Rattle.sqlite.specs.Effect.{Database, IsDatabase}
use Rattle.sqlite.specs.State.{State, HasCleanDisk, IsUnchanged, KeepsCommit, Survives}
use Rattle.sqlite.specs.Tree.{Trees}
use Rattle.sqlite.proofs.InsideLemmas.{keeps_then}
use Rattle.sqlite.proofs.StateLemmas.{survives_then}
use Rattle.osb_joined.specs.declared.entry.ContextEntry.{ContextEntry}
use Rattle.osb_joined.specs.Contexts.{AreRising, contexts_of}
use Rattle.osb_tables.specs.Tables.{tables_schema}
use Rattle.osb_contexts.specs.Contexts.{contexts_in}
use Rattle.osb_contexts.specs.Format.{HoldsVersion}
use Rattle.osb_contexts.specs.Inside.{lasting_tables}
use Rattle.osb_contexts.specs.Pieces.{beyond, is_row_between, piece}
use Rattle.osb_contexts.specs.Reads.{IsRunning}
use Rattle.osb_contexts.specs.Steps.{contexts, HasContexts, ContextSteps, VersionSteps, Migrates}
use Rattle.osb_contexts.proofs.MigrationLemmas.{migrated, steps_then, still_none, still_running, still_there}
use Rattle.osb_contexts.proofs.StepLemmas.{clean_before, within_later}
use Rattle.osb_statements.specs.Pieces.{AreSeparate, AreSeparateRows, StoreRows, HaveContexts, IsMigrating, MigratesTo}
use Rattle.osb_statements.specs.Stored.{bare_lives_in}
use Rattle.osb_statements.specs.StoredLives.{StoreFirst}
use Rattle.osb_statements.proofs.RowPieceLemmas.{rows_as, contexts_as, rows_both, contexts_both, both_rise, rows_none, contexts_none, rows_whole, contexts_whole, rows_first}
use Rattle.osb_statements.proofs.StepLemmas.{within_still}
use Rattle.osb_statements.proofs.StoredPieceLemmas.{above, none_below}

-- ---- rows that stay

module _ (a b : Trees) (orders : b 1 ≡ a 1) (instances : b 3 ≡ a 3) (bindings : b 5 ≡ a 5) where
  pub separate_still : AreSeparateRows a → AreSeparateRows b
  separate_still it = record { orders = subst AreSeparate (sym orders) it.orders; instances = subst AreSeparate (sym instances) it.instances; bindings = subst AreSeparate (sym bindings) it.bindings }

  module _ (after : List ℕ) (to : Value) where
    pub piece_still : StoreRows (piece after to a) → StoreRows (piece after to b)
    piece_still = rows_as (piece after to a) (piece after to b) (ap (filter (is_row_between after to)) (sym orders)) (ap (filter (is_row_between after to)) (sym instances)) (ap (filter (is_row_between after to)) (sym bindings))

    pub piece_was : StoreRows (piece after to b) → StoreRows (piece after to a)
    piece_was = rows_as (piece after to b) (piece after to a) (ap (filter (is_row_between after to)) orders) (ap (filter (is_row_between after to)) instances) (ap (filter (is_row_between after to)) bindings)

    pub contexts_were : contexts_of (bare_lives_in (piece after to b)) ≡ contexts_of (bare_lives_in (piece after to a))
    contexts_were = contexts_as (piece after to b) (piece after to a) (ap (filter (is_row_between after to)) orders)

-- what was done is done still after a query
still_done : (old now next : State) (entries : List ContextEntry) → ContextSteps old now entries → IsUnchanged now next → ContextSteps old next entries
still_done old now next entries it same =
    let now_is = same.0.now_is in record {
      within = within_still old now next it.within same;
      tables = subst HasContexts (sym now_is) it.tables;
      contexts_are = ap (λ (d : Database). contexts_in d.trees) now_is ∙ it.contexts_are;
      kept = subst (λ (d : Database). KeepsRows (tables_schema).tables old.now.trees d.trees) (sym now_is) it.kept;
      sound = subst IsDatabase (sym now_is) it.sound;
    }

-- and it is the same from before a query
done_since : (old mid new : State) (entries : List ContextEntry) → IsUnchanged old mid → ContextSteps mid new entries → ContextSteps old new entries
done_since old mid new entries same it = record {
  within = within_later old mid new same it.within;
  tables = it.tables;
  contexts_are = it.contexts_are;
  kept = subst (λ (d : Database). KeepsRows (tables_schema).tables d.trees new.now.trees) same.0.now_is it.kept;
  sound = it.sound;
}

-- ---- a piece

pub still_running_on : (old mid : State) → IsMigrating old → IsUnchanged old mid → IsRunning mid
still_running_on old mid may same = record { inside = same.0.mode ∙ may.running.inside; is_open = same.0.is_open; sound = subst IsDatabase (sym same.0.now_is) may.running.sound }

-- the contexts of a piece go in behind those that are there
module _ (old mid : State) (after : List ℕ) (to : Value) (entries : List ContextEntry) (order : above (Text after) to ≡ false) (may : IsMigrating old)
    (before : HaveContexts (piece [] (Text after) old.now.trees) (contexts old)) (found : HaveContexts (piece after to old.now.trees) entries) (same : IsUnchanged old mid) where
  there_are : contexts mid ++ entries ≡ contexts_of (bare_lives_in (piece [] (Text after) old.now.trees)) ++ contexts_of (bare_lives_in (piece after to old.now.trees))
  there_are = ap₂ (λ (xs ys : List ContextEntry). xs ++ ys) (ap (λ (d : Database). contexts_in d.trees) same.0.now_is ∙ before.are) found.are

  pub piece_rises : AreRising (contexts mid ++ entries)
  piece_rises = subst AreRising (sym there_are) (both_rise old.now.trees may.rows [] after to (none_below after) order before.rows found.rows)

  pub piece_migrated : (new : State) → ContextSteps mid new (contexts mid ++ entries) → MigratesTo to old new
  piece_migrated new it = record {
    rows = rows_both old.now.trees may.rows [] after to (none_below after) order before.rows found.rows;
    steps = subst (ContextSteps old new) (there_are ∙ sym (contexts_both old.now.trees may.rows [] after to (none_below after) order before.rows found.rows)) (done_since old mid new _ same it);
  }

-- ---- piece after piece

-- a clean connection migrates
abbrev pub Migrating : State → Type 0
Migrating s = HasCleanDisk s → IsMigrating s

-- so far the contexts of the instances up to this id went in
pub record HasMigrated (old now : State) (after : List ℕ) : Type 0 where
  pub survives : Survives old now (λ _. ⊥)
  pub migrates : HasCleanDisk now → MigratesTo (Text after) old now

pub none_migrated : (s : State) (after : List ℕ) → after ≡ [] → Migrating s → (HasCleanDisk s → contexts s ≡ []) → HasMigrated s s after
none_migrated s after none may blank = record {
  survives = record { clean = omega arith; shield = λ shielded. shielded; counts = omega arith; limit = refl; closes = λ _ live. inl live; crash = λ _ db left. inl left };
  migrates = λ clean. subst (λ (last : List ℕ). MigratesTo (Text last) s s) (sym none) (nothing clean);
}
  where
    nothing : HasCleanDisk s → MigratesTo (Text []) s s
    nothing clean =
        let it = may clean in record {
          rows = rows_none s.now.trees;
          steps = record {
            within = record { was_inside = it.running.inside; inside = it.running.inside; was_open = it.running.is_open; is_open = it.running.is_open; committed = refl };
            tables = it.tables;
            contexts_are = blank clean ∙ sym (contexts_none s.now.trees);
            kept = (refl, (refl, (refl, (refl, tt))));
            sound = it.running.sound;
          };
        }

-- what the next call finds
module _ (old now : State) (after : List ℕ) (may : Migrating old) (so_far : HasMigrated old now after) where
  pub migrating_still : Migrating now
  migrating_still clean =
      let it = (so_far.migrates clean).steps in
      let was = may (clean_before old now _ so_far.survives clean) in record {
        running = record { inside = it.within.inside; is_open = it.within.is_open; sound = it.sound };
        tables = it.tables;
        rows = separate_still old.now.trees now.now.trees it.kept.1.0 it.kept.1.1.0 it.kept.1.1.1.0 was.rows;
      }

  pub contexts_before : HasCleanDisk now → HaveContexts (piece [] (Text after) now.now.trees) (contexts now)
  contexts_before clean =
      let it = so_far.migrates clean in
      let kept = it.steps.kept in record {
        rows = piece_still old.now.trees now.now.trees kept.1.0 kept.1.1.0 kept.1.1.1.0 [] (Text after) it.rows;
        are = it.steps.contexts_are ∙ sym (contexts_were old.now.trees now.now.trees kept.1.0 kept.1.1.0 kept.1.1.1.0 [] (Text after));
      }

  pub rows_still : HasCleanDisk now → StoreRows old.now.trees → StoreRows now.now.trees
  rows_still clean = let kept = (so_far.migrates clean).steps.kept in rows_as old.now.trees now.now.trees (sym kept.1.0) (sym kept.1.1.0) (sym kept.1.1.1.0)

module _ (old now next : State) (after : List ℕ) (so_far : HasMigrated old now after) (survives : Survives now next (λ _. ⊥)) where
  survives_on : Survives old next (λ _. ⊥)
  survives_on = survives_then old now next (λ _. ⊥) (λ _. ⊥) (λ _. ⊥) (λ _ db none. none) (λ _ db none. none) so_far.survives survives

  -- after a query
  pub still_migrated : (HasCleanDisk next → IsUnchanged now next) → HasMigrated old next after
  still_migrated same = record {
    survives = survives_on;
    migrates = λ clean. let it = so_far.migrates (clean_before now next _ survives clean) in record { rows = it.rows; steps = still_done old now next _ it.steps (same clean) };
  }

  -- where the call failed
  pub commit_kept : (HasCleanDisk next → IsTrue now.in_transaction → KeepsCommit now next) → HasCleanDisk next → KeepsCommit old next
  commit_kept kept clean =
      let within = (so_far.migrates (clean_before now next _ survives clean)).steps.within in
      keeps_then old now next (record { was_open = λ _. within.was_open; committed = λ _. within.committed }) (kept clean within.inside)

  module _ (to : Value) (steps : HasCleanDisk next → MigratesTo to now next) where
    migrates_on : HasCleanDisk next → MigratesTo to old next
    migrates_on clean =
        let first = (so_far.migrates (clean_before now next _ survives clean)).steps in
        let it = steps clean in
        let kept = first.kept in record {
          rows = piece_was old.now.trees now.now.trees kept.1.0 kept.1.1.0 kept.1.1.1.0 [] to it.rows;
          steps = subst (ContextSteps old next) (contexts_were old.now.trees now.now.trees kept.1.0 kept.1.1.0 kept.1.1.1.0 [] to) (steps_then old now next _ _ first it.steps);
        }

  -- after a piece more
  pub next_migrated : (to : List ℕ) → (HasCleanDisk next → MigratesTo (Text to) now next) → HasMigrated old next to
  next_migrated to steps = record { survives = survives_on; migrates = migrates_on (Text to) steps }

  -- after the last piece
  pub all_migrated : Migrating old → (HasCleanDisk next → MigratesTo beyond now next) → HasCleanDisk next → StoreRows old.now.trees × ContextSteps old next (contexts_of (bare_lives_in old.now.trees))
  all_migrated may steps clean =
      let cut = (may (clean_before old next _ survives_on clean)).rows in
      let it = migrates_on beyond steps clean in
      (rows_whole old.now.trees cut it.rows, subst (ContextSteps old next) (contexts_whole old.now.trees cut) it.steps)

-- ---- behind the version

module _ (old read mid : State) (same : IsUnchanged old read) (version : VersionSteps read mid) where
  abbrev now_is : read.now ≡ old.now
  now_is = same.0.now_is

  orders_stay : mid.now.trees 1 ≡ old.now.trees 1
  orders_stay = version.reshapes.kept.1.0 ∙ ap (λ (d : Database). d.trees 1) now_is

  instances_stay : mid.now.trees 3 ≡ old.now.trees 3
  instances_stay = version.reshapes.kept.1.1.0 ∙ ap (λ (d : Database). d.trees 3) now_is

  bindings_stay : mid.now.trees 5 ≡ old.now.trees 5
  bindings_stay = version.reshapes.kept.1.1.1.0 ∙ ap (λ (d : Database). d.trees 5) now_is

  pub version_migrating : HasContexts old.now → AreSeparateRows old.now.trees → IsMigrating mid
  version_migrating tables cut = record {
    running = still_running read mid version;
    tables = still_there read mid (subst HasContexts (sym now_is) tables) version;
    rows = separate_still old.now.trees mid.now.trees orders_stay instances_stay bindings_stay cut;
  }

  pub version_blank : contexts old ≡ [] → contexts mid ≡ []
  version_blank none = still_none read mid (ap (λ (d : Database). contexts_in d.trees) now_is ∙ none) version

  pub version_rows : StoreRows old.now.trees → StoreRows mid.now.trees
  version_rows = rows_as old.now.trees mid.now.trees (sym orders_stay) (sym instances_stay) (sym bindings_stay)

  pub first_migrated : (new : State) → HoldsVersion 1 old.now.trees → StoreRows mid.now.trees × ContextSteps mid new (contexts_of (bare_lives_in mid.now.trees)) → StoreFirst old.now.trees × Migrates old new (contexts_of (bare_lives_in old.now.trees))
  first_migrated new one it =
      let entries = contexts_of (bare_lives_in old.now.trees) in
      let steps = subst (ContextSteps mid new) (contexts_as mid.now.trees old.now.trees orders_stay) it.1 in
      let done = migrated read mid new entries version steps in (
        rows_first old.now.trees one (rows_as mid.now.trees old.now.trees orders_stay instances_stay bindings_stay it.0),
        record {
          within = within_later old read new same done.within;
          tables = done.tables;
          version = done.version;
          contexts_are = done.contexts_are;
          kept = subst (λ (d : Database). KeepsRows lasting_tables d.trees new.now.trees) now_is done.kept;
          sound = done.sound;
        },
      )
