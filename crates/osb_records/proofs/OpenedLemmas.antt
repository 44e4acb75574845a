-- A database that was opened, and what is made of it.
use Rattle.std.proofs.Common.{◌≡◌, inl, inr, IsTrue, Bool, true, false, [], Ok, refl, sym, ap, subst, ◌∙◌}
use Rattle.std.specs.Prelude.{◌≢◌}
use Rattle.std.specs.FinMap.{empty}
use Rattle.sqlite.specs.Tree.{Trees}
use Rattle.sqlite.specs.Schema.{Schema}
use Rattle.sqlite.specs.Change.{KeepsRows}
use Rattle.sqlite.specs.Effect.{Database, IsDatabase}
use Rattle.sqlite.specs.State.{State, HasCleanDisk, IsUnchanged}
use Rattle.osb_orders.specs.Lives.{Lives}
use Rattle.osb_orders.specs.IsLife.{IsLives}
use Rattle.osb_joined.specs.Contexts.{contexts_of}
use Rattle.osb_tables.specs.Tables.{made, no_schema, tables_schema, five_tables, second_schema}
use Rattle.osb_tables.specs.declared.schema.Indexes.{Indexes}
use Rattle.osb_tables.specs.declared.schema.Indexes.TheVariants.{None, Listing, Both}
use Rattle.osb_tables.proofs.SchemaLemmas.{versions_apart, second_is_something}
use Rattle.osb_contexts.specs.Contexts.{HoldsContexts}
use Rattle.osb_contexts.specs.Inside.{Reshapes, second_lacking}
use Rattle.osb_contexts.specs.Steps.{ContextSteps, Migrates}
use Rattle.osb_contexts.proofs.StepLemmas.{within_then}
use Rattle.osb_statements.specs.Stored.{content_in, bare_lives_in, lives_stored}
use Rattle.osb_statements.specs.Standing.{IsConsistent}
use Rattle.osb_statements.specs.StoredLives.{StoreFirst, StoreLives}
use Rattle.osb_records.specs.Opened.{IsFirst, IsSecond, AreLivesOfDatabase, HoldsSame}
use Rattle.osb_records.specs.Transactions.{TakesOver}
use Rattle.osb_statements.specs.LivesWritten.{WritesLives}
use Rattle.osb_statements.specs.Steps.{HasTables, HoldsLives, IsSettled, IsReady, stored}
use Rattle.osb_statements.proofs.StepLemmas.{within_still, contexts_along, written_kept, ready_of, committed_lives}
use Rattle.osb_statements.proofs.ContextLemmas.{told_is_bare, stored_is, holds_along, content_along, told_along}

-- ---- a database that was opened

-- the tables were read, and nothing was changed
pub ready_by : (old new : State) → IsSettled new → (HasCleanDisk new → IsTrue new.is_open → new.now ≡ old.now) → (HasCleanDisk new → old.now.schema ≡ second_schema) → (HasCleanDisk new → StoreLives old.now.trees) → IsReady new
ready_by old new settled same schema stores = record {
  autocommit = settled.autocommit;
  tables = λ clean live. subst HasTables (sym (same clean live)) (record { schema = schema clean; holds = (stores clean).holds });
  lives = λ clean live. subst (λ (d : Database). IsLives (lives_stored d.trees)) (sym (same clean live)) (stores clean).lives;
  standing = λ clean live. subst (λ (d : Database). IsConsistent (content_in d.trees)) (sym (same clean live)) (stores clean).standing;
  contexts = λ clean live. contexts_along old.now new.now (same clean live) (stores clean).contexts;
  committed = settled.committed;
}

-- other tables than those of this program
pub others_stand : (db : Database) → db.schema ≢ no_schema → ((indexes : Indexes) → db.schema ≢ made tables_schema indexes) → ((indexes : Indexes) → db.schema ≢ made five_tables indexes) → (lives : Lives) → ¬ AreLivesOfDatabase db lives
others_stand db nothing first second lives (inl none) = nothing none.0
others_stand db nothing first second lives (inr (inl (some, it, are))) = first some.0 some.1
others_stand db nothing first second lives (inr (inr (some, it, are))) = second some.0 some.1

-- an empty database stays one, or has the tables of no lives
pub empty_same : (old : Database) → old.schema ≡ no_schema → (db : Trees) → HoldsLives empty db → HoldsSame old db
empty_same old schema db holds = (empty, inl (schema, refl), holds)

first_is_something : (indexes : Indexes) → made tables_schema indexes ≢ no_schema
first_is_something None is = let none : (tables_schema).tables ≡ [] = ap (λ (s : Schema). s.tables) is in cc
first_is_something Listing is = let none : (tables_schema).tables ≡ [] = ap (λ (s : Schema). s.tables) is in cc
first_is_something Both is = let none : (tables_schema).tables ≡ [] = ap (λ (s : Schema). s.tables) is in cc

-- the tables of one version alone
module _ (db : Database) (indexes : Indexes) where
  pub only_first : db.schema ≡ made tables_schema indexes → ¬ StoreFirst db.trees → (lives : Lives) → ¬ AreLivesOfDatabase db lives
  only_first is none lives (inl (schema, are)) = first_is_something indexes (sym is ∙ schema)
  only_first is none lives (inr (inl (some, it, are))) = none it
  only_first is none lives (inr (inr (some, it, are))) = versions_apart indexes some.0 (sym is ∙ some.1)

  pub only_second : db.schema ≡ made five_tables indexes → ¬ StoreLives db.trees → (lives : Lives) → ¬ AreLivesOfDatabase db lives
  only_second is none lives (inl (schema, are)) = second_is_something indexes (sym is ∙ schema)
  only_second is none lives (inr (inl (some, it, are))) = versions_apart some.0 indexes (sym some.1 ∙ is)
  only_second is none lives (inr (inr (some, it, are))) = none it

-- ---- the indexes beside the tables

pub lacking_second : (is_listed : Bool) (schema : Schema) → schema ≡ second_lacking is_listed → IsSecond schema
lacking_second true schema is = (Listing, is)
lacking_second false schema is = (None, is)

module _ (a b : Trees) (kept : KeepsRows (five_tables).tables a b) where
  abbrev first_four : KeepsRows (tables_schema).tables a b
  first_four = (kept.0, (kept.1.0, (kept.1.1.0, (kept.1.1.1.0, tt))))

  same_stored : lives_stored b ≡ lives_stored a
  same_stored = rw (kept.1.0, kept.1.1.1.1.0) refl

  pub stored_along : StoreLives a → StoreLives b
  stored_along it = record {
    holds = holds_along a b first_four 2 it.holds;
    lives = subst IsLives (sym same_stored) it.lives;
    standing = content_along a b first_four it.standing;
    contexts = rw (same_stored, kept.1.1.1.1.0) it.contexts;
  }

module _ (a b : Trees) (kept : KeepsRows (five_tables).tables a b) where
  pub stored_back : StoreLives b → StoreLives a
  stored_back it = stored_along b a (sym (kept.0), (sym (kept.1.0), (sym (kept.1.1.0), (sym (kept.1.1.1.0), (sym (kept.1.1.1.1.0), tt))))) it

-- the tables with the indexes hold the lives that they held
pub index_writes : (old mid new : State) → Reshapes second_schema (five_tables).tables old mid → IsUnchanged mid new → StoreLives mid.now.trees → WritesLives old new (stored old)
index_writes old mid new it same whole =
    let now = same.0.now_is in
    let lives : stored new ≡ stored old = ap (λ (d : Database). lives_stored d.trees) now ∙ same_stored old.now.trees mid.now.trees it.kept in record {
      within = within_still old mid new it.within same;
      tables = subst HasTables (sym now) (record { schema = it.schema_is; holds = whole.holds });
      lives_are = lives;
      standing = subst (λ (d : Database). IsConsistent (content_in d.trees)) (sym now) whole.standing;
      contexts = subst (λ lives. HoldsContexts (contexts_of lives) new.now.trees) lives (contexts_along mid.now new.now now whole.contexts);
      sound = subst IsDatabase (sym now) it.sound;
    }

pub completed_same : (old new : State) (db : Trees) → IsSecond old.now.schema → StoreLives old.now.trees → WritesLives old new (stored old) → db ≡ new.now.trees → HoldsSame old.now db
completed_same old new db schema whole writes is = (stored old, inr (inr (schema, whole, refl)), committed_lives old new (stored old) db writes is)

-- ---- from version 1 to version 2

pub made_first : (indexes : Indexes) (schema : Schema) → schema ≡ made tables_schema indexes → IsFirst schema
made_first indexes schema is = (indexes, is)

module _ (a b : Trees) (kept : KeepsRows (tables_schema).tables a b) where
  pub first_along : StoreFirst a → StoreFirst b
  first_along it = record { holds = holds_along a b kept 1 it.holds; lives = subst IsLives (sym (told_along a b kept)) it.lives; standing = content_along a b kept it.standing }

module _ (a b : Trees) (kept : KeepsRows (tables_schema).tables a b) where
  pub first_back : StoreFirst b → StoreFirst a
  first_back it = first_along b a (sym (kept.0), (sym (kept.1.0), (sym (kept.1.1.0), (sym (kept.1.1.1.0), tt)))) it

-- the lives of version 1 stand in the tables of version 2 with their contexts
pub migrate_writes : (old mid new : State) → ContextSteps old mid [] → StoreFirst mid.now.trees → Migrates mid new (contexts_of (bare_lives_in mid.now.trees)) → WritesLives old new (bare_lives_in old.now.trees)
migrate_writes old mid new shaped first it =
    let lives = bare_lives_in mid.now.trees in
    let was : lives ≡ bare_lives_in old.now.trees = told_along old.now.trees mid.now.trees shaped.kept in
    let orders : new.now.trees 1 ≡ mid.now.trees 1 = it.kept.0 in
    let instances : new.now.trees 3 ≡ mid.now.trees 3 = it.kept.1.0 in
    let bindings : new.now.trees 5 ≡ mid.now.trees 5 = it.kept.1.1.0 in
    let writes : WritesLives old new lives = record {
      within = within_then old mid new shaped.within it.within;
      tables = record {
        schema = it.tables.schema;
        holds = record { format = it.version; orders = rw (orders) first.holds.orders; instances = rw (instances) first.holds.instances; bindings = rw (bindings) first.holds.bindings };
      };
      lives_are = stored_is new.now.trees lives first.lives (rw (orders) (sym (told_is_bare mid.now.trees))) it.contexts_are;
      standing = record { instances = rw (orders, instances) first.standing.instances; bindings = rw (orders, bindings) first.standing.bindings };
      contexts = subst (λ es. HoldsContexts es new.now.trees) it.contexts_are it.tables.holds;
      sound = it.sound;
    } in
    subst (WritesLives old new) was writes

pub migrated_same : (old new : State) (db : Trees) → IsFirst old.now.schema → StoreFirst old.now.trees → WritesLives old new (bare_lives_in old.now.trees) → db ≡ new.now.trees → HoldsSame old.now db
migrated_same old new db schema whole writes is = (bare_lives_in old.now.trees, inr (inl (schema, whole, refl)), committed_lives old new (bare_lives_in old.now.trees) db writes is)

-- ---- what was committed was taken over

pub taken : (old begun mid new : State) (lives : Lives) → new.in_transaction ≡ false
    → (HasCleanDisk new → IsTrue new.is_open → WritesLives begun mid lives × IsLives lives × (new.now ≡ mid.now) × (new.now ≡ new.committed) × AreLivesOfDatabase old.now lives) → TakesOver old new (Ok tt)
taken old begun mid new lives ended known = record {
  ready = ready_of new (Ok tt) ended (λ clean live. let it = known clean live in written_kept begun mid new lives it.0 it.1 it.2 it.3) (λ _ _. tt);
  ok = λ clean live.
      let it = known clean live in
      let are : stored new ≡ lives = ap (λ (d : Database). lives_stored d.trees) it.2 ∙ it.0.lives_are in
      subst (AreLivesOfDatabase old.now) (sym are) it.4;
  err = λ _ _. tt;
  not_ours = λ _ is. absurd (cc);
}
