-- What a connection shows of the contexts, and what calls do to them.
use Rattle.std.specs.Prelude.{◌≡◌, IsTrue, List, ◌∷◌}
use Rattle.sqlite.specs.Effect.{Database, IsDatabase}
use Rattle.sqlite.specs.State.{State, HasCleanDisk}
use Rattle.sqlite.specs.Change.{KeepsRows}
use Rattle.osb_tables.specs.Tables.{tables_schema, second_schema, contexts_table}
use Rattle.osb_joined.specs.declared.entry.ContextEntry.{ContextEntry}
use Rattle.osb_contexts.specs.Contexts.{contexts_in, HoldsContexts}
use Rattle.osb_contexts.specs.Format.{HoldsVersion}
use Rattle.osb_contexts.specs.Inside.{Within, Reshapes, lasting_tables}

-- the contexts that a connection shows
abbrev pub contexts : State → List ContextEntry
contexts s = contexts_in s.now.trees

-- the database has the tables of version 2, and that of contexts holds entries
pub record HasContexts (db : Database) : Type 0 where
  pub schema : db.schema ≡ second_schema
  pub holds : HoldsContexts (contexts_in db.trees) db.trees

-- a clean connection that is open has the contexts
abbrev pub ShowsContexts : State → Type 0
ShowsContexts s = HasCleanDisk s → IsTrue s.is_open → HasContexts s.now

-- Inside a transaction the contexts have become these, and the rows of the other tables stay. Nothing is committed.
pub record ContextSteps (old new : State) (next : List ContextEntry) : Type 0 where
  pub within : Within old new
  pub tables : HasContexts new.now
  pub contexts_are : contexts new ≡ next
  pub kept : KeepsRows (tables_schema).tables old.now.trees new.now.trees
  pub sound : IsDatabase new.now

-- Inside a transaction the format became version 2, and the rows of the other tables stay. Nothing is committed.
pub record VersionSteps (old new : State) : Type 0 where
  pub reshapes : Reshapes second_schema (contexts_table ∷ lasting_tables) old new
  pub version : HoldsVersion 2 new.now.trees

-- Inside a transaction a database of version 1 became one of version 2 with these contexts, and the rows of orders,
-- instances and bindings stay. Nothing is committed.
pub record Migrates (old new : State) (entries : List ContextEntry) : Type 0 where
  pub within : Within old new
  pub tables : HasContexts new.now
  pub version : HoldsVersion 2 new.now.trees
  pub contexts_are : contexts new ≡ entries
  pub kept : KeepsRows lasting_tables old.now.trees new.now.trees
  pub sound : IsDatabase new.now
