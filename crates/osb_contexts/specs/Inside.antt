-- What a statement does inside a transaction.
use Rattle.std.specs.Prelude.{◌≡◌, IsTrue, Bool, List, [], ◌∷◌, if◌then◌else◌}
use Rattle.sqlite.specs.Schema.{Schema}
use Rattle.sqlite.specs.Table.{Table}
use Rattle.sqlite.specs.Effect.{IsDatabase}
use Rattle.sqlite.specs.State.{State, HasCleanDisk}
use Rattle.sqlite.specs.Change.{KeepsRows}
use Rattle.osb_tables.specs.Tables.{orders_table, instances_table, bindings_table, five_tables, second_listed}

-- a clean connection that is open has this schema
abbrev pub ShowsSchema : Schema → State → Type 0
ShowsSchema schema s = HasCleanDisk s → IsTrue s.is_open → s.now.schema ≡ schema

-- the five tables that lack an index or both
abbrev pub second_lacking : Bool → Schema
second_lacking is_listed = if is_listed then second_listed else five_tables

-- Inside a transaction that goes on, while the store stays open. Nothing is committed.
pub record Within (old new : State) : Type 0 where
  pub was_inside : IsTrue old.in_transaction
  pub inside : IsTrue new.in_transaction
  pub was_open : IsTrue old.is_open
  pub is_open : IsTrue new.is_open
  pub committed : new.committed ≡ old.committed

-- Inside a transaction the schema has become this one, and the rows of these tables stay. Nothing is committed.
pub record Reshapes (schema : Schema) (tables : List Table) (old new : State) : Type 0 where
  pub within : Within old new
  pub schema_is : new.now.schema ≡ schema
  pub kept : KeepsRows tables old.now.trees new.now.trees
  pub sound : IsDatabase new.now

-- the tables whose rows no migration changes
abbrev pub lasting_tables : List Table
lasting_tables = orders_table ∷ instances_table ∷ bindings_table ∷ []
