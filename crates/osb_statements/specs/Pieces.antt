-- Tables that may be read in pieces. For contracts inside the crate.
use Rattle.std.specs.List.{AllByRecursion}
use Rattle.std.specs.Prelude.{◌≡◌, ◌+◌, ℕ, Bool, List, [], filter, is_some, length}
use Rattle.sqlite.specs.declared.types.Value.{Value}
use Rattle.sqlite.specs.declared.types.Value.TheVariants.{Text as Words}
use Rattle.sqlite.specs.Order.{Row}
use Rattle.sqlite.specs.Tree.{Trees}
use Rattle.sqlite.specs.State.{State}
use Rattle.osb_orders.specs.IsLife.{IsLives}
use Rattle.osb_audit.specs.Orders.{entry_cmp}
use Rattle.osb_audit.specs.Instances.{InstanceEntry, instance_cmp}
use Rattle.osb_audit.specs.Bindings.{binding_cmp}
use Rattle.osb_joined.specs.declared.entry.ContextEntry.{ContextEntry}
use Rattle.osb_joined.specs.Contexts.{contexts_of}
use Rattle.osb_rows.specs.Rows.{Stores}
use Rattle.osb_contexts.specs.Format.{HoldsVersion}
use Rattle.osb_contexts.specs.Pieces.{piece, is_between, AreNamed}
use Rattle.osb_contexts.specs.Read.{HaveRowids}
use Rattle.osb_contexts.specs.Reads.{IsRunning}
use Rattle.osb_contexts.specs.Steps.{HasContexts, ContextSteps}
use Rattle.osb_statements.specs.declared.pieces.Piece.{Piece}
use Rattle.osb_statements.specs.Read.{AreOrdersOf, AreInstancesOf, AreBindingsOf, OrderFits, InstanceFits}
use Rattle.osb_statements.specs.Instances.{instance_row, instance_cells}
use Rattle.osb_statements.specs.Bindings.{binding_row, binding_cells}
use Rattle.osb_statements.specs.Stored.{entry_row, order_cells, entries_in, instances_in, bindings_in, bare_lives_in, content_in}
use Rattle.osb_statements.specs.Standing.{IsConsistent}

-- each row has a rowid of its own and the id of an instance
pub record AreSeparate (rows : List Row) : Type 0 where
  pub rowids : HaveRowids rows
  pub named : AreNamed rows

-- the rows of orders, instances and bindings are so
pub record AreSeparateRows (db : Trees) : Type 0 where
  pub orders : AreSeparate (db 1)
  pub instances : AreSeparate (db 3)
  pub bindings : AreSeparate (db 5)

-- the version is 2, and the rows of each table are so
pub record MayBeCut (db : Trees) : Type 0 where
  pub version : HoldsVersion 2 db
  pub rows : AreSeparateRows db
  pub contexts : AreSeparate (db 7)

-- these tables hold entries, whatever the version
pub record HoldRows (db : Trees) : Type 0 where
  pub orders : Stores order_cells entry_row entry_cmp (db 1) (entries_in db)
  pub instances : Stores instance_cells instance_row instance_cmp (db 3) (instances_in db)
  pub bindings : Stores binding_cells binding_row binding_cmp (db 5) (bindings_in db)

-- their numbers have 32 bits
pub record RowsFit (db : Trees) : Type 0 where
  pub orders : AllByRecursion OrderFits (entries_in db)
  pub instances : AllByRecursion InstanceFits (instances_in db)

-- these are the rows of well-formed lives, which have no contexts
pub record StoreRows (db : Trees) : Type 0 where
  pub holds : HoldRows db
  pub lives : IsLives (bare_lives_in db)
  pub standing : IsConsistent (content_in db)

-- what was read of some instances
pub record IsReadOf (db : Trees) (read : Piece) : Type 0 where
  pub orders : AreOrdersOf db read.orders.items
  pub instances : AreInstancesOf db read.instances.items
  pub bindings : AreBindingsOf db read.bindings.items

-- the instance of the entry has such an id
abbrev pub is_instance_between : List ℕ → Value → InstanceEntry → Bool
is_instance_between after to entry = is_between after to (Words entry.0)

-- how many instances aren't absent, and how many have a last order that runs
abbrev pub counted_in : List InstanceEntry → ℕ × ℕ
counted_in rows = (
  length (filter (λ (entry : InstanceEntry). is_some entry.1.standing) rows),
  length (filter (λ (entry : InstanceEntry). entry.1.busy) rows),
)

-- both numbers have grown by those of the rows
abbrev pub CountsMore : List InstanceEntry → ℕ × ℕ → ℕ × ℕ → Type 0
CountsMore rows old new =
    (new.0 ≡ old.0 + (counted_in rows).0) × (new.1 ≡ old.1 + (counted_in rows).1)

-- ---- from version 1 to version 2

-- the rows are those of well-formed lives, and these are the contexts of the lives
pub record HaveContexts (db : Trees) (entries : List ContextEntry) : Type 0 where
  pub rows : StoreRows db
  pub are : entries ≡ contexts_of (bare_lives_in db)

-- A transaction runs over tables of version 2. The rows of those that version 1 has may be read in pieces.
pub record IsMigrating (s : State) : Type 0 where
  pub running : IsRunning s
  pub tables : HasContexts s.now
  pub rows : AreSeparateRows s.now.trees

-- Inside a transaction the contexts have become those of the instances up to this id, whose rows are those of well-formed
-- lives. The rows of the other tables stay. Nothing is committed.
pub record MigratesTo (to : Value) (old new : State) : Type 0 where
  pub rows : StoreRows (piece [] to old.now.trees)
  pub steps : ContextSteps old new (contexts_of (bare_lives_in (piece [] to old.now.trees)))
