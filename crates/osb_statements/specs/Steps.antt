-- What a connection shows of the orders.
use Rattle.std.specs.Prelude.{◌≡◌, false, IsTrue}
use Rattle.sqlite.specs.Tree.{Trees}
use Rattle.sqlite.specs.Effect.{Database, IsDatabase}
use Rattle.sqlite.specs.State.{State, HasCleanDisk}
use Rattle.osb_orders.specs.Lives.{Lives}
use Rattle.osb_orders.specs.IsLife.{IsLives}
use Rattle.osb_joined.specs.Contexts.{contexts_of}
use Rattle.osb_tables.specs.Tables.{second_schema}
use Rattle.osb_contexts.specs.Contexts.{HoldsContexts}
use Rattle.osb_statements.specs.Stored.{HoldsEntries, Content, content_in, bare_lives_in, lives_stored}
use Rattle.osb_statements.specs.Standing.{IsConsistent}

-- the lives that a connection shows
abbrev pub stored : State → Lives
stored s = lives_stored s.now.trees

-- those that its orders store, without contexts
abbrev pub bare_in : State → Lives
bare_in s = bare_lives_in s.now.trees

-- with the rows of instances and bindings
abbrev pub content : State → Content
content s = content_in s.now.trees

-- the database has the tables of version 2, and they hold entries
pub record HasTables (db : Database) : Type 0 where
  pub schema : db.schema ≡ second_schema
  pub holds : HoldsEntries 2 db.trees

-- a clean connection that is open has the tables
abbrev pub ShowsTables : State → Type 0
ShowsTables s = HasCleanDisk s → IsTrue s.is_open → HasTables s.now

-- the trees are a database of the tables, and these lives are in it, with the rows and the contexts that they have
pub record HoldsLives (lives : Lives) (db : Trees) : Type 0 where
  pub sound : IsDatabase (record { schema = second_schema; trees = db })
  pub holds : HoldsEntries 2 db
  pub lives_are : lives_stored db ≡ lives
  pub standing : IsConsistent (content_in db)
  pub contexts : HoldsContexts (contexts_of lives) db

-- No transaction is open, and everything is committed.
pub record IsSettled (s : State) : Type 0 where
  pub autocommit : s.in_transaction ≡ false
  pub committed : HasCleanDisk s → IsTrue s.is_open → s.now ≡ s.committed

-- No transaction is open, the tables are there with well-formed lives and the rows and contexts that these have, and
-- everything is committed.
pub record IsReady (s : State) : Type 0 where
  pub autocommit : s.in_transaction ≡ false
  pub tables : ShowsTables s
  pub lives : HasCleanDisk s → IsTrue s.is_open → IsLives (stored s)
  pub standing : HasCleanDisk s → IsTrue s.is_open → IsConsistent (content s)
  pub contexts : HasCleanDisk s → IsTrue s.is_open →
      HoldsContexts (contexts_of (stored s)) s.now.trees
  pub committed : HasCleanDisk s → IsTrue s.is_open → s.now ≡ s.committed

-- a crash leaves these lives and nothing else
abbrev pub LeavesOnly : State → Lives → Type 0
LeavesOnly s lives = (db : Trees) → s.may_leave db → lives_stored db ≡ lives
