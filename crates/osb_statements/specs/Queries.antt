-- What a connection shows to statements.
use Rattle.std.specs.Prelude.{IsTrue}
use Rattle.sqlite.specs.Effect.{Database}
use Rattle.sqlite.specs.State.{State, HasCleanDisk}
use Rattle.osb_orders.specs.IsLife.{IsLives}
use Rattle.osb_joined.specs.Contexts.{contexts_of}
use Rattle.osb_contexts.specs.Contexts.{HoldsContexts}
use Rattle.osb_statements.specs.Stored.{bare_lives_in, lives_stored, content_in}
use Rattle.osb_statements.specs.Standing.{IsConsistent}
use Rattle.osb_statements.specs.Steps.{HasTables}

-- the database has the tables, with well-formed lives that the orders store without contexts, and the rows that these have
pub record AreRecords (db : Database) : Type 0 where
  pub tables : HasTables db
  pub lives : IsLives (bare_lives_in db.trees)
  pub standing : IsConsistent (content_in db.trees)

-- a clean connection that is open has records
abbrev pub ShowsRecords : State → Type 0
ShowsRecords s = HasCleanDisk s → IsTrue s.is_open → AreRecords s.now

-- with the contexts of the lives, which are well formed with these
pub record HasLives (db : Database) : Type 0 where
  pub records : AreRecords db
  pub lives : IsLives (lives_stored db.trees)
  pub contexts : HoldsContexts (contexts_of (lives_stored db.trees)) db.trees

-- a clean connection that is open has lives
abbrev pub ShowsLives : State → Type 0
ShowsLives s = HasCleanDisk s → IsTrue s.is_open → HasLives s.now
