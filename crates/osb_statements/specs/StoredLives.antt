-- Which trees store well-formed lives.
use Rattle.sqlite.specs.Tree.{Trees}
use Rattle.osb_orders.specs.IsLife.{IsLives}
use Rattle.osb_joined.specs.Contexts.{contexts_of}
use Rattle.osb_contexts.specs.Contexts.{HoldsContexts}
use Rattle.osb_statements.specs.Stored.{HoldsEntries, bare_lives_in, lives_stored, content_in}
use Rattle.osb_statements.specs.Standing.{IsConsistent}

-- version 1, and the rows of well-formed lives, which have no contexts
pub record StoreFirst (db : Trees) : Type 0 where
  pub holds : HoldsEntries 1 db
  pub lives : IsLives (bare_lives_in db)
  pub standing : IsConsistent (content_in db)

-- version 2, and the rows of well-formed lives with their contexts
pub record StoreLives (db : Trees) : Type 0 where
  pub holds : HoldsEntries 2 db
  pub lives : IsLives (lives_stored db)
  pub standing : IsConsistent (content_in db)
  pub contexts : HoldsContexts (contexts_of (lives_stored db)) db
