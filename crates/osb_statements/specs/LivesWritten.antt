-- What a call inside a transaction has written.
use Rattle.std.specs.Prelude.{◌≡◌}
use Rattle.sqlite.specs.Effect.{IsDatabase}
use Rattle.sqlite.specs.State.{State}
use Rattle.osb_orders.specs.Lives.{Lives}
use Rattle.osb_joined.specs.Contexts.{contexts_of}
use Rattle.osb_contexts.specs.Contexts.{HoldsContexts}
use Rattle.osb_contexts.specs.Inside.{Within}
use Rattle.osb_statements.specs.Standing.{IsConsistent}
use Rattle.osb_statements.specs.Steps.{stored, content, HasTables}

-- Inside a transaction the lives have become these, with the rows and the contexts that they have. Nothing is committed.
pub record WritesLives (old new : State) (lives : Lives) : Type 0 where
  pub within : Within old new
  pub tables : HasTables new.now
  pub lives_are : stored new ≡ lives
  pub standing : IsConsistent (content new)
  pub contexts : HoldsContexts (contexts_of lives) new.now.trees
  pub sound : IsDatabase new.now
