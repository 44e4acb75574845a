-- What one transaction does to a connection. For contracts inside the crate.
use Rattle.std.specs.Prelude.{◌≡◌, ◌<◌, ℕ, List, take, IsTrue, Result, Err, OnOk, OnErr}
use Rattle.sqlite.specs.Schema.{Schema}
use Rattle.sqlite.specs.Effect.{IsDatabase}
use Rattle.sqlite.specs.State.{State, HasCleanDisk, KeepsCommit, Survives}
use Rattle.osb_orders.specs.Lives.{Lives}
use Rattle.osb_statements.specs.declared.fault.StoreFault.{StoreFault}
use Rattle.osb_statements.specs.declared.fault.StoreFault.TheVariants.{NotOurs}
use Rattle.osb_contexts.specs.Inside.{Within}
use Rattle.osb_statements.specs.Queries.{HasLives, ShowsLives}
use Rattle.osb_statements.specs.Steps.{IsReady, IsSettled, stored, LeavesOnly}
use Rattle.osb_records.specs.declared.change.LifeChange.{LifeChange}
use Rattle.osb_records.specs.Changes.{all_changed}
use Rattle.osb_records.specs.Opened.{AreLivesOfDatabase}
use Rattle.osb_records.specs.Commit.{Commits}

-- no transaction is open on the database, and it has this schema
abbrev pub FindsSettled : Schema → State → Type 0
FindsSettled schema s = IsSettled s × (s.now.schema ≡ schema)

-- The database was taken over: at `Ok` it is ready and shows the lives that stood in it, with a fault it is as it was, and
-- NotOurs says that no lives are in it.
pub record TakesOver (old new : State) (result : Result (Unit {0}) StoreFault) : Type 0 where
  pub ready : OnOk result (IsReady new)
  pub ok : HasCleanDisk new → IsTrue new.is_open →
      OnOk result (AreLivesOfDatabase old.now (stored new))
  pub err : HasCleanDisk new → IsTrue new.is_open → OnErr result (new.now ≡ old.now)
  pub not_ours : HasCleanDisk new → result ≡ Err NotOurs → (lives : Lives) →
      ¬ AreLivesOfDatabase old.now lives

-- The change was committed: at `Ok` the store was open, these are the lives, and a crash leaves them and nothing else; an
-- error leaves the lives as they were; and a crash of the call leaves what it left before, or these lives.
pub record BecomesLives (old new : State) (result : Result (Unit {0}) StoreFault)
    (lives : Lives) : Type 0 where
  pub ok : HasCleanDisk new → OnOk result (stored new ≡ lives)
  pub err : HasCleanDisk new → IsTrue new.is_open → OnErr result (stored new ≡ stored old)
  pub was_open : HasCleanDisk new → IsTrue new.is_open → IsTrue old.is_open
  pub found_open : HasCleanDisk new → OnOk result (IsTrue old.is_open)
  pub durable : HasCleanDisk new → OnOk result (LeavesOnly new (stored new))
  pub crash : Survives old new (Commits old lives)

-- A transaction runs, on a store that shows lives where it is open.
pub record IsInside (s : State) : Type 0 where
  pub runs : HasCleanDisk s → IsTrue s.in_transaction
  pub shows : ShowsLives s
  pub sound : HasCleanDisk s → IsTrue s.is_open → IsDatabase s.now

-- Inside a transaction that goes on the lives have become these, well formed, with the rows and the contexts that they
-- have. Nothing is committed.
pub record Goes (old new : State) (lives : Lives) : Type 0 where
  pub within : Within old new
  pub shows : HasLives new.now
  pub lives_are : stored new ≡ lives
  pub sound : IsDatabase new.now

-- so many of these changes were made inside a transaction that goes on, and nothing is committed
pub record HasMade (old new : State) (changes : List LifeChange) (count : ℕ) : Type 0 where
  pub inside : IsInside new
  pub survives : Survives old new (λ _. ⊥)
  pub kept : HasCleanDisk new → KeepsCommit old new
  pub found_open : HasCleanDisk new → 0 < count → IsTrue old.is_open
  pub goes : HasCleanDisk new → IsTrue old.is_open →
      Goes old new (all_changed (take count changes) (stored old))
