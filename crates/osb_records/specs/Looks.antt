-- What a call that reads does to a connection, in a transaction of its own.
use Rattle.std.specs.Prelude.{◌≡◌, IsTrue, Result, OnOk}
use Rattle.sqlite.specs.State.{State, HasCleanDisk, Survives}
use Rattle.osb_statements.specs.Steps.{IsReady}

-- The call reads, in a transaction of its own: at `Ok` the store was open; while it is open afterwards all is as it was,
-- and a crash leaves what it left before.
pub record Looks {V E : Type 0} (old new : State) (result : Result V E) : Type 0 where
  pub ready : IsReady new
  pub same : HasCleanDisk new → IsTrue new.is_open → new.now ≡ old.now
  pub was_open : HasCleanDisk new → IsTrue new.is_open → IsTrue old.is_open
  pub found_open : HasCleanDisk new → OnOk result (IsTrue old.is_open)
  pub crash : Survives old new (λ _. ⊥)

-- As `Looks`, by a call that may have nothing to ask: then it doesn't learn whether the store is open.
pub record MayLook (old new : State) : Type 0 where
  pub ready : IsReady new
  pub same : HasCleanDisk new → IsTrue new.is_open → new.now ≡ old.now
  pub was_open : HasCleanDisk new → IsTrue new.is_open → IsTrue old.is_open
  pub crash : Survives old new (λ _. ⊥)
