-- What a call inside a transaction finds or does, and what stays.
use Rattle.std.specs.Prelude.{◌≡◌, IsTrue, Result, IfOk, OnOk}
use Rattle.sqlite.specs.declared.transaction.Transaction.{Transaction}
use Rattle.sqlite.specs.Held.{state}
use Rattle.sqlite.specs.Effect.{IsDatabase}
use Rattle.sqlite.specs.State.{State, HasCleanDisk, IsUnchanged, KeepsCommit, Survives}
use Rattle.sqlite_trees.specs.declared.store.Store.{Ghosts}

-- the state of the connection behind a transaction
abbrev pub behind : {S : Type 0} → Ghosts S → Transaction S → State
behind g tx = state g tx.conn.now

-- The call reads and does nothing else: at `Ok` the store was open and all is as it was, an error commits nothing, and
-- a crash leaves what it left before.
pub record Reads {S V E : Type 0} (g : Ghosts S) (old new : Transaction S)
    (result : Result V E) : Type 0 where
  pub same_reference : new.conn.ghost_name ≡ old.conn.ghost_name
  pub same : HasCleanDisk (behind g new) → OnOk result (IsUnchanged (behind g old) (behind g new))
  pub kept : HasCleanDisk (behind g new) → IsTrue (behind g old).in_transaction →
      KeepsCommit (behind g old) (behind g new)
  pub survives : Survives (behind g old) (behind g new) (λ _. ⊥)

-- As `Reads`, by a call that may have nothing to ask: then it doesn't learn whether the store is open.
pub record MayRead {S V E : Type 0} (g : Ghosts S) (old new : Transaction S)
    (result : Result V E) : Type 0 where
  pub same_reference : new.conn.ghost_name ≡ old.conn.ghost_name
  pub was_open : HasCleanDisk (behind g new) →
      OnOk result (IsTrue (behind g new).is_open → IsTrue (behind g old).is_open)
  pub same : HasCleanDisk (behind g new) → IsTrue (behind g old).is_open →
      OnOk result (IsUnchanged (behind g old) (behind g new))
  pub kept : HasCleanDisk (behind g new) → IsTrue (behind g old).is_open →
      IsTrue (behind g old).in_transaction → KeepsCommit (behind g old) (behind g new)
  pub survives : Survives (behind g old) (behind g new) (λ _. ⊥)

-- at `Ok` the value is such of the state that the call found, while the disk returns what was written
abbrev pub Finds : {S V E : Type 0} (g : Ghosts S) (old new : Transaction S) → Result V E →
    (State → V → Type 0) → Type 0
Finds g old new result Such = HasCleanDisk (behind g new) → IfOk result (Such (behind g old))

-- as `Finds`, of a store that was open
abbrev pub MayFind : {S V E : Type 0} (g : Ghosts S) (old new : Transaction S) → Result V E →
    (State → V → Type 0) → Type 0
MayFind g old new result Such =
    HasCleanDisk (behind g new) → IsTrue (behind g old).is_open → IfOk result (Such (behind g old))

-- The call writes in the transaction that it found: an error commits nothing, and a crash leaves what it left before.
pub record StaysInside {S : Type 0} (g : Ghosts S) (old new : Transaction S) : Type 0 where
  pub same_reference : new.conn.ghost_name ≡ old.conn.ghost_name
  pub kept : HasCleanDisk (behind g new) → IsTrue (behind g old).in_transaction →
      KeepsCommit (behind g old) (behind g new)
  pub survives : Survives (behind g old) (behind g new) (λ _. ⊥)

-- at `Ok` the states before and after the call are such, while the disk returns what was written
abbrev pub Does : {S V E : Type 0} (g : Ghosts S) (old new : Transaction S) → Result V E →
    (State → State → Type 0) → Type 0
Does g old new result Such =
    HasCleanDisk (behind g new) → OnOk result (Such (behind g old) (behind g new))

-- a transaction runs on a store that is open, over a sound database
pub record IsRunning (s : State) : Type 0 where
  pub inside : IsTrue s.in_transaction
  pub is_open : IsTrue s.is_open
  pub sound : IsDatabase s.now

-- as `Does`, by a call that may have nothing to do: then it doesn't learn whether a transaction runs
abbrev pub MayDo : {S V E : Type 0} (g : Ghosts S) (old new : Transaction S) → Result V E →
    (State → State → Type 0) → Type 0
MayDo g old new result Such =
    HasCleanDisk (behind g new) → IsRunning (behind g old) →
    OnOk result (Such (behind g old) (behind g new))
