-- An answer that is ready, before its change is made. For contracts inside the crate.
use Rattle.std.specs.Prelude.{◌≡◌, ◌⊎◌, ℕ, List, Option, None, Some, IsTrue}
use Rattle.sqlite.specs.Tree.{Trees}
use Rattle.sqlite.specs.State.{State}
use Rattle.osb_replies.specs.Body.{body_bytes}
use Rattle.osb_orders.specs.declared.order.Change.{Change}
use Rattle.osb_orders.specs.Lives.{Lives}
use Rattle.osb_orders.specs.Changed.{lives_changed}
use Rattle.osb_machine.specs.declared.answer_and_change.Answer as code
use Rattle.osb_records.specs.declared.change.LifeChange.{LifeChange}
use Rattle.osb_records.specs.Changes.{CanBeMade}
use Rattle.osb_statements.specs.Stored.{lives_stored}
use Rattle.osb_broker.specs.declared.prepared.Prepared.{Prepared}
use Rattle.osb_broker.specs.Machine.{Answer}

-- an answer of the code
abbrev pub answer_parts : code.Answer → Answer
answer_parts answer = record { status = answer.status; body = body_bytes answer.body }

-- the change of an ask that names an instance, or none
abbrev pub pending_for : Option (List ℕ) → Change → Option LifeChange
pending_for None change = None
pending_for (Some id) change = Some (record { instance = id; change = change })

-- the lives once the change is made
abbrev pub after_pending : Option LifeChange → Lives → Lives
after_pending None lives = lives
after_pending (Some pending) lives = lives_changed pending.change pending.instance lives

-- the change may be made: it leaves well-formed lives, and ends no order but the running last one
abbrev pub IsApplicable : Option LifeChange → Lives → Type 0
IsApplicable None lives = Unit {0}
IsApplicable (Some pending) lives = CanBeMade pending lives

-- what a crash may leave once the change is made: the lives after it, where the store was open; or what it could leave
-- before, where there was nothing to change
abbrev pub PendingIsDurable : State → Lives → Option LifeChange → Trees → Type 0
PendingIsDurable s lives pending db =
    (IsTrue s.is_open × (lives_stored db ≡ after_pending pending lives))
    ⊎ (((any : Lives) → after_pending pending any ≡ any) × s.may_leave db)

-- the answer is that of the step; the change may be made, and leaves the lives of the step
pub record Prepares (lives : Lives) (prepared : Prepared) (step : Answer × Lives) : Type 0 where
  pub answer : answer_parts prepared.answer ≡ step.0
  pub allowed : IsApplicable prepared.pending lives
  pub lives_are : after_pending prepared.pending lives ≡ step.1
