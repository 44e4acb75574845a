-- The step of an ask may be made, and leads where the machine does.
use Rattle.std.proofs.Common.{◌≡◌, ◌∙◌, ℕ, List, Option, None, Some, Ok, refl, sym, ap, subst}
use Rattle.osb_catalog.specs.Rules.{Rules}
use Rattle.osb_catalog.specs.Sound.{AreSound}
use Rattle.osb_asks.specs.declared.ask.Ask.{Ask}
use Rattle.osb_asks.specs.Subjects.{instance_id_of}
use Rattle.osb_asks.specs.ValidTexts as asks
use Rattle.osb_orders.specs.declared.order.Change.{Change}
use Rattle.osb_orders.specs.declared.order.Change.TheVariants.{Nothing, Append, Finish}
use Rattle.osb_orders.specs.Life.{Life}
use Rattle.osb_orders.specs.Lives.{Lives, named_life}
use Rattle.osb_orders.specs.Changed.{after_change}
use Rattle.osb_orders.specs.IsLife.{IsLives}
use Rattle.osb_orders.specs.Allowed.{IsAllowed}
use Rattle.osb_machine.specs.declared.answer_and_change.AnswerAndChange.{AnswerAndChange}
use Rattle.osb_machine.specs.Decision.{Decision}
use Rattle.osb_machine.specs.Machine.{answer_to}
use Rattle.osb_machine.specs.Steps.{decision}
use Rattle.osb_records.specs.Commit.{FinishesLast}
use Rattle.osb_laws.proofs.MapLemmas.{steps_are_allowed, steps_keep_lives}
use Rattle.osb_broker.specs.declared.prepared.Prepared.{Prepared}
use Rattle.osb_broker.specs.Prepared.{answer_parts, pending_for, after_pending, IsApplicable, Prepares}
use Rattle.osb_broker.specs.Machine.{Answer}
use Rattle.osb_broker.specs.Steps.{step_of}
use Rattle.osb_broker.specs.Inside.{IsOfInstance}
use Rattle.osb_records.specs.declared.change.LifeChange.{LifeChange}

-- what the table has for an ask, without what it changes
abbrev pub answer_alone : Decision → Answer
answer_alone decision = record { status = decision.status; body = decision.body }

finishes : (life : Life) (change : Change) → IsAllowed life change → FinishesLast life change
finishes life Nothing allowed = tt
finishes life (Append order) allowed = tt
finishes life (Finish number outcome) allowed = allowed

after_pending_is : (instance : Option (List ℕ)) (change : Change) (lives : Lives) → after_pending (pending_for instance change) lives ≡ after_change change lives instance
after_pending_is None change lives = refl
after_pending_is (Some id) change lives = refl

applicable : (instance : Option (List ℕ)) (change : Change) (lives : Lives) → IsLives (after_change change lives instance) → IsAllowed (named_life lives instance) change → IsApplicable (pending_for instance change) lives
applicable None change lives whole allowed = tt
applicable (Some id) change lives whole allowed = (whole, finishes _ change allowed)

-- the table's answer, with its change for the instance that the ask names
pub prepares : (rules : Rules) (lives : Lives) (ask : Ask) (step : AnswerAndChange) (prepared : Prepared) → AreSound rules → IsLives lives → asks.AskHasValidTexts ask → decision step ≡ answer_to rules lives ask
    → prepared.answer ≡ step.answer → prepared.pending ≡ pending_for (instance_id_of ask) step.change → Prepares lives prepared (step_of rules lives ask)
prepares rules lives ask step prepared sound whole words is answer pending =
    let change : step.change ≡ (answer_to rules lives ask).change = ap (λ r. r.change) is in
    let same : prepared.pending ≡ pending_for (instance_id_of ask) (answer_to rules lives ask).change = subst (λ c. prepared.pending ≡ pending_for (instance_id_of ask) c) change pending in
    record {
      answer = ap answer_parts answer ∙ ap answer_alone is;
      allowed = subst (λ p. IsApplicable p lives) (sym same) (applicable (instance_id_of ask) _ lives (steps_keep_lives rules lives ask sound whole words) (steps_are_allowed rules lives ask sound whole words));
      lives_are = ap (λ p. after_pending p lives) same ∙ after_pending_is (instance_id_of ask) _ lives;
    }

-- the change is of the instance that the ask names
pub of_instance : (ask : Ask) (change : Change) (pending : Option LifeChange) → pending ≡ pending_for (instance_id_of ask) change → IsOfInstance (Ok ask) pending
of_instance ask change pending is = subst (IsOfInstance (Ok ask)) (sym is) (by (instance_id_of ask) refl)
  where
    by : (instance : Option (List ℕ)) → instance_id_of ask ≡ instance → IsOfInstance (Ok ask) (pending_for instance change)
    by None e = tt
    by (Some id) e = (ask, refl, e)
