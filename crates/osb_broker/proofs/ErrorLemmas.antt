-- A reply that reports an error has changed nothing.
use Rattle.std.proofs.Common.{◌≡◌, false, Result, Ok, Err, refl}
use Rattle.osb_frames.specs.Cuts.{Message}
use Rattle.osb_catalog.specs.Rules.{Rules}
use Rattle.osb_asks.specs.declared.ask.Ask.{Ask}
use Rattle.osb_asks.specs.declared.ask_fault.AskFault.{AskFault}
use Rattle.osb_asks.specs.Asks.{ask_of}
use Rattle.osb_orders.specs.Lives.{Lives}
use Rattle.osb_asks.specs.Subjects.{instance_id_of}
use Rattle.osb_machine.specs.Machine.{answer_to}
use Rattle.osb_laws.specs.Statuses.{is_success}
use Rattle.osb_laws.proofs.FailureLemmas.{errors_change_nothing}
use Rattle.osb_laws.proofs.MapLemmas.{quiet_step}
use Rattle.osb_broker.specs.Steps.{machine, step_for}

pub errors_stay : (rules : Rules) (lives : Lives) (q : Message) → let step = (machine rules).step lives q in is_success step.0.status ≡ false → step.1 ≡ lives
errors_stay rules lives q = by (ask_of rules q)
  where
    by : (r : Result Ask AskFault) → is_success (step_for rules lives r).0.status ≡ false → (step_for rules lives r).1 ≡ lives
    by (Err f) e = refl
    by (Ok ask) e = quiet_step (answer_to rules lives ask).change lives (instance_id_of ask) (errors_change_nothing rules lives ask e)
