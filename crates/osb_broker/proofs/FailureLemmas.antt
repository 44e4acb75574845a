-- The broker's machine answers nothing by 500, so a reply that says 500 met a refusal.
use Rattle.std.proofs.Common.{◌≡◌, ◌≢◌, ◌∙◌, true, false, Result, Ok, Err, refl, sym, ap}
use Rattle.osb_frames.specs.Cuts.{Message}
use Rattle.osb_replies.specs.Text.{ReplyParts}
use Rattle.osb_catalog.specs.Rules.{Rules}
use Rattle.osb_asks.specs.declared.ask.Ask.{Ask}
use Rattle.osb_asks.specs.declared.ask_fault.AskFault.{AskFault}
use Rattle.osb_asks.specs.declared.ask_fault.AskFault.TheVariants as fault
use Rattle.osb_asks.specs.Asks.{ask_of}
use Rattle.osb_laws.specs.Failures.{is_500, NoAnswerIs500}
use Rattle.osb_broker.specs.Machine.{Machine}
use Rattle.osb_broker.specs.Steps.{step_for, machine}
use Rattle.osb_broker.specs.Refusals.{NeverFails, FailuresStay}

-- the definitions never find that memory is lacking
abbrev pub NeverLacksMemory : Type 0
NeverLacksMemory = (rules : Rules) (q : Message) → ask_of rules q ≢ Err fault.Memory

pub never_fails : NoAnswerIs500 → NeverLacksMemory → (rules : Rules) → NeverFails (machine rules)
never_fails table memory rules lives q = by (ask_of rules q) refl
  where
    by : (r : Result Ask AskFault) → ask_of rules q ≡ r → is_500 (step_for rules lives r).0.status ≡ false
    by (Ok ask) e = table rules lives ask
    by (Err fault.NoDoor) e = refl
    by (Err fault.Auth) e = refl
    by (Err fault.Version) e = refl
    by (Err fault.NoRoute) e = refl
    by (Err fault.Id) e = refl
    by (Err fault.Query) e = refl
    by (Err fault.Body) e = refl
    by (Err fault.NotInCatalog) e = refl
    by (Err fault.Memory) e = absurd (memory rules q e)

pub failures_stay : {S : Type 0} (machine : Machine S) → NeverFails machine → FailuresStay machine
failures_stay machine never q last s reply t (true, answered) is = answered.2
failures_stay machine never q last s reply t (false, answered) is =
    let other : is_500 reply.status ≡ false = ap (λ (r : ReplyParts). is_500 r.status) answered.0 ∙ never s q in
    let both : true ≡ false = sym is ∙ other in
    cc
