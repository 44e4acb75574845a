use Rattle.std.proofs.Common.{not, refl, ap, subst, sym}
use Rattle.osb_frames.specs.Steps.{message}
use Rattle.osb_replies.specs.Parts.{refused}
use Rattle.osb_broker.specs.Inside.{given_rules, Handles}
use Rattle.osb_broker.specs.Steps.{machine}
use Rattle.osb_broker.proofs.ReplyLemmas.{handles_reply, handles_refusal}
use Rattle.osb_broker.proofs.setup.Setup.handled.Goals as goal

pub returns-in-Ok-clause-handles : goal.returns-in-Ok-clause-handles
returns-in-Ok-clause-handles g c =
    let rules = given_rules c.args.self.now in
    handles_reply (machine rules) rules (message c.args.request.now) c.args.last (λ lives. refl) (c.never_fails.ensures.machine rules) c.in-Ok.ensures.gives

pub returns-in-Err-clause-handles : goal.returns-in-Err-clause-handles
returns-in-Err-clause-handles g c =
    let rules = given_rules c.args.self.now in
    subst (λ after. Handles g.S.Store (machine rules) rules (message c.args.request.now) c.args.last c.args.records.now after refused) (sym c.note_refusal.ensures.same)
    (handles_refusal (machine rules) rules (message c.args.request.now) c.args.last (λ lives. refl) (ap not c.in-Err.ensures.late) c.in-Err.ensures.gives)
