use Rattle.std.proofs.Common.{refl, inl, inr, subst, sym, arith}
use Rattle.osb_frames.specs.Steps.{message}
use Rattle.osb_replies.specs.Parts.{refused}
use Rattle.osb_broker.specs.Inside.{given_rules, Handles}
use Rattle.osb_broker.specs.Steps.{capped}
use Rattle.osb_broker.proofs.ReplyLemmas.{handles_reply, handles_refusal}
use Rattle.osb_broker.proofs.setup.Setup.answer_in.Goals as goal

pub returns-in-Ok-clause-handles : goal.returns-in-Ok-clause-handles
returns-in-Ok-clause-handles g c =
    let rules = given_rules c.args.self.now in
    handles_reply (capped rules) rules (message c.args.request.now) c.args.last (λ lives. refl) (c.never_fails.ensures.capped rules) c.in-Ok.ensures.gives

pub returns-in-Err-clause-handles : goal.returns-in-Err-clause-handles
returns-in-Err-clause-handles g c =
    let rules = given_rules c.args.self.now in
    subst (λ after. Handles g.S.Store (capped rules) rules (message c.args.request.now) c.args.last c.args.records.now after refused) (sym c.note_refusal.ensures.same)
    (handles_refusal (capped rules) rules (message c.args.request.now) c.args.last (λ lives. refl) refl c.in-Err.ensures.gives)

pub returns-in-Ok-clause-room : goal.returns-in-Ok-clause-room
returns-in-Ok-clause-room g c = inr c.in-Ok.ensures.room

pub returns-in-Ok-clause-spare : goal.returns-in-Ok-clause-spare
returns-in-Ok-clause-spare g c = λ there. omega (arith, c.in-Ok.ensures.room)

pub returns-in-Err-clause-room : goal.returns-in-Err-clause-room
returns-in-Err-clause-room g c = inl refl
