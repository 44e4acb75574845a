use Rattle.std.proofs.Common.{refl}
use Rattle.osb_asks.specs.Asks.{ask_of}
use Rattle.osb_frames.specs.Steps.{message}
use Rattle.osb_replies.specs.Parts.{parts}
use Rattle.osb_broker.specs.Inside.{given_rules}
use Rattle.osb_broker.specs.Steps.{machine}
use Rattle.osb_broker.proofs.CrashLemmas.{leaves_weaker}
use Rattle.osb_broker.proofs.LoopLemmas.{in_part}
use Rattle.osb_broker.proofs.LostLemmas.{begun, handled_or_lost, replied_or_lost}
use Rattle.osb_broker.proofs.ReplyLemmas.{worked}
use Rattle.osb_broker.proofs.ShutLemmas.{handled_so, takes}
use Rattle.osb_broker.proofs.setup.Setup.handle_and_write.Goals as goal

pub returns-clause-answers : goal.returns-clause-answers
returns-clause-answers g c before after go =
    let asked = ask_of (given_rules c.args.self.now) (message c.args.request.now) in
    let handled = handled_so (takes asked) c.handled-reply.ensures.handles before after go in
    (handled.0, parts c.handled-reply.result, handled.1, (c.in_ok-write_reply.ensures.sent, c.in_ok-write_reply.ensures.quiet, refl))

pub returns-in_err-write_reply-clause-answers : goal.returns-in_err-write_reply-clause-answers
returns-in_err-write_reply-clause-answers g c before after go =
    let rules = given_rules c.args.self.now in
    let q = message c.args.request.now in
    let handled = handled_so (takes (ask_of rules q)) c.handled-reply.ensures.handles before after go in
    in_part (machine rules) q c.args.last before after _ _ _ _ c.from_residual.result handled.0 (parts c.handled-reply.result) c.in_err-write_reply.field-0.0.written c.from_residual.ensures.0 handled.1 c.in_err-write_reply.ensures.cut c.in_err-write_reply.ensures.cause

pub returns-clause-worked : goal.returns-clause-worked
returns-clause-worked g c = worked c.handled-reply.ensures.handles

pub returns-in_err-write_reply-clause-worked : goal.returns-in_err-write_reply-clause-worked
returns-in_err-write_reply-clause-worked g c = worked c.handled-reply.ensures.handles

pub returns-clause-leaves : goal.returns-clause-leaves
returns-clause-leaves g c works clean =
    let rules = given_rules c.args.self.now in
    leaves_weaker (λ lives. replied_or_lost (parts c.handled-reply.result) (c.in_ok-write_reply.ensures.sent, c.in_ok-write_reply.ensures.quiet, refl))
    (handled_or_lost (λ lives. refl) (takes (ask_of rules (message c.args.request.now))) (c.never_fails.ensures.machine rules) (λ w. c.lives_are_whole.ensures.whole w.clean w.live) (λ w. c.lives_are_whole.ensures.kept w.clean w.live) c.handled-reply.ensures.handles works clean)

pub returns-in_err-write_reply-clause-leaves : goal.returns-in_err-write_reply-clause-leaves
returns-in_err-write_reply-clause-leaves g c works clean =
    let rules = given_rules c.args.self.now in
    let reply = parts c.handled-reply.result in
    leaves_weaker (λ lives. replied_or_lost reply (begun _ reply _ c.from_residual.ensures.0 c.in_err-write_reply.ensures.cut c.in_err-write_reply.ensures.cause))
    (handled_or_lost (λ lives. refl) (takes (ask_of rules (message c.args.request.now))) (c.never_fails.ensures.machine rules) (λ w. c.lives_are_whole.ensures.whole w.clean w.live) (λ w. c.lives_are_whole.ensures.kept w.clean w.live) c.handled-reply.ensures.handles works clean)
