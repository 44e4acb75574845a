use Rattle.std.proofs.Common.{◌≡◌, ◌++◌, refl, ap, ◌∙◌}
use Rattle.osb_frames.specs.InMemory.{bytes_of, room_of}
use Rattle.osb_replies.specs.Parts.{parts}
use Rattle.osb_replies.specs.Text.{reply_text}
use Rattle.osb_broker.specs.Inside.{given_rules}
use Rattle.osb_broker.proofs.CrashLemmas.{leaves_weaker}
use Rattle.osb_broker.proofs.LostLemmas.{handled_or_lost, replied_or_lost}
use Rattle.osb_broker.proofs.ReplyLemmas.{worked}
use Rattle.osb_broker.proofs.ShutLemmas.{handled_so}
use Rattle.osb_broker.proofs.FixedLemmas.{reply_fits, written_whole}
use Rattle.osb_broker.proofs.setup.Setup.reply_into.Goals as goal

pub returns-clause-answers : goal.returns-clause-answers
returns-clause-answers g c before after go =
    let reply = parts c.answer_in-reply.result in
    let answer = c.answer_in-reply.ensures in
    let fits = reply_fits reply (room_of c.answer_in-reply.new.room) answer.room (answer.spare c.requires) in
    let handled = handled_so (λ _. refl) answer.handles before after go in (
      handled.0,
      reply,
      handled.1,
      written_whole c.write_reply.result _ _ (reply_text reply) _ c.write_reply.ensures.sent c.write_reply.ensures.short fits ∙ ap (λ l. l ++ reply_text reply) answer.unwritten.taken,
      refl,
    )

pub returns-clause-worked : goal.returns-clause-worked
returns-clause-worked g c = worked c.answer_in-reply.ensures.handles

pub returns-clause-leaves : goal.returns-clause-leaves
returns-clause-leaves g c works clean =
    let reply = parts c.answer_in-reply.result in
    let answer = c.answer_in-reply.ensures in
    let fits = reply_fits reply (room_of c.answer_in-reply.new.room) answer.room (answer.spare c.requires) in
    let wrote : bytes_of c.write_reply.new.sink ≡ bytes_of c.args.output.now ++ reply_text reply =
    written_whole c.write_reply.result _ _ (reply_text reply) _ c.write_reply.ensures.sent c.write_reply.ensures.short fits ∙ ap (λ l. l ++ reply_text reply) answer.unwritten.taken in
    leaves_weaker (λ lives. replied_or_lost reply (wrote, refl, refl))
    (handled_or_lost (λ lives. refl) (λ _. refl) (c.never_fails.ensures.capped (given_rules c.args.self.now)) (λ w. c.lives_are_whole.ensures.whole w.clean w.live) (λ w. c.lives_are_whole.ensures.kept w.clean w.live) answer.handles works clean)
