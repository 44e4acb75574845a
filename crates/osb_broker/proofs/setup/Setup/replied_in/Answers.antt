use Rattle.std.proofs.Common.{refl}
use Rattle.osb_broker.proofs.ReplyLemmas.{by_step, not_applied}
use Rattle.osb_broker.proofs.setup.Setup.replied_in.Goals as goal

pub returns-in-Err-clause-gives : goal.returns-in-Err-clause-gives
returns-in-Err-clause-gives g c =
    not_applied _ refl c.in_ok-answer.ensures.gives c.in-Err.ensures.applies

pub returns-in-Ok-clause-gives : goal.returns-in-Ok-clause-gives
returns-in-Ok-clause-gives g c =
    by_step c.reply_to-reply.result c.in_ok-answer.ensures.gives c.prepared.ensures.kept c.in-Ok.ensures.applies c.reply_to-reply.ensures
