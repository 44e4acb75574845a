use Rattle.std.proofs.Common.{refl}
use Rattle.osb_broker.proofs.HandleLemmas.{late}
use Rattle.osb_broker.proofs.ReplyLemmas.{by_step, not_applied}
use Rattle.osb_broker.proofs.setup.Setup.replied.Goals as goal

pub returns-in-Err-clause-late : goal.returns-in-Err-clause-late
returns-in-Err-clause-late g c =
    late _ _ c.in_ok-answer.ensures.gives.quiet c.in-Err.ensures.some

pub returns-in-Err-clause-gives : goal.returns-in-Err-clause-gives
returns-in-Err-clause-gives g c =
    not_applied _ refl c.in_ok-answer.ensures.gives c.in-Err.ensures.applies

pub returns-in-Ok-clause-gives : goal.returns-in-Ok-clause-gives
returns-in-Ok-clause-gives g c =
    by_step c.reply_to-reply.result c.in_ok-answer.ensures.gives c.prepared.ensures.kept c.in-Ok.ensures.applies c.reply_to-reply.ensures
