use Rattle.std.proofs.Common.{arith}
use Rattle.osb_replies.specs.Text.{reply_text}
use Rattle.osb_broker.specs.Machine.{fault_reply}
use Rattle.osb_broker.proofs.FixedLemmas.{fault_fits, refused_whole}
use Rattle.osb_broker.proofs.runs.refuse_into.Goals as goal

pub returns : goal.returns
returns c = refused_whole c.refuse.result _ _ _ _ (reply_text (fault_reply c.args.kind)) _ c.refuse.ensures.writes c.refuse.ensures.short (let h = fault_fits c.args.kind in omega arith)
