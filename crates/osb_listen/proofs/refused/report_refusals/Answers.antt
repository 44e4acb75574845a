use Rattle.std.proofs.Common.{[]}
use Rattle.osb_listen.proofs.RefusedLemmas.{says_none_of_refused, then_refused}
use Rattle.osb_listen.proofs.refused.report_refusals.Goals as goal

pub loop-cause-init : goal.loop-cause-init
loop-cause-init g c = says_none_of_refused _ _

pub loop-cause-preserved : goal.loop-cause-preserved
loop-cause-preserved g c = then_refused [] _ _ _ _ _ _ c.loop-cause.invariant c.report_cause.ensures
