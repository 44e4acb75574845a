use Rattle.std.proofs.Common.{refl}
use Rattle.osb_standing.proofs.ReadLemmas.{view_is}
use Rattle.osb_standing.proofs.read.view_by.Goals as goal

pub returns : goal.returns
returns c = λ lives ask h r. view_is lives ask c.args.read _ _ _ refl c.standing_and_count-standing.ensures.standing c.standing_and_count-standing.ensures.count h r
