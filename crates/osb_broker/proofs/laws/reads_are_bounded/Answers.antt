use Rattle.osb_broker.proofs.ReadLemmas.{bounded}
use Rattle.osb_broker.proofs.laws.reads_are_bounded.Goals as goal

pub returns : goal.returns
returns c = bounded
