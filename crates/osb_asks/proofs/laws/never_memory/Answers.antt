use Rattle.osb_asks.proofs.AskLemmas.{never_memory}
use Rattle.osb_asks.proofs.laws.never_memory.Goals as goal

pub returns : goal.returns
returns c = never_memory
