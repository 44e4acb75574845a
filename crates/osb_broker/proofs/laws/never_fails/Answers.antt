use Rattle.osb_broker.proofs.FailureLemmas.{never_fails}
use Rattle.osb_broker.proofs.laws.never_fails.Goals as goal

pub returns-clause-machine : goal.returns-clause-machine
returns-clause-machine c = never_fails c.never_500.ensures c.never_memory.ensures

pub returns-clause-capped : goal.returns-clause-capped
returns-clause-capped c = never_fails c.never_500.ensures c.never_memory.ensures
