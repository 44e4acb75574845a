use Rattle.osb_broker.proofs.StoreLemmas.{memory_works}
use Rattle.osb_broker.proofs.memory.handle.Goals as goal

pub returns-clause-handled : goal.returns-clause-handled
returns-clause-handled c = c.handle.ensures.handled (memory_works c.handle.new.self)

pub returns-clause-stays : goal.returns-clause-stays
returns-clause-stays c = c.handle.ensures.stays (memory_works c.handle.new.self)
