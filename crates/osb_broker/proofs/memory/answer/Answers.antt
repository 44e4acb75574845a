use Rattle.osb_broker.proofs.StoreLemmas.{memory_works}
use Rattle.osb_broker.proofs.memory.answer.Goals as goal

pub returns-clause-handled : goal.returns-clause-handled
returns-clause-handled g c = c.answer.ensures.handled (memory_works c.answer.new.self)

pub returns-clause-stays : goal.returns-clause-stays
returns-clause-stays g c = c.answer.ensures.stays (memory_works c.answer.new.self)
