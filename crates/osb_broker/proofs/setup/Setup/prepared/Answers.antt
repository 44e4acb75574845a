use Rattle.std.proofs.Common.{Err, ap}
use Rattle.osb_broker.proofs.LateLemmas.{not_early}
use Rattle.osb_broker.proofs.StoreLemmas.{lacks_memory}
use Rattle.osb_broker.proofs.setup.Setup.prepared.Goals as goal

pub returns-in-Ok-clause-gives : goal.returns-in-Ok-clause-gives
returns-in-Ok-clause-gives g c = rw c.in-Ok.ensures.reads c.asked-prepared.ensures

pub returns-in-Err-Memory-clause-gives : goal.returns-in-Err-Memory-clause-gives
returns-in-Err-Memory-clause-gives g c =
    lacks_memory g.S.Store _ _ c.args.records.now _ (not_early (Err c.in-Err-Memory.field-0) _ c.in-Err-Memory.ensures.early (ap Err c.in-Err-Memory.field-0-is))
