use Rattle.osb_contexts.specs.Reads.{behind}
use Rattle.osb_contexts.proofs.StepLemmas.{clean_before}
use Rattle.osb_contexts.proofs.OrderLemmas.{stands_updated}
use Rattle.osb_contexts.proofs.orders.stand_updated.Goals as goal

pub returns-clause-ok : goal.returns-clause-ok
returns-clause-ok g c clean =
    let old = behind g.S.Store c.args.tx.now in
    let read = behind g.S.Store c.read_context.new.tx in
    let new = behind g.S.Store c.update_context.new.tx in
    let before = clean_before read new _ c.update_context.ensures.inside.survives clean in
    stands_updated old read new c.args.instance.now c.args.number c.in_ok-context.context (c.in_ok-context.ensures.reads.same before) (c.in_ok-context.ensures.ok before)
    (rw (c.as_str.ensures) at (c.in_ok-update_context.ensures.ok clean))
