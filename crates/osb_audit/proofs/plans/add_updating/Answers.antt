use Rattle.osb_audit.specs.Orders.{Entry}
use Rattle.osb_audit.specs.Gathered.{pairs_in_order}
use Rattle.osb_audit.proofs.SetLemmas.{adds_more}
use Rattle.osb_audit.proofs.plans.add_updating.Goals as goal

pub loop-order-preserved : goal.loop-order-preserved
loop-order-preserved c =
    adds_more (λ (entry : Entry). pairs_in_order entry.1) c.args.running.now c.loop-order.order-index c.loop-order-item.result _ c.loop-order.plans c.add_order.new.plans c.loop-order-test.true c.loop-order-item.is c.loop-order.invariant c.in_ok-add_order.ensures
