use Rattle.osb_statements.specs.Stored.{order_decoded}
use Rattle.osb_statements.proofs.orders.orders_in.Goals as goal
use Rattle.osb_contexts.proofs.ReadLemmas.{told_push}

pub loop-row-preserved : goal.loop-row-preserved
loop-row-preserved c = told_push order_decoded c.args.rows.now c.loop-row.row-index c.row-item.result c.loop-row.orders.items c.push.new.self.items _ c.loop-row-test.true c.row-item.is c.loop-row.invariant c.in_ok-push.ensures.items c.in_ok-order_in.ensures.told
