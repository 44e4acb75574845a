use Rattle.std.proofs.Common.{◌+◌, take, drop, subst}
use Rattle.osb_orders.specs.IsLife.{IsLife}
use Rattle.osb_audit.specs.Life.{orders_in}
use Rattle.osb_audit.proofs.LifeLemmas.{appendable_at, orders_split}
use Rattle.osb_audit.proofs.life.find.Goals as goal

pub returns-then-not-branch-clause-none : goal.returns-then-not-branch-clause-none
returns-then-not-branch-clause-none c = λ life.
    let orders = c.args.orders.now in
    let i = c.loop-order.order-index in
    let before = orders_in (take i orders) in
    let entry = c.loop-order-item.result in
    let split = orders_split orders i entry c.loop-order-test.true c.loop-order-item.is in
    let next = appendable_at before (orders_in (drop (i + 1) orders)) entry.1 (subst IsLife split life) in
    let yes = (c.in_ok-is_allowed.ensures before c.loop-order.invariant).1 next in
    let not_allowed = c.if-not-branch.true in
    cc
