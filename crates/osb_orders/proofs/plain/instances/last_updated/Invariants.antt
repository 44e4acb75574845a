use Rattle.std.proofs.Common.{◌≡◌, drop}
use Rattle.osb_orders.specs.declared.order.OrderKind.TheVariants.{Update}
use Rattle.osb_orders.specs.Lists.{last_where}
use Rattle.osb_orders.specs.Orders.{has_succeeded}
use Rattle.osb_orders.proofs.plain.instances.last_updated.Given as goal

abbrev pub invariant-loop-order : goal.invariant-loop-order
invariant-loop-order l = last_where (has_succeeded Update) l.last (drop l.order-index l.later) ≡ last_where (has_succeeded Update) l.birth l.later
