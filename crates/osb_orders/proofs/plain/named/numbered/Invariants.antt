use Rattle.std.proofs.Common.{◌≡◌, drop}
use Rattle.osb_orders.specs.Named.{order_numbered}
use Rattle.osb_orders.proofs.plain.named.numbered.Given as goal

abbrev pub invariant-loop-order : goal.invariant-loop-order
invariant-loop-order l = order_numbered l.number (drop l.order-index l.orders) ≡ order_numbered l.number l.orders
