use Rattle.std.proofs.Common.{◌≡◌, drop}
use Rattle.osb_orders.specs.Named.{order_named}
use Rattle.osb_orders.proofs.plain.named.named.Given as goal

abbrev pub invariant-loop-order : goal.invariant-loop-order
invariant-loop-order l = order_named l.name (drop l.order-index l.orders) ≡ order_named l.name l.orders
