use Rattle.std.proofs.Common.{◌≡◌, ◌++◌, drop, filter}
use Rattle.osb_orders.specs.Orders.{is_of_binding}
use Rattle.osb_orders.proofs.plain.named.of_binding.Given as goal

abbrev pub invariant-loop-order : goal.invariant-loop-order
invariant-loop-order l = l.orders.items ++ filter (is_of_binding l.id) (drop l.order-index l.life) ≡ filter (is_of_binding l.id) l.life
