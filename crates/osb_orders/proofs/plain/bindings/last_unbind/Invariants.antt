use Rattle.std.proofs.Common.{◌≡◌, ◌&&◌, drop}
use Rattle.osb_orders.specs.declared.order.OrderKind.TheVariants.{Unbind}
use Rattle.osb_orders.specs.Lists.{last_where}
use Rattle.osb_orders.specs.Orders.{is_a, is_of_binding}
use Rattle.osb_orders.proofs.plain.bindings.last_unbind.Given as goal

abbrev pub invariant-loop-order : goal.invariant-loop-order
invariant-loop-order l = last_where (λ order. is_a Unbind order && is_of_binding l.id order) l.last (drop l.order-index l.later) ≡ last_where (λ order. is_a Unbind order && is_of_binding l.id order) l.bind l.later
