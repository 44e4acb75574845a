use Rattle.std.proofs.Common.{◌≡◌, ◌&&◌, [], drop}
use Rattle.osb_orders.specs.declared.order.OrderKind.TheVariants.{Bind}
use Rattle.osb_orders.specs.Lists.{from_last}
use Rattle.osb_orders.specs.Orders.{is_a, is_of_binding}
use Rattle.osb_orders.proofs.plain.bindings.since_last_bind.Given as goal

abbrev pub invariant-loop-place : goal.invariant-loop-place
invariant-loop-place l = from_last (λ order. is_a Bind order && is_of_binding l.id order) (drop l.place l.life) ≡ []
