use Rattle.std.proofs.Common.{◌≡◌, [], drop}
use Rattle.osb_orders.specs.declared.order.OrderKind.TheVariants.{Create}
use Rattle.osb_orders.specs.Lists.{from_last}
use Rattle.osb_orders.specs.Orders.{is_a}
use Rattle.osb_orders.proofs.plain.instances.since_create.Given as goal

abbrev pub invariant-loop-place : goal.invariant-loop-place
invariant-loop-place l = from_last (is_a Create) (drop l.place l.life) ≡ []
