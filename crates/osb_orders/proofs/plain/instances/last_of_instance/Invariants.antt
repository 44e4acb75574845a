use Rattle.std.proofs.Common.{◌≡◌, drop}
use Rattle.osb_orders.specs.Lists.{last_where}
use Rattle.osb_orders.specs.Orders.{is_of_instance}
use Rattle.osb_orders.proofs.plain.instances.last_of_instance.Given as goal

abbrev pub invariant-loop-order : goal.invariant-loop-order
invariant-loop-order l = last_where is_of_instance l.last (drop l.order-index l.later) ≡ last_where is_of_instance l.birth l.later
