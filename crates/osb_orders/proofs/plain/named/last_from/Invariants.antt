use Rattle.std.proofs.Common.{◌≡◌, drop}
use Rattle.osb_orders.specs.Lists.{last_from}
use Rattle.osb_orders.proofs.plain.named.last_from.Given as goal

abbrev pub invariant-loop-order : goal.invariant-loop-order
invariant-loop-order l = last_from l.last (drop l.order-index l.later) ≡ last_from l.first l.later
