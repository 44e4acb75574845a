use Rattle.std.proofs.Common.{◌≡◌, ◌++◌, drop}
use Rattle.osb_orders.proofs.plain.kept.copied.Given as goal

abbrev pub invariant-loop-order : goal.invariant-loop-order
invariant-loop-order l = l.copy.items ++ drop l.order-index l.life ≡ l.life
