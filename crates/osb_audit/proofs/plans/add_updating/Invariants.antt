use Rattle.std.proofs.Common.{take}
use Rattle.osb_audit.specs.Gathered.{pairs_in_orders, Adds}
use Rattle.osb_audit.proofs.plans.add_updating.Given as goal

abbrev pub invariant-loop-order : goal.invariant-loop-order
invariant-loop-order l = Adds (pairs_in_orders (take l.order-index l.running)) l.fn.plans l.plans
