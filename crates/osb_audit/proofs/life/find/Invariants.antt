use Rattle.std.proofs.Common.{take}
use Rattle.osb_audit.specs.Life.{orders_in, IsLifeSoFar}
use Rattle.osb_audit.proofs.life.find.Given as goal

abbrev pub invariant-loop-order : goal.invariant-loop-order
invariant-loop-order l = IsLifeSoFar (orders_in (take l.order-index l.orders)) l.found
