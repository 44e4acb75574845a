use Rattle.std.proofs.Common.{◌≡◌, map, take}
use Rattle.osb_statements.specs.Stored.{order_decoded}
use Rattle.osb_statements.proofs.orders.orders_in.Given as goal

abbrev pub invariant-loop-row : goal.invariant-loop-row
invariant-loop-row l = l.orders.items ≡ map order_decoded (take l.row-index l.rows)
