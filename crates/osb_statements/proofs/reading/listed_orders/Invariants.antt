use Rattle.std.proofs.Common.{◌≡◌}
use Rattle.sqlite.specs.Held.{state}
use Rattle.osb_statements.proofs.ListingLemmas.{HasListed}
use Rattle.osb_statements.proofs.reading.listed_orders.Given as goal

abbrev pub invariant-loop-row : goal.invariant-loop-row
invariant-loop-row g l = (l.tx.conn.ghost_name ≡ l.fn.tx.conn.ghost_name) × HasListed (state g.S.Store l.fn.tx.conn.now) (state g.S.Store l.tx.conn.now) l.rows l.row-index l.orders.items
