use Rattle.std.proofs.Common.{◌≡◌}
use Rattle.osb_contexts.specs.Reads.{behind}
use Rattle.osb_contexts.proofs.MigrationLemmas.{HasInserted}
use Rattle.osb_contexts.proofs.migration.insert_contexts.Given as goal

abbrev pub invariant-loop-entry : goal.invariant-loop-entry
invariant-loop-entry g l = (l.tx.conn.ghost_name ≡ l.fn.tx.conn.ghost_name) × HasInserted (behind g.S.Store l.fn.tx) (behind g.S.Store l.tx) l.entries l.entry-index
