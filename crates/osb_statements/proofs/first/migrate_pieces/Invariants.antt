use Rattle.std.proofs.Common.{◌≡◌}
use Rattle.osb_contexts.specs.Reads.{behind}
use Rattle.osb_statements.proofs.MigratedLemmas.{HasMigrated}
use Rattle.osb_statements.proofs.first.migrate_pieces.Given as goal

abbrev pub invariant-loop : goal.invariant-loop
invariant-loop g l = (l.tx.conn.ghost_name ≡ l.fn.tx.conn.ghost_name) × HasMigrated (behind g.S.Store l.fn.tx) (behind g.S.Store l.tx) l.after
