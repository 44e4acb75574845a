use Rattle.std.proofs.Common.{◌≡◌}
use Rattle.osb_contexts.specs.Reads.{behind}
use Rattle.osb_records.specs.Transactions.{HasMade}
use Rattle.osb_records.proofs.changes.make_all_in.Given as goal

abbrev pub invariant-loop-change : goal.invariant-loop-change
invariant-loop-change g l = record {
  same_reference : l.tx.conn.ghost_name ≡ l.fn.tx.conn.ghost_name;
  made : HasMade (behind g.S.Store l.fn.tx) (behind g.S.Store l.tx) l.changes l.change-index;
}
