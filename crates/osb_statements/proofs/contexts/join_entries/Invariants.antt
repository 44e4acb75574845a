use Rattle.std.proofs.Common.{◌≡◌}
use Rattle.osb_contexts.specs.Reads.{behind}
use Rattle.osb_statements.proofs.ContextLemmas.{HasJoined}
use Rattle.osb_joined.specs.Joined.{joined_entry}
use Rattle.osb_contexts.specs.Steps.{contexts}
use Rattle.osb_statements.proofs.contexts.join_entries.Given as goal

abbrev pub invariant-loop-entry : goal.invariant-loop-entry
invariant-loop-entry g l = (l.tx.conn.ghost_name ≡ l.fn.tx.conn.ghost_name) × HasJoined (λ s. joined_entry (contexts s)) (behind g.S.Store l.fn.tx) (behind g.S.Store l.tx) l.entries l.entry-index l.joined.items
