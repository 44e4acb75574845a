use Rattle.std.proofs.Common.{◌≡◌}
use Rattle.osb_contexts.specs.Reads.{behind}
use Rattle.osb_statements.proofs.ContextLemmas.{HasJoined}
use Rattle.osb_joined.specs.Joined.{joined_order}
use Rattle.osb_contexts.specs.Steps.{contexts}
use Rattle.osb_statements.proofs.contexts.join_orders.Given as goal

abbrev pub invariant-loop-order : goal.invariant-loop-order
invariant-loop-order g l = (l.tx.conn.ghost_name ≡ l.fn.tx.conn.ghost_name) × HasJoined (λ s. joined_order (contexts s) l.fn.instance) (behind g.S.Store l.fn.tx) (behind g.S.Store l.tx) l.orders l.order-index l.joined.items
