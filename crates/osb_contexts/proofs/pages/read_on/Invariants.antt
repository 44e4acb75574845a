use Rattle.std.proofs.Common.{◌≡◌}
use Rattle.osb_contexts.specs.Pages.{tree_of, AreReadTo}
use Rattle.osb_contexts.specs.Reads.{behind}
use Rattle.osb_contexts.proofs.PageLemmas.{HasReadPages}
use Rattle.osb_contexts.proofs.pages.read_on.Given as goal

abbrev pub invariant-loop : goal.invariant-loop
invariant-loop g l =
    let table = (behind g.S.Store l.fn.tx).now.trees (tree_of l.fn.table) in
    (l.tx.conn.ghost_name ≡ l.fn.tx.conn.ghost_name) × HasReadPages (behind g.S.Store l.fn.tx) (behind g.S.Store l.tx) (AreReadTo table l.fn.first.named l.fn.first.next → AreReadTo table l.page.named l.page.next)
