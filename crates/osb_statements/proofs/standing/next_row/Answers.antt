use Rattle.osb_statements.specs.Steps.{bare_in}
use Rattle.osb_contexts.specs.Reads.{behind}
use Rattle.osb_orders.specs.Lives.{life_of}
use Rattle.osb_statements.proofs.BareLemmas.{bare_row_follows, stored_life_bare}
use Rattle.osb_statements.proofs.standing.next_row.Goals as goal

pub returns-clause-ok : goal.returns-clause-ok
returns-clause-ok g c clean change written was =
    let first = behind g.S.Store c.args.tx.now in
    let id = c.args.instance.now in
    bare_row_follows (life_of (bare_in first) id) change c.args.order.now c.in_ok-failed.failed _ c.in_ok-instance_row_after.field-0 (stored_life_bare first.now.trees id) written was (c.in_ok-failed.ensures.ok clean) c.in_ok-instance_row_after.ensures.row
