use Rattle.osb_orders.specs.Lives.{life_of}
use Rattle.osb_contexts.specs.Reads.{behind}
use Rattle.osb_statements.specs.Steps.{content, bare_in}
use Rattle.osb_statements.proofs.ViewLemmas.{row_is}
use Rattle.osb_statements.proofs.view.read_row.Goals as goal
use Rattle.osb_contexts.proofs.StepLemmas.{if_read}

pub returns-clause-ok : goal.returns-clause-ok
returns-clause-ok g c clean =
    let old = behind g.S.Store c.args.tx.now in
    let id = c.args.instance.now in
    if_read c.read_instance.ensures.reads clean (λ before live row is. row_is id (life_of (bare_in old) id) row (content old).instances is ((c.requires before live).standing.instances id))
    (c.read_instance.ensures.ok clean)
