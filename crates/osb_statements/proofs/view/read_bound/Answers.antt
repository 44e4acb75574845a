use Rattle.std.proofs.Common.{◌∙◌}
use Rattle.osb_orders.specs.Lives.{life_of}
use Rattle.osb_contexts.specs.Reads.{behind}
use Rattle.osb_statements.specs.Steps.{content, bare_in}
use Rattle.osb_statements.proofs.ViewLemmas.{bound_is}
use Rattle.osb_statements.proofs.view.read_bound.Goals as goal
use Rattle.osb_contexts.proofs.StepLemmas.{if_read}

pub returns-clause-ok : goal.returns-clause-ok
returns-clause-ok g c clean =
    let old = behind g.S.Store c.args.tx.now in
    let id = c.args.instance.now in
    if_read c.is_bound.ensures.reads clean (λ before live bound is. is ∙ bound_is id (life_of (bare_in old) id) (content old).bindings ((c.requires before live).standing.bindings id))
    (c.is_bound.ensures.ok clean)
