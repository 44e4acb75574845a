use Rattle.std.proofs.Common.{◌∙◌}
use Rattle.osb_contexts.specs.Reads.{behind}
use Rattle.osb_statements.specs.Steps.{bare_in}
use Rattle.osb_statements.proofs.SubjectLemmas.{creation_last}
use Rattle.osb_statements.proofs.queries.last_creation.Goals as goal
use Rattle.osb_contexts.proofs.StepLemmas.{if_read}

pub returns-clause-ok : goal.returns-clause-ok
returns-clause-ok g c clean =
    if_read c.last_of_kind.ensures.reads clean (λ before live order is. is ∙ creation_last (bare_in (behind g.S.Store c.args.tx.now)) c.args.instance.now (c.requires before live).lives) (c.last_of_kind.ensures.ok clean)
