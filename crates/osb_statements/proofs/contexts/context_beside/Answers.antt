use Rattle.std.proofs.Common.{sym}
use Rattle.osb_contexts.specs.Reads.{behind}
use Rattle.osb_contexts.specs.Steps.{contexts}
use Rattle.osb_joined.proofs.JoinLemmas.{context_found}
use Rattle.osb_statements.proofs.contexts.context_beside.Goals as goal

pub returns-in_ok-read_context-in_default-clause-ok : goal.returns-in_ok-read_context-in_default-clause-ok
returns-in_ok-read_context-in_default-clause-ok g c clean live known =
    sym (context_found (contexts (behind g.S.Store c.args.tx.now)) c.args.instance.now c.args.number c.in_ok-read_context-in_default.field-0 (c.in_ok-read_context-in_default.ensures.ok clean))
