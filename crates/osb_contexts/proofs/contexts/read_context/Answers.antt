use Rattle.std.proofs.Common.{rules}
use Rattle.osb_contexts.specs.Reads.{behind}
use Rattle.osb_contexts.specs.Steps.{contexts}
use Rattle.osb_rows.proofs.ResultLemmas.{if_ok}
use Rattle.osb_contexts.proofs.ContextLemmas.{context_found}
use Rattle.osb_contexts.proofs.contexts.read_context.Goals as goal

pub returns-in-Some-clause-ok : goal.returns-in-Some-clause-ok
returns-in-Some-clause-ok g c clean =
    let found = c.in_ok-rows.ensures.ok clean in
    if_ok c.text_in.result (λ context reads. context_found c.args.instance.now c.args.number (contexts (behind g.S.Store c.args.tx.now)) c.in_ok-rows.rows.items c.in-Some.row.now context found.0 found.1 (search rules) reads)
    c.text_in.ensures.held
