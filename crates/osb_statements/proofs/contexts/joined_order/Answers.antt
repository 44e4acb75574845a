use Rattle.std.proofs.Common.{ap, sym, ◌∙◌}
use Rattle.osb_contexts.specs.Reads.{behind}
use Rattle.osb_contexts.specs.Steps.{contexts}
use Rattle.osb_joined.specs.Joined.{order_with}
use Rattle.osb_joined.proofs.JoinLemmas.{context_found}
use Rattle.osb_statements.proofs.contexts.joined_order.Goals as goal

pub returns-clause-ok : goal.returns-clause-ok
returns-clause-ok g c clean =
    let order = c.args.order in
    c.order_with.ensures ∙ ap (λ context. order_with context order) (sym (context_found (contexts (behind g.S.Store c.args.tx.now)) c.args.instance.now order.number c.in_ok-context.context (c.in_ok-context.ensures.ok clean)))
