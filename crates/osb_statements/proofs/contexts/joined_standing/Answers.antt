use Rattle.std.proofs.Common.{ap, sym, ◌∙◌, Some}
use Rattle.osb_orders.specs.declared.order.Attributes.{Attributes}
use Rattle.std.specs.Prelude.{option_map}
use Rattle.osb_contexts.specs.Reads.{behind}
use Rattle.osb_contexts.specs.Steps.{contexts}
use Rattle.osb_joined.specs.Joined.{attributes_with, joined_standing}
use Rattle.osb_joined.proofs.JoinLemmas.{context_found}
use Rattle.osb_statements.proofs.contexts.joined_standing.Goals as goal

pub returns-clause-ok : goal.returns-clause-ok
returns-clause-ok g c clean live =
    let entries = contexts (behind g.S.Store c.args.tx.now) in
    let standing = c.in-Some.standing in
    let found = c.attributes_with.ensures ∙ ap (λ context. attributes_with context standing.attributes) (sym (context_found entries c.args.instance.now 0 c.in_ok-context.context (c.in_ok-context.ensures.ok clean))) in
    ap (λ (attributes : Attributes). Some (record { phase = standing.phase; attributes = attributes })) found
    ∙ ap (option_map (joined_standing entries c.args.instance.now)) (sym c.in-Some.is)
