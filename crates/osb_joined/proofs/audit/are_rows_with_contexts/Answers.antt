use Rattle.std.proofs.Common.{subst}
use Rattle.std.specs.Prelude.{Option, IfSome}
use Rattle.osb_joined.specs.declared.pass.Joined.{Joined}
use Rattle.osb_joined.specs.Join.{AreJoined}
use Rattle.osb_joined.proofs.AuditedLemmas.{answers_joined, answers_none, if_ok}
use Rattle.osb_joined.proofs.audit.are_rows_with_contexts.Goals as goal

pub returns-in-Some : goal.returns-in-Some
returns-in-Some c =
    let orders = c.args.orders.now in
    let instances = c.args.instances.now in
    let joined = c.in-Some.joined in
    let joins = subst (λ (found : Option Joined). IfSome found (λ joined. AreJoined c.args.contexts.now orders instances joined.orders.items joined.instances.items)) c.in-Some.is c.in_ok-joined.ensures.some in
    if_ok c.are_rows_of_lives.result (λ answer says none. answers_joined c.args.contexts.now orders instances c.args.bindings.now none joined.orders.items joined.instances.items joins answer says)
    (rw (c.deref.ensures.value, c.deref-in-Some.ensures.value) at c.are_rows_of_lives.ensures)

pub returns-in-None : goal.returns-in-None
returns-in-None c none = answers_none c.args.contexts.now c.args.orders.now c.args.instances.now c.args.bindings.now none (rw (c.in-None.is) at c.in_ok-joined.ensures.none)
