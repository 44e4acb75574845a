use Rattle.std.proofs.Common.{rules, ◌≡◌, sym, ap, ◌∙◌}
use Rattle.osb_contexts.specs.Reads.{behind}
use Rattle.osb_orders.specs.declared.order.Outcome.{Outcome}
use Rattle.osb_orders.specs.declared.order.Change.TheVariants.{Finish}
use Rattle.osb_standing.specs.Written.{order_written}
use Rattle.osb_statements.specs.Steps.{bare_in}
use Rattle.osb_statements.proofs.CommitLemmas.{last_found}
use Rattle.osb_statements.proofs.writing.ended_order.Goals as goal
use Rattle.osb_contexts.proofs.StepLemmas.{clean_before}

pub returns-in-Some-clause-ok : goal.returns-in-Some-clause-ok
returns-in-Some-clause-ok g c clean may =
    let first = behind g.S.Store c.args.tx.now in
    let new = behind g.S.Store c.order_numbered.new.tx in
    let number = c.args.number in
    let lives = (c.requires (clean_before first new _ c.order_numbered.ensures.reads.survives clean) (c.in_ok-last.ensures.reads.same clean).0.was_open).lives in
    let last = c.in_ok-last.ensures.ok clean ∙ last_found (bare_in first) c.args.instance.now number lives may.last in
    let outcome : c.in_ok-clone.field-0 ≡ c.args.outcome.now = search rules in
    sym (ap (λ found. order_written found (Finish number c.args.outcome.now)) last) ∙ sym (ap (λ (o : Outcome). order_written c.in_ok-last.last (Finish number o)) outcome) ∙ sym c.order_written.ensures ∙ c.in-Some.is
