use Rattle.std.proofs.Common.{option_copied, sym, ap, ◌∙◌}
use Rattle.osb_orders.specs.Lives.{life_of}
use Rattle.osb_orders.specs.Named.{order_numbered}
use Rattle.osb_standing.specs.Laws.{count_in}
use Rattle.osb_contexts.specs.Reads.{behind}
use Rattle.osb_statements.specs.Steps.{bare_in}
use Rattle.osb_statements.proofs.NoRowLemmas.{no_last}
use Rattle.osb_statements.proofs.ViewLemmas.{last_is}
use Rattle.osb_statements.proofs.view.read_last.Goals as goal
use Rattle.osb_contexts.proofs.StepLemmas.{if_read}

pub returns-in-Some-clause-ok : goal.returns-in-Some-clause-ok
returns-in-Some-clause-ok g c clean =
    let lives = bare_in (behind g.S.Store c.args.tx.now) in
    let id = c.args.instance.now in
    if_read c.order_numbered.ensures.reads clean (λ before live order is row.
    is ∙ ap (λ n. order_numbered n (life_of lives id)) (sym (ap (λ r. count_in (option_copied r)) c.in-Some.is)) ∙ last_is lives id (c.requires before live).lives (option_copied c.args.row) row)
    (c.order_numbered.ensures.ok clean)

pub returns-in-None-clause-ok : goal.returns-in-None-clause-ok
returns-in-None-clause-ok g c clean row =
    sym (no_last (life_of (bare_in (behind g.S.Store c.args.tx.now)) c.args.instance.now) (sym row ∙ ap option_copied c.in-None.is))
