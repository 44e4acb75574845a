use Rattle.std.proofs.Common.{◌∙◌}
use Rattle.osb_statements.proofs.OrderTexts.{select_last_is}
use Rattle.osb_statements.proofs.OrderLemmas.{shows_last}
use Rattle.osb_statements.proofs.orders.select_last.Goals as goal
use Rattle.osb_contexts.proofs.StepLemmas.{if_read}

pub select-requires-clause-plain : goal.select-requires-clause-plain
select-requires-clause-plain g c = select_last_is.2

pub returns-clause-ok : goal.returns-clause-ok
returns-clause-ok g c clean =
    if_read c.select.ensures.reads clean (λ before live rows h. shows_last _ _ (c.requires before live) c.args.instance.now c.args.binding.now c.args.kind rows.items h)
    (rw (c.params-to_sql.ensures, c.params-to_sql-2.ensures, c.params-to_sql-3.ensures, c.from.ensures ∙ c.number.ensures) at (c.select.ensures.ok clean))
