use Rattle.osb_statements.proofs.Texts.{select_next_is}
use Rattle.osb_statements.proofs.NextLemmas.{shows_next}
use Rattle.osb_statements.proofs.instances.select_next.Goals as goal
use Rattle.osb_contexts.proofs.StepLemmas.{if_read}

pub select-requires-clause-plain : goal.select-requires-clause-plain
select-requires-clause-plain g c = select_next_is.2

pub returns-clause-ok : goal.returns-clause-ok
returns-clause-ok g c clean =
    if_read c.select.ensures.reads clean (λ before live rows h. shows_next _ _ (c.requires before live) c.args.after.now rows.items h)
    (rw (c.params-to_sql.ensures) at (c.select.ensures.ok clean))
