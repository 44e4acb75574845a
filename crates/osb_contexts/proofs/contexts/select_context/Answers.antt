use Rattle.osb_contexts.proofs.Texts.{select_context_is}
use Rattle.osb_contexts.proofs.ContextLemmas.{shows_context}
use Rattle.osb_contexts.proofs.StepLemmas.{if_read}
use Rattle.osb_contexts.proofs.contexts.select_context.Goals as goal

pub select-requires-clause-plain : goal.select-requires-clause-plain
select-requires-clause-plain g c = select_context_is.2

pub returns-clause-ok : goal.returns-clause-ok
returns-clause-ok g c clean =
    if_read c.select.ensures.reads clean (λ before live rows h. shows_context _ _ (c.requires before live) c.args.instance.now c.args.number rows.items h)
    (rw (c.params-to_sql.ensures, c.params-to_sql-2.ensures) at (c.select.ensures.ok clean))
