use Rattle.osb_statements.proofs.BindingTexts.{select_binding_is}
use Rattle.osb_statements.proofs.BindingLemmas.{shows_binding}
use Rattle.osb_statements.proofs.bindings.select_binding.Goals as goal
use Rattle.osb_contexts.proofs.StepLemmas.{if_read}

pub select-requires-clause-plain : goal.select-requires-clause-plain
select-requires-clause-plain g c = select_binding_is.2

pub returns-clause-ok : goal.returns-clause-ok
returns-clause-ok g c clean =
    if_read c.select.ensures.reads clean (λ before live rows h. shows_binding _ _ (c.requires before live) c.args.instance.now c.args.binding.now rows.items h)
    (rw (c.params-to_sql.ensures, c.params-to_sql-2.ensures) at (c.select.ensures.ok clean))
