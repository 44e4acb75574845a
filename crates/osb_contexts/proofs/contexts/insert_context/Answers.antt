use Rattle.std.proofs.lemmas.Str.{is_utf8-from_IsUtf8}
use Rattle.sqlite_keyed.specs.Lists.{insert_sorted}
use Rattle.osb_joined.specs.Contexts.{context_cmp, context_entry}
use Rattle.osb_rows.specs.Rows.{HaveUtf8Texts}
use Rattle.osb_contexts.specs.Contexts.{context_row}
use Rattle.osb_contexts.specs.Reads.{behind}
use Rattle.osb_contexts.specs.Steps.{contexts, ContextSteps}
use Rattle.osb_contexts.proofs.Texts.{insert_context}
use Rattle.osb_contexts.proofs.ContextLemmas.{adds_context, steps_of}
use Rattle.osb_contexts.proofs.StepLemmas.{inside_by}
use Rattle.osb_contexts.proofs.contexts.insert_context.Goals as goal

pub returns-clause-ok : goal.returns-clause-ok
returns-clause-ok g c clean =
    let old = behind g.S.Store c.args.tx.now in
    let new = behind g.S.Store c.execute.new.tx in
    let entry = context_entry c.args.instance.now c.args.number c.args.context.now in
    let next = insert_sorted context_cmp entry (contexts old) in
    let texts : HaveUtf8Texts (context_row entry) = (is_utf8-from_IsUtf8 _ c.utf8.instance, (tt, (is_utf8-from_IsUtf8 _ c.utf8.context, tt))) in
    inside_by insert_context (context_row entry) old new c.execute.result _ c.execute.ensures.ended c.execute.ensures.inside.survives clean (ContextSteps old new next)
    (λ count before live within run. steps_of old new next within (adds_context old new count (c.requires.tables before live) entry.instance entry.number entry.context (c.requires.no_row before live) texts run))
    (rw (c.params-to_sql.ensures, c.params-to_sql-2.ensures, c.params-to_sql-3.ensures) at (c.execute.ensures.runs clean))
