use Rattle.std.proofs.Common.{pos, [], ◌∷◌}
use Rattle.std.proofs.lemmas.Str.{is_utf8-from_IsUtf8}
use Rattle.sqlite.specs.declared.types.Value.TheVariants.{Int, Text}
use Rattle.sqlite_keyed.specs.Lists.{update_where}
use Rattle.osb_joined.specs.Contexts.{is_context, with_context}
use Rattle.osb_contexts.specs.Reads.{behind}
use Rattle.osb_contexts.specs.Steps.{contexts, ContextSteps}
use Rattle.osb_contexts.proofs.Texts.{update_context}
use Rattle.osb_contexts.proofs.ContextLemmas.{updates_context, steps_of}
use Rattle.osb_contexts.proofs.StepLemmas.{inside_by}
use Rattle.osb_contexts.proofs.contexts.update_context.Goals as goal

pub returns-clause-ok : goal.returns-clause-ok
returns-clause-ok g c clean =
    let old = behind g.S.Store c.args.tx.now in
    let new = behind g.S.Store c.execute.new.tx in
    let id = c.args.instance.now in
    let number = c.args.number in
    let context = c.args.context.now in
    let next = update_where (is_context id number) (with_context context) (contexts old) in
    inside_by update_context (Text context ∷ Text id ∷ Int (pos number) ∷ []) old new c.execute.result _ c.execute.ensures.ended c.execute.ensures.inside.survives clean (ContextSteps old new next)
    (λ count before live within run. steps_of old new next within (updates_context old new count (c.requires before live) id number context (is_utf8-from_IsUtf8 _ c.utf8.context) run))
    (rw (c.params-to_sql.ensures, c.params-to_sql-2.ensures, c.params-to_sql-3.ensures) at (c.execute.ensures.runs clean))
