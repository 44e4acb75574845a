use Rattle.std.proofs.Common.{sym, ◌∙◌, None}
use Rattle.sqlite.specs.Held.{state}
use Rattle.osb_statements.specs.Steps.{content}
use Rattle.osb_statements.proofs.EditLemmas.{edit_without, unchanged_itself, follows_by}
use Rattle.osb_bare.specs.Bare.{bare_order}
use Rattle.osb_bare.proofs.LifeLemmas.{edit_of-bare}
use Rattle.osb_statements.proofs.standing.write_bindings.Goals as goal
use Rattle.osb_contexts.proofs.StepLemmas.{clean_before}

pub returns-clause-ok : goal.returns-clause-ok
returns-clause-ok g c clean live inside sound =
    let old = state g.S.Store c.args.tx.now.conn.now in
    let new = state g.S.Store c.apply_edit-applied.new.tx.conn.now in
    let id = c.args.instance.now in
    let order = bare_order c.args.order.now in
    let edit = c.in_ok-edit.edit in
    let before = clean_before old new _ c.apply_edit-applied.ensures.inside.survives clean in
    let steps = rw (c.as_str.ensures) at (c.in_ok-applied.ensures.ok clean live inside sound) in
    follows_by old old new id order edit (unchanged_itself old live) steps (c.requires before live) (edit_without id order edit (content old).bindings (sym c.is_about_binding.ensures ∙ c.if-is_about_binding.false) (c.in_ok-edit.ensures.edit ∙ sym (edit_of-bare c.args.order.now None)))
