use Rattle.std.proofs.Common.{rules, sym, ap, subst, ◌∙◌}
use Rattle.sqlite.specs.Effect.{Database, IsDatabase}
use Rattle.sqlite.specs.Held.{state}
use Rattle.osb_statements.specs.BindingRows.{binding_found}
use Rattle.osb_statements.specs.Stored.{bindings_in}
use Rattle.osb_statements.specs.Steps.{HasTables, content}
use Rattle.osb_statements.proofs.EditLemmas.{found_row, follows_by}
use Rattle.sqlite.proofs.StateLemmas.{survives_then}
use Rattle.osb_bare.specs.Bare.{bare_order}
use Rattle.osb_statements.proofs.standing.write_binding.Goals as goal
use Rattle.osb_contexts.proofs.StepLemmas.{clean_before}

pub returns-clause-ok : goal.returns-clause-ok
returns-clause-ok g c clean live inside sound =
    let old = state g.S.Store c.args.tx.now.conn.now in
    let mid = state g.S.Store c.read_binding.new.tx.conn.now in
    let new = state g.S.Store c.apply_edit-applied.new.tx.conn.now in
    let id = c.args.instance.now in
    let order = bare_order c.args.order.now in
    let between = clean_before mid new _ c.apply_edit-applied.ensures.inside.survives clean in
    let same = c.in_ok-old.ensures.reads.same between in
    let now = sym same.0.now_is in
    let tables = subst HasTables now (c.requires (clean_before old mid _ c.read_binding.ensures.reads.survives between) live) in
    let steps = rw (c.as_str-binding.ensures) at (c.in_ok-applied.ensures.ok clean same.0.is_open (same.0.mode ∙ inside) (subst IsDatabase now sound)) in
    let row = (rw (c.as_str-binding.ensures) at (c.in_ok-old.ensures.ok between)) ∙ ap (λ (db : Database). binding_found id order.binding (bindings_in db.trees)) now in
    follows_by old mid new id order c.in_ok-had.edit same steps tables (λ life change w stands. c.in_ok-had.ensures.follows life change w (row ∙ found_row id order.binding life (content mid).bindings stands))

pub returns-clause-inside : goal.returns-clause-inside
returns-clause-inside g c = record {
  same_reference = search rules;
  kept = λ clean inside. search rules;
  survives = survives_then _ _ _ (λ _. ⊥) (λ _. ⊥) (λ _. ⊥) (λ _ _ h. h) (λ _ _ h. h) c.read_binding.ensures.reads.survives c.apply_edit-applied.ensures.inside.survives;
}
