use Rattle.std.proofs.Common.{refl}
use Rattle.sqlite.specs.Held.{state}
use Rattle.sqlite_keyed.specs.Lists.{insert_sorted}
use Rattle.osb_audit.specs.Bindings.{binding_entry, binding_cmp}
use Rattle.osb_statements.specs.Bindings.{binding_row}
use Rattle.osb_statements.specs.Stored.{entries_in, instances_in, bindings_in}
use Rattle.osb_statements.specs.Steps.{bare_in}
use Rattle.osb_statements.proofs.BindingTexts.{insert_binding}
use Rattle.osb_statements.proofs.StepLemmas.{steps_by}
use Rattle.osb_statements.proofs.BindingLemmas.{adds_binding}
use Rattle.osb_statements.proofs.BareLemmas.{stored_bare, instances_bare}
use Rattle.osb_statements.proofs.bindings.insert_binding.Goals as goal

pub returns-clause-ok : goal.returns-clause-ok
returns-clause-ok g c clean =
    let old = state g.S.Store c.args.tx.now.conn.now in
    let new = state g.S.Store c.execute_with.new.tx.conn.now in
    let id = c.args.instance.now in
    let binding = c.args.binding.now in
    let row = c.args.row.now in
    steps_by insert_binding (binding_row (binding_entry id (binding, row))) old new c.execute_with.result _ c.execute_with.ensures.ended c.execute_with.ensures.inside.survives clean
    (bare_in old) (entries_in old.now.trees) (instances_in old.now.trees) (insert_sorted binding_cmp (binding_entry id (binding, row)) (bindings_in old.now.trees)) (stored_bare old.now.trees) (instances_bare old.now.trees) (λ before live. (c.requires.tables before live).schema)
    (λ count before live has h. (adds_binding old new count (c.requires.tables before live) id binding row (c.requires.no_row before live) c.execute_with.ensures.texts h, refl))
    (c.execute_with.ensures.runs clean)
