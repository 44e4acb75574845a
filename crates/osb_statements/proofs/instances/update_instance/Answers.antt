use Rattle.std.proofs.Common.{refl, IsTrue, subst}
use Rattle.sqlite.specs.Held.{state}
use Rattle.sqlite_keyed.specs.Lists.{update_where}
use Rattle.osb_audit.specs.Instances.{is_instance}
use Rattle.osb_rows.specs.Rows.{HaveUtf8Texts}
use Rattle.osb_statements.specs.Instances.{instance_row}
use Rattle.osb_statements.specs.Inside.{with_row}
use Rattle.osb_statements.specs.Stored.{entries_in, instances_in, bindings_in}
use Rattle.osb_statements.specs.Steps.{bare_in}
use Rattle.osb_statements.proofs.Texts.{update_instance}
use Rattle.osb_statements.proofs.StepLemmas.{steps_by}
use Rattle.osb_statements.proofs.InstanceLemmas.{updates_instance}
use Rattle.osb_statements.proofs.BareLemmas.{all_updated, bare_again, bare_shown, stored_bare, instances_bare}
use Rattle.osb_bare.specs.Bare.{bare_row}
use Rattle.sqlite.specs.State.{ExecutesInside}
use Rattle.osb_statements.proofs.instances.update_instance.Goals as goal

pub returns-clause-ok : goal.returns-clause-ok
returns-clause-ok g c clean =
    let old = state g.S.Store c.args.tx.now.conn.now in
    let new = state g.S.Store c.execute_with.new.tx.conn.now in
    let id = c.args.instance.now in
    let row = bare_row c.args.row.now in
    steps_by update_instance (instance_row (id, row)) old new c.execute_with.result _ c.execute_with.ensures.ended c.execute_with.ensures.inside.survives clean
    (bare_in old) (entries_in old.now.trees) (update_where (is_instance id) (with_row row) (instances_in old.now.trees)) (bindings_in old.now.trees) (stored_bare old.now.trees) (all_updated _ (is_instance id) (with_row row) (λ _ _. bare_again c.args.row.now) (instances_in old.now.trees) (instances_bare old.now.trees)) (λ before live. (c.requires before live).schema)
    (λ count before live has h. (updates_instance old new count (c.requires before live) id row (subst HaveUtf8Texts (bare_shown id c.args.row.now) c.execute_with.ensures.texts) h, refl))
    (subst (λ params. IsTrue old.in_transaction → ExecutesInside 0 update_instance params old new c.execute_with.result) (bare_shown id c.args.row.now) (c.execute_with.ensures.runs clean))
