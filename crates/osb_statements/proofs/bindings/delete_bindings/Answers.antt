use Rattle.std.proofs.Common.{refl, [], ◌∷◌}
use Rattle.sqlite.specs.Held.{state}
use Rattle.sqlite.specs.declared.types.Value.TheVariants.{Text}
use Rattle.sqlite_keyed.specs.Lists.{delete_where}
use Rattle.osb_audit.specs.Bindings.{is_bound}
use Rattle.osb_statements.specs.Stored.{entries_in, instances_in, bindings_in}
use Rattle.osb_statements.specs.Steps.{bare_in}
use Rattle.osb_statements.proofs.BindingTexts.{delete_bindings}
use Rattle.osb_statements.proofs.StepLemmas.{steps_by}
use Rattle.osb_statements.proofs.BindingLemmas.{drops_bindings}
use Rattle.osb_statements.proofs.BareLemmas.{stored_bare, instances_bare}
use Rattle.osb_statements.proofs.bindings.delete_bindings.Goals as goal

pub returns-clause-ok : goal.returns-clause-ok
returns-clause-ok g c clean =
    let old = state g.S.Store c.args.tx.now.conn.now in
    let new = state g.S.Store c.execute.new.tx.conn.now in
    let id = c.args.instance.now in
    steps_by delete_bindings (Text id ∷ []) old new c.execute.result _ c.execute.ensures.ended c.execute.ensures.inside.survives clean
    (bare_in old) (entries_in old.now.trees) (instances_in old.now.trees) (delete_where (is_bound id) (bindings_in old.now.trees)) (stored_bare old.now.trees) (instances_bare old.now.trees) (λ before live. (c.requires before live).schema)
    (λ count before live has h. (drops_bindings old new count (c.requires before live) id h, refl))
    (rw (c.params-to_sql.ensures) at (c.execute.ensures.runs clean))
