use Rattle.std.proofs.Common.{[], ◌∷◌}
use Rattle.sqlite.specs.Held.{state}
use Rattle.osb_tables.specs.Tables.{orders_schema, instances_schema}
use Rattle.osb_statements.proofs.Texts.{create_instances}
use Rattle.osb_statements.proofs.CreateLemmas.{makes_instances}
use Rattle.osb_statements.proofs.StepLemmas.{makes_by}
use Rattle.osb_statements.proofs.instances.create_instances.Goals as goal

pub returns-clause-ok : goal.returns-clause-ok
returns-clause-ok g c clean =
    let old = state g.S.Store c.args.tx.now.conn.now in
    let new = state g.S.Store c.execute.new.tx.conn.now in
    makes_by create_instances [] old new c.execute.result _ c.execute.ensures.ended c.execute.ensures.inside.survives clean
    orders_schema instances_schema (1 ∷ 0 ∷ []) (3 ∷ 1 ∷ 0 ∷ []) c.requires (makes_instances old new) (c.execute.ensures.runs clean)
