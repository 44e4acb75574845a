use Rattle.std.proofs.Common.{[], ◌∷◌}
use Rattle.sqlite.specs.Held.{state}
use Rattle.osb_tables.specs.Tables.{instances_schema, tables_schema}
use Rattle.osb_statements.proofs.Texts.{create_bindings}
use Rattle.osb_statements.proofs.CreateLemmas.{makes_bindings}
use Rattle.osb_statements.proofs.StepLemmas.{makes_by}
use Rattle.osb_statements.proofs.bindings.create_bindings.Goals as goal

pub returns-clause-ok : goal.returns-clause-ok
returns-clause-ok g c clean =
    let old = state g.S.Store c.args.tx.now.conn.now in
    let new = state g.S.Store c.execute.new.tx.conn.now in
    makes_by create_bindings [] old new c.execute.result _ c.execute.ensures.ended c.execute.ensures.inside.survives clean
    instances_schema tables_schema (3 ∷ 1 ∷ 0 ∷ []) (5 ∷ 3 ∷ 1 ∷ 0 ∷ []) c.requires (makes_bindings old new) (c.execute.ensures.runs clean)
