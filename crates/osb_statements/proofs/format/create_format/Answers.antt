use Rattle.std.proofs.Common.{[], ◌∷◌}
use Rattle.sqlite.specs.Held.{state}
use Rattle.osb_tables.specs.Tables.{no_schema, format_schema}
use Rattle.osb_statements.proofs.Texts.{create_format}
use Rattle.osb_statements.proofs.CreateLemmas.{makes_format}
use Rattle.osb_statements.proofs.StepLemmas.{makes_by}
use Rattle.osb_statements.proofs.format.create_format.Goals as goal

pub returns-clause-ok : goal.returns-clause-ok
returns-clause-ok g c clean =
    let old = state g.S.Store c.args.tx.now.conn.now in
    let new = state g.S.Store c.execute.new.tx.conn.now in
    makes_by create_format [] old new c.execute.result _ c.execute.ensures.ended c.execute.ensures.inside.survives clean
    no_schema format_schema ([]) (0 ∷ []) (λ before live. (c.requires before live, tt)) (makes_format old new) (c.execute.ensures.runs clean)
