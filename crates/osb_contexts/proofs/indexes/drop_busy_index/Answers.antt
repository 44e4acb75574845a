use Rattle.std.proofs.Common.{[], refl}
use Rattle.osb_tables.specs.Tables.{tables_schema}
use Rattle.osb_tables.specs.Inside.{listed_schema, busy_at}
use Rattle.osb_contexts.specs.Reads.{behind}
use Rattle.osb_contexts.proofs.Texts.{drop_busy, drop_busy_is}
use Rattle.osb_contexts.proofs.SchemaLemmas.{drops_index}
use Rattle.osb_contexts.proofs.StepLemmas.{reshapes_by}
use Rattle.osb_contexts.proofs.indexes.drop_busy_index.Goals as goal

pub returns-clause-ok : goal.returns-clause-ok
returns-clause-ok g c clean =
    let old = behind g.S.Store c.args.tx.now in
    let new = behind g.S.Store c.execute.new.tx in
    reshapes_by drop_busy [] old new c.execute.result _ c.execute.ensures.ended c.execute.ensures.inside.survives clean
    listed_schema tables_schema (tables_schema).tables c.requires (drops_index drop_busy listed_schema 3 (busy_at 7) drop_busy_is refl old new) (c.execute.ensures.runs clean)
