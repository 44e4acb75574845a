use Rattle.std.proofs.Common.{[], refl}
use Rattle.osb_tables.specs.Tables.{tables_schema}
use Rattle.osb_tables.specs.Inside.{record_schema, listed_schema, subject_at}
use Rattle.osb_contexts.specs.Reads.{behind}
use Rattle.osb_contexts.proofs.Texts.{drop_subject, drop_subject_is}
use Rattle.osb_contexts.proofs.SchemaLemmas.{drops_index}
use Rattle.osb_contexts.proofs.StepLemmas.{reshapes_by}
use Rattle.osb_contexts.proofs.indexes.drop_subject_index.Goals as goal

pub returns-clause-ok : goal.returns-clause-ok
returns-clause-ok g c clean =
    let old = behind g.S.Store c.args.tx.now in
    let new = behind g.S.Store c.execute.new.tx in
    reshapes_by drop_subject [] old new c.execute.result _ c.execute.ensures.ended c.execute.ensures.inside.survives clean
    record_schema listed_schema (tables_schema).tables c.requires (drops_index drop_subject record_schema 4 (subject_at 8) drop_subject_is refl old new) (c.execute.ensures.runs clean)
