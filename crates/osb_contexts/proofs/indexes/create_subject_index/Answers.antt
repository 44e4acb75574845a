use Rattle.std.proofs.Common.{[], refl}
use Rattle.osb_tables.specs.Tables.{orders_table, subject_index, five_tables, second_listed, second_schema}
use Rattle.osb_contexts.specs.Reads.{behind}
use Rattle.osb_contexts.proofs.Texts.{create_subject_index, create_subject_index_is}
use Rattle.osb_contexts.proofs.SchemaLemmas.{makes_index}
use Rattle.osb_contexts.proofs.StepLemmas.{reshapes_by}
use Rattle.osb_contexts.proofs.indexes.create_subject_index.Goals as goal

pub returns-clause-ok : goal.returns-clause-ok
returns-clause-ok g c clean =
    let old = behind g.S.Store c.args.tx.now in
    let new = behind g.S.Store c.execute.new.tx in
    reshapes_by create_subject_index [] old new c.execute.result _ c.execute.ensures.ended c.execute.ensures.inside.survives clean
    second_listed second_schema (five_tables).tables c.requires (makes_index create_subject_index second_listed 1 orders_table subject_index create_subject_index_is refl old new) (c.execute.ensures.runs clean)
