use Rattle.osb_tables.specs.Tables.{second_schema}
use Rattle.sqlite.specs.Values.{bound}
use Rattle.osb_contexts.specs.Reads.{behind}
use Rattle.osb_rows.proofs.QueryLemmas.{either_keeps}
use Rattle.osb_rows.proofs.ResultLemmas.{on_ok}
use Rattle.osb_statements.proofs.sql.select.Goals as goal
use Rattle.osb_contexts.proofs.StepLemmas.{clean_before, shown_same, shown_open}

pub returns-clause-reads : goal.returns-clause-reads
returns-clause-reads g c =
    let old = behind g.S.Store c.args.tx.now in
    let new = behind g.S.Store c.query_all.new.self in
    let sql = c.args.sql.now in
    let params = bound c.args.params.now in
    record {
      same_reference = c.query_all.ensures.same_reference;
      same = λ clean. on_ok c.query_all.result (λ rows h. shown_same sql params old new second_schema (c.requires.schema (clean_before old new _ c.query_all.ensures.survives clean) (shown_open sql params old new rows.items h)) c.requires.plain rows.items h) (c.query_all.ensures.ok clean);
      kept = λ clean inside. either_keeps _ _ _ _ (λ rows. rows.items) c.query_all.result inside (c.query_all.ensures.ok clean) (c.query_all.ensures.err clean);
      survives = c.query_all.ensures.survives;
    }
