use Rattle.std.proofs.Common.{subst}
use Rattle.std.proofs.lemmas.Str.{is_utf8-from_IsUtf8}
use Rattle.sqlite.specs.Held.{state}
use Rattle.sqlite.specs.State.{ExecutesInside}
use Rattle.osb_statements.proofs.InstanceLemmas.{row_params}
use Rattle.osb_statements.proofs.instances.execute_with.Goals as goal

pub returns-clause-runs : goal.returns-clause-runs
returns-clause-runs g c clean inside =
    let old = state g.S.Store c.args.tx.now.conn.now in
    let new = state g.S.Store c.execute.new.tx.conn.now in
    let shows = c.columns_of-columns.ensures.shown in
    subst (λ row. ExecutesInside 0 c.args.sql.now row old new c.execute.result) (row_params (c.args.instance.now, c.args.row.now) shows.phase c.busy_number.ensures shows.service shows.plan shows.organization shows.space shows.parameters shows.maintenance)
    (rw (c.params-to_sql.ensures, c.params-to_sql-2.ensures, c.params-to_sql-3.ensures, c.params-to_sql-4.ensures, c.params-to_sql-5.ensures, c.params-to_sql-6.ensures, c.params-to_sql-7.ensures, c.params-to_sql-8.ensures, c.params-to_sql-9.ensures, c.params-to_sql-10.ensures) at (c.execute.ensures.runs clean inside))

pub returns-clause-texts : goal.returns-clause-texts
returns-clause-texts g c = (is_utf8-from_IsUtf8 _ c.utf8.instance, (tt, (tt, (tt, c.columns_of-columns.ensures.texts))))
