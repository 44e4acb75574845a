use Rattle.std.proofs.Common.{subst}
use Rattle.std.proofs.lemmas.Str.{is_utf8-from_IsUtf8}
use Rattle.osb_contexts.proofs.CellLemmas.{text_in_utf8}
use Rattle.sqlite.specs.Held.{state}
use Rattle.sqlite.specs.State.{ExecutesInside}
use Rattle.osb_audit.specs.Bindings.{binding_entry}
use Rattle.osb_statements.proofs.BindingLemmas.{binding_params}
use Rattle.osb_statements.proofs.bindings.execute_with.Goals as goal

pub returns-clause-runs : goal.returns-clause-runs
returns-clause-runs g c clean inside =
    let old = state g.S.Store c.args.tx.now.conn.now in
    let new = state g.S.Store c.execute.new.tx.conn.now in
    subst (λ row. ExecutesInside 0 c.args.sql.now row old new c.execute.result) (binding_params (binding_entry c.args.instance.now (c.args.binding.now, c.args.row.now)) c.phase_number.ensures c.as_str.ensures c.as_str-2.ensures c.as_str-3.ensures c.as_str-4.ensures c.as_str-5.ensures c.as_str-6.ensures)
    (rw (c.params-to_sql.ensures, c.params-to_sql-2.ensures, c.params-to_sql-3.ensures, c.params-to_sql-4.ensures, c.params-to_sql-5.ensures, c.params-to_sql-6.ensures, c.params-to_sql-7.ensures, c.params-to_sql-8.ensures, c.params-to_sql-9.ensures) at (c.execute.ensures.runs clean inside))

pub returns-clause-texts : goal.returns-clause-texts
returns-clause-texts g c = (
  is_utf8-from_IsUtf8 _ c.utf8.instance,
  (
    is_utf8-from_IsUtf8 _ c.utf8.binding,
    (
      tt,
      (
        text_in_utf8 _ _ c.as_str.ensures c.as_str.utf8,
        (
          text_in_utf8 _ _ c.as_str-2.ensures c.as_str-2.utf8,
          (
            text_in_utf8 _ _ c.as_str-3.ensures c.as_str-3.utf8,
            (
              text_in_utf8 _ _ c.as_str-4.ensures c.as_str-4.utf8,
              (
                text_in_utf8 _ _ c.as_str-5.ensures c.as_str-5.utf8,
                (text_in_utf8 _ _ c.as_str-6.ensures c.as_str-6.utf8, tt),
              ),
            ),
          ),
        ),
      ),
    ),
  ),
)
