use Rattle.std.proofs.Common.{pos, IsTrue, refl, ap, subst, ◌∙◌}
use Rattle.std.proofs.lemmas.Str.{is_utf8-from_IsUtf8}
use Rattle.osb_contexts.proofs.CellLemmas.{text_in_utf8}
use Rattle.sqlite.specs.declared.types.Value.TheVariants.{Int, Text}
use Rattle.sqlite.specs.Held.{state}
use Rattle.sqlite.specs.State.{ExecutesInside}
use Rattle.sqlite_keyed.specs.Lists.{insert_sorted}
use Rattle.osb_orders.specs.declared.order.Change.TheVariants.{Append}
use Rattle.osb_orders.specs.Changed.{lives_changed}
use Rattle.osb_audit.specs.Orders.{entry_cmp}
use Rattle.osb_rows.specs.Rows.{HaveUtf8Texts}
use Rattle.osb_statements.specs.Stored.{entry_row, entries_in, instances_in, bindings_in}
use Rattle.osb_statements.specs.Steps.{bare_in}
use Rattle.osb_statements.proofs.Texts.{insert_order}
use Rattle.osb_statements.proofs.StepLemmas.{steps_by}
use Rattle.osb_statements.proofs.WriteLemmas.{appends, entry_params}
use Rattle.osb_statements.proofs.BareLemmas.{all_inserted, stored_bare, instances_bare}
use Rattle.osb_bare.specs.Bare.{bare_order}
use Rattle.osb_statements.proofs.orders.insert_order.Goals as goal

pub returns-clause-ok : goal.returns-clause-ok
returns-clause-ok g c clean =
    let old = state g.S.Store c.args.tx.now.conn.now in
    let new = state g.S.Store c.execute.new.tx.conn.now in
    let id = c.args.instance.now in
    let given = c.args.order.now in
    let order = bare_order given in
    let texts : HaveUtf8Texts (entry_row (id, order)) = (
      is_utf8-from_IsUtf8 _ c.utf8.instance,
      (
        tt,
        (
          tt,
          (
            text_in_utf8 _ _ c.as_str.ensures c.as_str.utf8,
            (
              text_in_utf8 _ _ c.as_str-2.ensures c.as_str-2.utf8,
              (
                text_in_utf8 _ _ c.as_str-3.ensures c.as_str-3.utf8,
                (
                  text_in_utf8 _ _ c.as_str-4.ensures c.as_str-4.utf8,
                  (
                    text_in_utf8 _ _ c.as_str-5.ensures c.as_str-5.utf8,
                    (
                      text_in_utf8 _ _ c.as_str-6.ensures c.as_str-6.utf8,
                      (
                        text_in_utf8 _ _ c.as_str-7.ensures c.as_str-7.utf8,
                        (
                          tt,
                          (
                            text_in_utf8 _ _ c.as_str-8.ensures c.as_str-8.utf8,
                            (text_in_utf8 _ _ c.as_str-9.ensures c.as_str-9.utf8, tt),
                          ),
                        ),
                      ),
                    ),
                  ),
                ),
              ),
            ),
          ),
        ),
      ),
    ) in
    steps_by insert_order (entry_row (id, order)) old new c.execute.result _ c.execute.ensures.ended c.execute.ensures.inside.survives clean
    (lives_changed (Append order) id (bare_in old)) (insert_sorted entry_cmp (id, order) (entries_in old.now.trees)) (instances_in old.now.trees) (bindings_in old.now.trees) (all_inserted _ entry_cmp (id, order) (entries_in old.now.trees) refl (stored_bare old.now.trees)) (instances_bare old.now.trees) (λ before live. (c.requires.tables before live).schema)
    (λ count before live has h. appends old new count (c.requires.tables before live) id order (c.requires.whole before live) texts h)
    (subst (λ row. IsTrue old.in_transaction → ExecutesInside 0 insert_order row old new c.execute.result) (entry_params (id, given) refl refl (ap (λ n. Int (pos n)) (c.from.ensures ∙ c.number.ensures)) (ap Text c.as_str.ensures) (ap Text c.as_str-2.ensures) (ap Text c.as_str-3.ensures) (ap Text c.as_str-4.ensures) (ap Text c.as_str-5.ensures) (ap Text c.as_str-6.ensures) (ap Text c.as_str-7.ensures) (ap (λ n. Int (pos n)) (c.from-2.ensures ∙ c.number-2.ensures)) (ap Text c.as_str-8.ensures) (ap Text c.as_str-9.ensures))
    (rw (c.params-to_sql.ensures, c.params-to_sql-2.ensures, c.params-to_sql-3.ensures, c.params-to_sql-4.ensures, c.params-to_sql-5.ensures, c.params-to_sql-6.ensures, c.params-to_sql-7.ensures, c.params-to_sql-8.ensures, c.params-to_sql-9.ensures, c.params-to_sql-10.ensures, c.params-to_sql-11.ensures, c.params-to_sql-12.ensures, c.params-to_sql-13.ensures) at (c.execute.ensures.runs clean)))
