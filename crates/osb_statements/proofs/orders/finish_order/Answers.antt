use Rattle.std.proofs.Common.{pos, [], ◌∷◌, ap}
use Rattle.osb_contexts.proofs.CellLemmas.{text_in_utf8}
use Rattle.sqlite.specs.declared.types.Value.TheVariants.{Int, Text}
use Rattle.sqlite.specs.Held.{state}
use Rattle.sqlite_keyed.specs.Lists.{update_where}
use Rattle.osb_orders.specs.declared.order.Change.TheVariants.{Finish}
use Rattle.osb_orders.specs.Orders.{state_number}
use Rattle.osb_orders.specs.Changed.{lives_changed, with_outcome}
use Rattle.osb_rows.specs.Rows.{HaveUtf8Texts}
use Rattle.osb_statements.specs.Stored.{entries_in, instances_in, bindings_in}
use Rattle.osb_statements.specs.Steps.{bare_in}
use Rattle.osb_statements.proofs.Texts.{finish_order}
use Rattle.osb_statements.proofs.TestLemmas.{is_keyed, entry_ended}
use Rattle.osb_statements.proofs.StepLemmas.{steps_by}
use Rattle.osb_statements.proofs.WriteLemmas.{finishes}
use Rattle.osb_statements.proofs.BareLemmas.{all_updated, stored_bare, instances_bare}
use Rattle.osb_statements.proofs.orders.finish_order.Goals as goal

pub returns-clause-ok : goal.returns-clause-ok
returns-clause-ok g c clean =
    let old = state g.S.Store c.args.tx.now.conn.now in
    let new = state g.S.Store c.execute.new.tx.conn.now in
    let id = c.args.instance.now in
    let outcome = c.args.outcome.now in
    let texts : HaveUtf8Texts (Text outcome.description ∷ Text outcome.credentials ∷ []) = (text_in_utf8 _ _ c.as_str.ensures c.as_str.utf8, (text_in_utf8 _ _ c.as_str-2.ensures c.as_str-2.utf8, tt)) in
    steps_by finish_order (Text id ∷ Int (pos c.args.number) ∷ Int (pos (state_number outcome.state)) ∷ Text outcome.description ∷ Text outcome.credentials ∷ []) old new c.execute.result _ c.execute.ensures.ended c.execute.ensures.inside.survives clean
    (lives_changed (Finish c.args.number outcome) id (bare_in old)) (update_where (is_keyed id c.args.number) (entry_ended outcome) (entries_in old.now.trees)) (instances_in old.now.trees) (bindings_in old.now.trees) (all_updated _ (is_keyed id c.args.number) (entry_ended outcome) (λ entry bare. ap (with_outcome outcome) bare) (entries_in old.now.trees) (stored_bare old.now.trees)) (instances_bare old.now.trees) (λ before live. (c.requires.tables before live).schema)
    (λ count before live has h. finishes old new count (c.requires.tables before live) id c.args.number outcome (c.requires.lives before live) (c.requires.last before live) texts h)
    (rw (c.params-to_sql.ensures, c.params-to_sql-2.ensures, c.params-to_sql-3.ensures, c.params-to_sql-4.ensures, c.params-to_sql-5.ensures, c.from.ensures, c.number.ensures, c.as_str.ensures, c.as_str-2.ensures) at (c.execute.ensures.runs clean))
