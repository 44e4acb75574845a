use Rattle.std.proofs.Common.{◌∙◌}
use Rattle.osb_contexts.specs.Reads.{behind}
use Rattle.osb_rows.proofs.ResultLemmas.{if_ok}
use Rattle.osb_statements.proofs.ReadLemmas.{life_told}
use Rattle.osb_statements.proofs.reading.select_orders.Goals as goal

pub returns-clause-ok : goal.returns-clause-ok
returns-clause-ok g c clean =
    let rows = c.in_ok-rows.ensures.ok clean in
    if_ok c.orders_in.result (λ orders is. is ∙ life_told c.args.instance.now (behind g.S.Store c.args.tx.now).now.trees c.in_ok-rows.rows.items rows) (rw (c.deref.ensures.value) at c.orders_in.ensures)
