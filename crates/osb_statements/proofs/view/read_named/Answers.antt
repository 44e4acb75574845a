use Rattle.std.proofs.Common.{filter, sym, ap, ◌∙◌}
use Rattle.sqlite.specs.Held.{state}
use Rattle.osb_orders.specs.Lives.{life_of}
use Rattle.osb_orders.specs.Named.{named_by, named_in}
use Rattle.osb_orders.specs.Orders.{is_of_binding}
use Rattle.osb_statements.specs.Steps.{bare_in}
use Rattle.osb_rows.proofs.ResultLemmas.{if_ok}
use Rattle.osb_statements.proofs.view.read_named.Goals as goal

pub returns-in-BindingOp-clause-ok : goal.returns-in-BindingOp-clause-ok
returns-in-BindingOp-clause-ok g c clean live =
    let life = life_of (bare_in (state g.S.Store c.args.tx.now.conn.now)) c.args.instance.now in
    if_ok c.named_of_binding.result (λ order is. is ∙ (λ i. named_by (c.as_ref-in-BindingOp.ensures.value i) (filter (is_of_binding (c.as_str.ensures.value i)) life)) ∙ ap (λ asked. named_in asked life) (sym c.in-BindingOp.is)) (c.named_of_binding.ensures.ok clean live)
