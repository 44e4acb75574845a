use Rattle.std.proofs.Common.{rules, ◌∙◌, ◌-◌, ◌&&◌}
use Rattle.std.proofs.lemmas.List.{take_rest}
use Rattle.osb_orders.specs.declared.order.OrderKind.TheVariants.{Bind}
use Rattle.osb_orders.specs.Orders.{is_a, is_of_binding}
use Rattle.osb_orders.proofs.LastLemmas.{from_last-at}
use Rattle.osb_orders.proofs.plain.bindings.since_last_bind.Goals as goal

pub returns-then-is_bind_of : goal.returns-then-is_bind_of
returns-then-is_bind_of c =
    take_rest c.args.life.now (c.loop-place.place - 1)
    ∙ from_last-at (λ order. is_a Bind order && is_of_binding c.args.id.now order) c.args.life.now (c.loop-place.place - 1) c.index-life-place.result (search rules) (search rules) (search rules)
