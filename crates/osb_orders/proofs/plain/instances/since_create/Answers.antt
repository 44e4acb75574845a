use Rattle.std.proofs.Common.{rules, ◌∙◌, ◌-◌}
use Rattle.std.proofs.lemmas.List.{take_rest}
use Rattle.osb_orders.specs.declared.order.OrderKind.TheVariants.{Create}
use Rattle.osb_orders.specs.Orders.{is_a}
use Rattle.osb_orders.proofs.LastLemmas.{from_last-at}
use Rattle.osb_orders.proofs.plain.instances.since_create.Goals as goal

pub returns-then-is_a : goal.returns-then-is_a
returns-then-is_a c =
    take_rest c.args.life.now (c.loop-place.place - 1)
    ∙ from_last-at (is_a Create) c.args.life.now (c.loop-place.place - 1) c.index-life-place.result (search rules) (search rules) (search rules)
