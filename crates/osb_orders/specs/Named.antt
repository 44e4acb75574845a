-- The order that an ask names, and the orders that a poll is about.
use Rattle.std.specs.Prelude.{ℕ, ◌==◌, [], filter, bytes_eq, Option, None, option_and_then}
use Rattle.std.specs.List.{find}
use Rattle.osb_text.specs.Names.{Bytes}
use Rattle.osb_asks.specs.declared.ask.Ask.{Ask}
use Rattle.osb_asks.specs.declared.ask.Ask.TheVariants.{InstanceOp, BindingOp, Report}
use Rattle.osb_orders.specs.declared.order.Order.{Order}
use Rattle.osb_orders.specs.Orders.{is_of_instance, is_of_binding, name_of}
use Rattle.osb_orders.specs.Life.{Life}

-- The orders that a poll is about: the Creates, Updates and Deletes of the instance, or the Binds and Unbinds of the
-- binding, from the first order of the life on (OSB API 2.17, "Polling Last Operation").
abbrev pub subject : Ask → Life → Life
subject (InstanceOp ask) life = filter is_of_instance life
subject (BindingOp ask) life = filter (is_of_binding ask.binding) life
subject _ life = []

abbrev pub order_named : Bytes → Life → Option Order
order_named name orders = find (λ order. bytes_eq (name_of order) name) orders

abbrev pub order_numbered : ℕ → Life → Option Order
order_numbered number orders = find (λ order. order.number == number) orders

abbrev pub named_by : Option Bytes → Life → Option Order
named_by operation orders = option_and_then (λ name. order_named name orders) operation

-- a poll names an order of its subject, a report one of the life
abbrev pub named_in : Ask → Life → Option Order
named_in (InstanceOp ask) life = named_by ask.operation (subject (InstanceOp ask) life)
named_in (BindingOp ask) life = named_by ask.operation (subject (BindingOp ask) life)
named_in (Report ask) life = order_numbered ask.number life
named_in _ life = None
