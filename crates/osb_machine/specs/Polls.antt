-- The state of an operation (OSB API 2.17, "Polling Last Operation for Service Instances" and "for Service Bindings";
-- that an operation which isn't one of the resource's is refused is this project's own).
use Rattle.std.specs.Prelude.{◌&&◌, Option, None, Some, if◌then◌else◌}
use Rattle.osb_text.specs.Names.{Bytes}
use Rattle.osb_replies.specs.declared.status.Status.TheVariants as status
use Rattle.osb_replies.specs.declared.fixed_error.FixedError.TheVariants.{Operation}
use Rattle.osb_orders.specs.declared.order.OrderKind.{OrderKind}
use Rattle.osb_orders.specs.declared.order.OrderState.TheVariants.{Succeeded}
use Rattle.osb_orders.specs.declared.order.Order.{Order}
use Rattle.osb_orders.specs.Orders.{is_a, is_now}
use Rattle.osb_machine.specs.Decision.{Decision, says, refuses, not_found, gone}
use Rattle.osb_machine.specs.Texts.{state_body}

-- a removal that succeeded is answered 410
abbrev pub polled : OrderKind → Order → Decision
polled removal order = if is_a removal order && is_now Succeeded order then gone else says status.Ok (state_body order.outcome)

-- by the operation that is asked for, the order that it names, and the last of the orders that the poll is about
abbrev pub poll : OrderKind → Option Bytes → Option Order → Option Order → Decision
poll removal operation named None = not_found
poll removal None named (Some last) = polled removal last
poll removal (Some operation) None (Some last) = refuses Operation
poll removal (Some operation) (Some order) (Some last) = polled removal order
