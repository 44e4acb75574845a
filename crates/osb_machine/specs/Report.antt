-- The backend's report of an order, which ends the order once. All of it is this project's own.
use Rattle.std.specs.Prelude.{Bool, ◌&&◌, ◌==◌, bytes_eq, Option, None, Some, if◌then◌else◌}
use Rattle.osb_text.specs.Names.{Json}
use Rattle.osb_asks.specs.declared.ask.Report.{Report}
use Rattle.osb_asks.specs.declared.ask.ReportState.{ReportState}
use Rattle.osb_asks.specs.declared.ask.ReportState.TheVariants as said
use Rattle.osb_orders.specs.declared.order.OrderKind.TheVariants.{Bind}
use Rattle.osb_orders.specs.declared.order.OrderState.{OrderState}
use Rattle.osb_orders.specs.declared.order.OrderState.TheVariants.{Running, Succeeded, Failed}
use Rattle.osb_orders.specs.declared.order.Outcome.{Outcome}
use Rattle.osb_orders.specs.declared.order.Order.{Order}
use Rattle.osb_orders.specs.declared.order.Change.TheVariants.{Finish}
use Rattle.osb_orders.specs.Orders.{state_number, is_a, is_now, empty_object}
use Rattle.osb_machine.specs.Decision.{Decision, done, not_found, conflict}

abbrev pub reported_state : ReportState → OrderState
reported_state said.Succeeded = Succeeded
reported_state said.Failed = Failed

-- they count only for a Bind that succeeded
abbrev pub kept_credentials : ReportState → Report → Order → Json
kept_credentials said.Succeeded ask order = if is_a Bind order then ask.credentials else empty_object
kept_credentials said.Failed ask order = empty_object

abbrev pub kept_outcome : Report → Order → Outcome
kept_outcome ask order = record { state = reported_state ask.state; description = ask.description; credentials = kept_credentials ask.state ask order }

abbrev pub is_outcome : Outcome → Outcome → Bool
is_outcome one other =
    state_number one.state == state_number other.state && bytes_eq one.description other.description
    && bytes_eq one.credentials other.credentials

-- An order that runs ends; one that ended so is done; one that ended in another way stays.
abbrev pub reported_on : Order → Outcome → Decision
reported_on order outcome =
    if is_now Running order then record done { change = Finish order.number outcome }
    else if is_outcome order.outcome outcome then done
    else conflict

abbrev pub report : Report → Option Order → Decision
report ask None = not_found
report ask (Some order) = reported_on order (kept_outcome ask order)
