-- How an order is opened, which answers say that an order goes on, and when another has to wait (OSB API 2.17,
-- "Asynchronous Operations" and "Blocking Operations"; the limit of orders is this project's own).
use Rattle.std.specs.Prelude.{ℕ, ◌+◌, Bool, false, not, ◌&&◌, nat_le, [], bytes_eq, Option, None, Some, if◌then◌else◌}
use Rattle.std.specs.Option.{option_map_or}
use Rattle.osb_text.specs.Names.{Bytes, Id, Json}
use Rattle.osb_catalog.specs.Rules.{Rules}
use Rattle.osb_replies.specs.declared.status.Status.{Status}
use Rattle.osb_replies.specs.declared.status.Status.TheVariants as status
use Rattle.osb_replies.specs.declared.fixed_error.FixedError.TheVariants.{AsyncRequired, Full}
use Rattle.osb_orders.specs.declared.order.OrderKind.{OrderKind}
use Rattle.osb_orders.specs.declared.order.OrderState.TheVariants.{Running, Succeeded}
use Rattle.osb_orders.specs.declared.order.Attributes.{Attributes}
use Rattle.osb_orders.specs.declared.order.Outcome.{Outcome}
use Rattle.osb_orders.specs.declared.order.Order.{Order}
use Rattle.osb_orders.specs.declared.order.Change.TheVariants.{Append}
use Rattle.osb_orders.specs.Orders.{is_now, empty_object}
use Rattle.osb_orders.specs.ViewData.{ViewData}
use Rattle.osb_machine.specs.Decision.{Decision, says, refuses, not_found}
use Rattle.osb_machine.specs.Texts.{operation_body}

-- What an order is opened with: whether its plan's mode is asynchronous and whether the request accepts that, what the
-- order is, and what it ends with and is answered where it is carried out at once.
pub record Opening : Type 0 where
  pub asynchronous : Bool
  pub accepts_incomplete : Bool
  pub kind : OrderKind
  pub binding : Id
  pub attributes : Attributes
  pub credentials : Json
  pub status : Status
  pub body : Json

-- that of an order about an instance, which hands out nothing
abbrev pub instance_opening : Bool → Bool → OrderKind → Attributes → Status → Opening
instance_opening asynchronous accepts_incomplete kind attributes status = record {
  asynchronous = asynchronous;
  accepts_incomplete = accepts_incomplete;
  kind = kind;
  binding = [];
  attributes = attributes;
  credentials = empty_object;
  status = status;
  body = empty_object;
}

abbrev pub running : Outcome
running = record { state = Running; description = []; credentials = empty_object }

abbrev pub succeeded_with : Json → Outcome
succeeded_with credentials = record { state = Succeeded; description = []; credentials = credentials }

-- the order of that number
abbrev pub numbered : ℕ → Opening → Outcome → Order
numbered number opening outcome = record { number = number; kind = opening.kind; binding = opening.binding; attributes = opening.attributes; outcome = outcome }

abbrev pub appends : Status → Json → Order → Decision
appends status body order = record { status = status; body = body; change = Append order }

-- 202 of the new order
abbrev pub begins : Order → Decision
begins order = appends status.Accepted (operation_body order) order

-- 'Open': an asynchronous mode has to be accepted; the life must have room; then the order runs, or is carried out at once.
abbrev pub opened : Rules → ViewData → Opening → Decision
opened rules facts opening =
    if opening.asynchronous && not opening.accepts_incomplete then refuses AsyncRequired
    else if nat_le rules.order_limit facts.count then refuses Full
    else if opening.asynchronous then begins (numbered (facts.count + 1) opening running)
    else appends opening.status opening.body (numbered (facts.count + 1) opening (succeeded_with opening.credentials))

-- '202 of it': the order that runs, where the request accepts that
abbrev pub accepted : Bool → Option Order → Decision
accepted accepts_incomplete None = not_found
accepted accepts_incomplete (Some order) =
    if accepts_incomplete then says status.Accepted (operation_body order) else refuses AsyncRequired

-- 'Busy': the last order runs
abbrev pub is_busy : ViewData → Bool
is_busy facts = option_map_or (is_now Running) facts.last false

-- a maintenance version is given, and isn't that of the catalog (OSB API 2.17, "Maintenance Info")
abbrev pub is_unlike : Option Bytes → Bytes → Bool
is_unlike given version = option_map_or (λ given. not (bytes_eq given version)) given false
