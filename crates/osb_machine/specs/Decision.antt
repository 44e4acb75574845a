-- What an ask is answered, and what it does to the life of the instance that it names.
use Rattle.osb_text.specs.Names.{Json}
use Rattle.osb_replies.specs.declared.status.Status.{Status}
use Rattle.osb_replies.specs.declared.status.Status.TheVariants as status
use Rattle.osb_replies.specs.declared.fixed_error.FixedError.{FixedError}
use Rattle.osb_replies.specs.FixedError.{fixed_status, fixed_body}
use Rattle.osb_orders.specs.declared.order.Change.{Change}
use Rattle.osb_orders.specs.declared.order.Change.TheVariants.{Nothing}
use Rattle.osb_orders.specs.Orders.{empty_object}

pub record Decision : Type 0 where
  pub status : Status
  pub body : Json
  pub change : Change

-- an answer that changes nothing
abbrev pub says : Status → Json → Decision
says status body = record { status = status; body = body; change = Nothing }

-- an error with its description, and its code where the standard has one (OSB API 2.17, "Service Broker Errors")
abbrev pub refuses : FixedError → Decision
refuses error = says (fixed_status error) (fixed_body error)

-- all is as it was asked to be
abbrev pub done : Decision
done = says status.Ok empty_object

abbrev pub not_found : Decision
not_found = says status.NotFound empty_object

-- it is there already, with other attributes
abbrev pub conflict : Decision
conflict = says status.Conflict empty_object

-- it isn't there, or no longer
abbrev pub gone : Decision
gone = says status.Gone empty_object
