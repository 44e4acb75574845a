-- What one order says (OSB API 2.17, "Polling Last Operation"; names and numbers are this project's own).
use Rattle.std.specs.Prelude.{ℕ, Bool, true, false, not, ◌&&◌, ◌==◌, ◌++◌, bytes_eq, codes}
use Rattle.std.specs.Fmt.{decimal}
use Rattle.osb_text.specs.Names.{Bytes, Id, Json}
use Rattle.osb_orders.specs.declared.order.OrderKind.{OrderKind}
use Rattle.osb_orders.specs.declared.order.OrderKind.TheVariants.{Create, Update, Delete, Bind, Unbind}
use Rattle.osb_orders.specs.declared.order.OrderState.{OrderState}
use Rattle.osb_orders.specs.declared.order.OrderState.TheVariants.{Running, Succeeded, Failed}
use Rattle.osb_orders.specs.declared.order.Order.{Order}

-- an object without members: the context of what has none, and the body of an answer that has nothing to say
abbrev pub empty_object : Json
empty_object = codes "{}"

-- the number by which a kind is stored, and its word
abbrev pub kind_row : OrderKind → ℕ × Bytes
kind_row Create = (1, codes "create")
kind_row Update = (2, codes "update")
kind_row Delete = (3, codes "delete")
kind_row Bind = (4, codes "bind")
kind_row Unbind = (5, codes "unbind")

abbrev pub kind_number : OrderKind → ℕ
kind_number kind = (kind_row kind).0

abbrev pub kind_text : OrderKind → Bytes
kind_text kind = (kind_row kind).1

-- the number by which a state is stored
abbrev pub state_number : OrderState → ℕ
state_number Running = 0
state_number Succeeded = 1
state_number Failed = 2

abbrev pub is_a : OrderKind → Order → Bool
is_a kind order = kind_number order.kind == kind_number kind

abbrev pub is_now : OrderState → Order → Bool
is_now state order = state_number order.outcome.state == state_number state

abbrev pub has_succeeded : OrderKind → Order → Bool
has_succeeded kind order = is_a kind order && is_now Succeeded order

abbrev pub is_about_binding : OrderKind → Bool
is_about_binding Bind = true
is_about_binding Unbind = true
is_about_binding _ = false

-- a Create, an Update or a Delete
abbrev pub is_of_instance : Order → Bool
is_of_instance order = not (is_about_binding order.kind)

abbrev pub is_of_binding : Id → Order → Bool
is_of_binding id order = is_about_binding order.kind && bytes_eq order.binding id

-- the states of the last operation, in the words of the API
abbrev pub state_text : OrderState → Bytes
state_text Running = codes "in progress"
state_text Succeeded = codes "succeeded"
state_text Failed = codes "failed"

-- the name of an order, which is the API's `operation`: its kind, a dash and its number
abbrev pub name_of : Order → Bytes
name_of order = kind_text order.kind ++ codes "-" ++ decimal order.number
