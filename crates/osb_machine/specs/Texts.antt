-- The bodies of answers that have values in them: compact JSON texts whose names are in byte order.
use Prim.Native.String.{String}
use Rattle.std.specs.Prelude.{Bool, not, ◌==◌, List, [], ◌∷◌, ◌++◌, map, length, codes, if◌then◌else◌}
use Rattle.json.specs.Print.{quoted}
use Rattle.osb_text.specs.Names.{Bytes, Json}
use Rattle.osb_orders.specs.declared.order.Outcome.{Outcome}
use Rattle.osb_orders.specs.declared.order.Order.{Order}
use Rattle.osb_orders.specs.declared.order.Attributes.{Attributes}
use Rattle.osb_orders.specs.declared.view.BindingNow.{BindingNow}
use Rattle.osb_orders.specs.Orders.{name_of, state_text}

-- texts with commas between, and the end of the list: mark comes before the first
abbrev pub with_commas : Bytes → List Json → Bytes → Bytes
with_commas mark [] end = end
with_commas mark (text ∷ later) end = mark ++ text ++ with_commas (codes ",") later end

-- the object with these members: the name and the text of the value of each
abbrev pub object_text : List (String × Json) → Json
object_text members =
    let text = λ (member : String × Json). codes "\"" ++ codes member.0 ++ codes "\":" ++ member.1 in
    codes "{" ++ with_commas [] (map text members) (codes "}")

-- a member that is there only if the test holds
abbrev pub only : Bool → String → Json → List (String × Json)
only test name text = if test then (name, text) ∷ [] else []

-- a string without escapes
abbrev pub in_quotes : Bytes → Json
in_quotes text = codes "\"" ++ text ++ codes "\""

-- the operation that goes on (OSB API 2.17, "Asynchronous Operations")
abbrev pub operation_body : Order → Json
operation_body order = object_text (("operation", in_quotes (name_of order)) ∷ [])

-- an instance (OSB API 2.17, "Fetching a Service Instance")
abbrev pub instance_body : Attributes → Json
instance_body instance = object_text (
    ("parameters", instance.parameters) ∷ ("plan_id", quoted instance.plan)
    ∷ ("service_id", quoted instance.service) ∷ [])

-- what a binding hands out (OSB API 2.17, "Binding")
abbrev pub credentials_body : Json → Json
credentials_body credentials = object_text (("credentials", credentials) ∷ [])

-- a binding (OSB API 2.17, "Fetching a Service Binding")
abbrev pub binding_body : BindingNow → Json
binding_body binding = object_text (
    ("credentials", binding.credentials) ∷ ("parameters", binding.attributes.parameters) ∷ [])

-- the state of an order, with its description where that isn't empty (OSB API 2.17, "Polling Last Operation")
abbrev pub state_body : Outcome → Json
state_body outcome = object_text (
    only (not (length outcome.description == 0)) "description" (quoted outcome.description)
    ++ ("state", in_quotes (state_text outcome.state)) ∷ [])
