-- The bodies of answers in the pieces in which the code writes them. For contracts inside the crate.
use Rattle.std.specs.Prelude.{Bool, true, ◌==◌, List, [], ◌∷◌, ◌++◌, length, codes, bytes_eq, if◌then◌else◌}
use Rattle.std.specs.Fmt.{decimal}
use Rattle.json.specs.Print.{quoted}
use Rattle.osb_text.specs.Names.{Bytes, Id, Json}
use Rattle.osb_orders.specs.declared.order.Outcome.{Outcome}
use Rattle.osb_orders.specs.declared.order.Order.{Order}
use Rattle.osb_orders.specs.Orders.{is_about_binding, kind_text, empty_object, state_text}

-- pieces of a text, one after the other
abbrev pub joined : List Bytes → Bytes
joined [] = []
joined (piece ∷ []) = piece
joined (piece ∷ next ∷ pieces) = piece ++ joined (next ∷ pieces)

-- the state of an order
abbrev pub state_pieces : Outcome → Json
state_pieces outcome =
    if length outcome.description == 0
    then joined (codes "{\"state\":\"" ∷ state_text outcome.state ∷ codes "\"}" ∷ [])
    else joined (codes "{\"description\":" ∷ quoted outcome.description ∷ codes ",\"state\":\""
    ∷ state_text outcome.state ∷ codes "\"}" ∷ [])

-- the maintenance version, where it isn't empty
abbrev pub maintenance_member : Bytes → Bytes
maintenance_member version =
    if length version == 0 then []
    else joined (codes ",\"maintenance_version\":" ∷ quoted version ∷ [])

-- the context, where it has members
abbrev pub context_member : Bytes → Bytes
context_member context =
    if bytes_eq context empty_object then []
    else joined (codes "\"context\":" ∷ context ∷ codes "," ∷ [])

-- the members from `context` to `maintenance_version`
abbrev pub first_members : Id → Order → Json
first_members id order = joined (
    context_member order.attributes.context ∷ codes "\"instance_id\":" ∷ quoted id
    ∷ codes ",\"kind\":\"" ∷ kind_text order.kind ∷ codes "\""
    ∷ maintenance_member order.attributes.maintenance ∷ [])

-- the members from `parameters` to `service_id`
abbrev pub last_members : Order → Bytes
last_members order = joined (
    codes ",\"parameters\":" ∷ order.attributes.parameters ∷ codes ",\"plan_id\":"
    ∷ quoted order.attributes.plan
    ∷ codes ",\"seq\":" ∷ decimal order.number ∷ codes ",\"service_id\":"
    ∷ quoted order.attributes.service ∷ [])

abbrev pub spliced_of_binding : Id → Order → Json
spliced_of_binding id order = joined (
    codes "{\"app_guid\":" ∷ quoted order.attributes.place ∷ codes ",\"bind_resource\":"
    ∷ order.attributes.spot
    ∷ codes ",\"binding_id\":" ∷ quoted order.binding ∷ codes "," ∷ first_members id order
    ∷ last_members order ∷ codes "}" ∷ [])

abbrev pub spliced_of_instance : Id → Order → Json
spliced_of_instance id order = joined (
    codes "{" ∷ first_members id order ∷ codes ",\"organization_guid\":"
    ∷ quoted order.attributes.place
    ∷ last_members order ∷ codes ",\"space_guid\":" ∷ quoted order.attributes.spot ∷ codes "}" ∷ [])

-- one order of the instance with that id
abbrev pub spliced : Id → Order → Json
spliced id order =
    if is_about_binding order.kind then spliced_of_binding id order
    else spliced_of_instance id order

-- with a comma before it, where it isn't the first
abbrev pub spliced_after : Bool → Id → Order → Json
spliced_after later id order =
    if later then joined (codes "," ∷ spliced id order ∷ []) else spliced id order

-- orders with commas between, and what closes the listing
abbrev pub spliced_from : Bool → List (Id × Order) → Bytes
spliced_from later [] = codes "]}"
spliced_from later (one ∷ more) = spliced_after later one.0 one.1 ++ spliced_from true more
