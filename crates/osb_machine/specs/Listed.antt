-- The listing of running orders for the backend that carries them out: a compact JSON text whose names are in byte order.
-- All of it is this project's own.
use Rattle.std.specs.Prelude.{not, ◌==◌, List, [], ◌∷◌, ◌++◌, map, length, codes, bytes_eq}
use Rattle.std.specs.Fmt.{decimal}
use Rattle.json.specs.Print.{quoted}
use Rattle.osb_text.specs.Names.{Id, Json}
use Rattle.osb_orders.specs.declared.order.Order.{Order}
use Rattle.osb_orders.specs.Orders.{is_about_binding, kind_text, empty_object}
use Rattle.osb_machine.specs.Texts.{with_commas, object_text, only, in_quotes}

-- one order of the instance with that id
abbrev pub listed : Id → Order → Json
listed id order =
    let has = order.attributes in
    let binds = is_about_binding order.kind in
    object_text (
    only binds "app_guid" (quoted has.place) ++ only binds "bind_resource" has.spot
    ++ only binds "binding_id" (quoted order.binding)
    ++ only (not (bytes_eq has.context empty_object)) "context" has.context
    ++ ("instance_id", quoted id) ∷ ("kind", in_quotes (kind_text order.kind))
    ∷ only (not (length has.maintenance == 0)) "maintenance_version" (quoted has.maintenance)
    ++ only (not binds) "organization_guid" (quoted has.place)
    ++ ("parameters", has.parameters) ∷ ("plan_id", quoted has.plan) ∷ ("seq", decimal order.number)
    ∷ ("service_id", quoted has.service) ∷ only (not binds) "space_guid" (quoted has.spot))

abbrev pub orders_body : List (Id × Order) → Json
orders_body listing =
    let orders = map (λ one. listed one.0 one.1) listing in
    object_text (("orders", codes "[" ++ with_commas [] orders (codes "]")) ∷ [])
