-- The routes of the broker, a table of methods and places (OSB API 2.17, the route of each section; Orders and Report
-- are this project's own).
use Rattle.std.specs.Prelude.{ℕ, List, Option, Some, None, codes, bytes_eq, if◌then◌else◌}
use Rattle.osb_asks.specs.declared.route.Method.{Method}
use Rattle.osb_asks.specs.declared.route.Method.TheVariants.{Get, Put, Patch, Delete}
use Rattle.osb_asks.specs.Resources.{Named, catalog, orders, instance, instance_operation, binding, binding_operation, order}

-- a route, with the segments of its ids as they are in the path
pub data Routed : Type 0 where
  Catalog Orders : Routed
  Provision Fetch Update Deprovision InstanceOp : List ℕ → Routed
  Bind FetchBinding Unbind BindingOp Report : List ℕ → List ℕ → Routed

-- the case of a method matters (RFC 9110, section 9.1)
abbrev pub method_of : List ℕ → Option Method
method_of name =
    if bytes_eq name (codes "GET") then Some Get
    else if bytes_eq name (codes "PUT") then Some Put
    else if bytes_eq name (codes "PATCH") then Some Patch
    else if bytes_eq name (codes "DELETE") then Some Delete else None

abbrev pub route_at : Method → Named → Option Routed
route_at Get catalog = Some Catalog
route_at Put (instance i) = Some (Provision i)
route_at Get (instance i) = Some (Fetch i)
route_at Patch (instance i) = Some (Update i)
route_at Delete (instance i) = Some (Deprovision i)
route_at Get (instance_operation i) = Some (InstanceOp i)
route_at Put (binding i b) = Some (Bind i b)
route_at Get (binding i b) = Some (FetchBinding i b)
route_at Delete (binding i b) = Some (Unbind i b)
route_at Get (binding_operation i b) = Some (BindingOp i b)
route_at Get orders = Some Orders
route_at Put (order i n) = Some (Report i n)
route_at _ _ = None
