-- Entries, places and routes without where their segments lie in memory. For contracts inside the crate.
use Rattle.std.specs.Prelude.{◌≡◌, Result, Ok, Err}
use Rattle.osb_asks.specs.declared.ask_fault.AskFault.{AskFault}
use Rattle.osb_asks.specs.declared.door.DoorAndPath.{DoorAndPath}
use Rattle.osb_asks.specs.declared.resource.Resource.{Resource}
use Rattle.osb_asks.specs.declared.resource.Resource.TheVariants as place
use Rattle.osb_asks.specs.declared.route.Route.{Route}
use Rattle.osb_asks.specs.declared.route.Route.TheVariants as route
use Rattle.osb_asks.specs.SegmentsLeft.{left}
use Rattle.osb_asks.specs.Doors.{Entrance}
use Rattle.osb_asks.specs.Resources as named
use Rattle.osb_asks.specs.Routes as routed

abbrev pub seen_path : DoorAndPath → Entrance
seen_path e = record { door = e.door; behind = left e.segments }

abbrev pub seen_resource : Resource → named.Named
seen_resource place.Catalog = named.catalog
seen_resource (place.Instance i) = named.instance i.now
seen_resource (place.InstanceOperation i) = named.instance_operation i.now
seen_resource (place.Binding i b) = named.binding i.now b.now
seen_resource (place.BindingOperation i b) = named.binding_operation i.now b.now
seen_resource place.Orders = named.orders
seen_resource (place.Order i n) = named.order i.now n.now

abbrev pub seen_route : Route → routed.Routed
seen_route route.Catalog = routed.Catalog
seen_route (route.Provision i) = routed.Provision i.now
seen_route (route.Fetch i) = routed.Fetch i.now
seen_route (route.Update i) = routed.Update i.now
seen_route (route.Deprovision i) = routed.Deprovision i.now
seen_route (route.InstanceOp i) = routed.InstanceOp i.now
seen_route (route.Bind i b) = routed.Bind i.now b.now
seen_route (route.FetchBinding i b) = routed.FetchBinding i.now b.now
seen_route (route.Unbind i b) = routed.Unbind i.now b.now
seen_route (route.BindingOp i b) = routed.BindingOp i.now b.now
seen_route route.Orders = routed.Orders
seen_route (route.Report i n) = routed.Report i.now n.now

-- what was returned, seen by view, is what is found
abbrev pub Admits : {X Y : Type 0} → (X → Y) → Result X AskFault → Result Y AskFault → Type 0
Admits view (Ok x) found = found ≡ Ok (view x)
Admits view (Err fault) found = found ≡ Err fault
