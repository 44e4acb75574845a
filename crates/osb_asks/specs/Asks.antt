-- The ask of a request, or its first fault.
use Rattle.std.specs.Prelude.{Bool, true, false, Result, Ok, Err}
use Rattle.osb_text.specs.Names.{Bytes}
use Rattle.osb_frames.specs.Cuts.{Message}
use Rattle.osb_catalog.specs.Rules.{Rules}
use Rattle.osb_asks.specs.declared.ask_fault.AskFault.{AskFault}
use Rattle.osb_asks.specs.declared.ask_fault.AskFault.TheVariants as fault
use Rattle.osb_asks.specs.declared.ask.Ask.{Ask}
use Rattle.osb_asks.specs.declared.ask.Ask.TheVariants as ask
use Rattle.osb_asks.specs.Reads.{◌>>=◌}
use Rattle.osb_asks.specs.Targets.{query_of}
use Rattle.osb_asks.specs.Routes.{Routed}
use Rattle.osb_asks.specs.Routes as route
use Rattle.osb_asks.specs.Admission.{admit_of}
use Rattle.osb_asks.specs.Instances.{provision_of, fetch_of, update_of, deprovision_of, instance_op_of}
use Rattle.osb_asks.specs.Bindings.{bind_of, fetch_binding_of, unbind_of, binding_op_of}
use Rattle.osb_asks.specs.Backend.{orders_of, report_of}

-- what is asked by that route
abbrev pub ask_at : Rules → Bytes → Bytes → Routed → Result Ask AskFault
ask_at rules query body route.Catalog = Ok ask.Catalog
ask_at rules query body (route.Provision i) = provision_of rules i query body
ask_at rules query body (route.Fetch i) = fetch_of i
ask_at rules query body (route.Update i) = update_of rules i query body
ask_at rules query body (route.Deprovision i) = deprovision_of rules i query
ask_at rules query body (route.InstanceOp i) = instance_op_of i query
ask_at rules query body (route.Bind i b) = bind_of rules i b query body
ask_at rules query body (route.FetchBinding i b) = fetch_binding_of i b
ask_at rules query body (route.Unbind i b) = unbind_of rules i b query
ask_at rules query body (route.BindingOp i b) = binding_op_of i b query
ask_at rules query body route.Orders = orders_of query
ask_at rules query body (route.Report i n) = report_of i n body

-- the ask of a request, or its first fault: of its admission, then Id, Query, Body and NotInCatalog
abbrev pub ask_of : Rules → Message → Result Ask AskFault
ask_of rules q = admit_of rules q >>= ask_at rules (query_of q.target) q.body

-- ---- what is found before an id is read, for which no memory is taken: the faults up to NoRoute, and the catalog

abbrev pub is_catalog : Ask → Bool
is_catalog ask.Catalog = true
is_catalog _ = false

-- it asks for the catalog, or its admission finds a fault
abbrev pub is_early : Result Ask AskFault → Bool
is_early (Ok ask) = is_catalog ask
is_early (Err fault.NoDoor) = true
is_early (Err fault.Auth) = true
is_early (Err fault.Version) = true
is_early (Err fault.NoRoute) = true
is_early (Err _) = false
