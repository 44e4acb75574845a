-- The route that a request takes, or the fault that keeps it out: NoDoor, Auth, Version, NoRoute, in this order
-- (OSB API 2.17, "API Version Header" and "Authentication"; their order is this project's choice).
use Rattle.std.specs.Prelude.{List, Bool, true, false, not, Option, Result, Err, codes, if◌then◌else◌}
use Rattle.std.specs.List.{slice_get}
use Rattle.std.specs.Option.{option_map_or, option_and_then}
use Rattle.osb_text.specs.Names.{Bytes}
use Rattle.osb_frames.specs.Fields.{Line, values_of}
use Rattle.osb_frames.specs.Cuts.{Message}
use Rattle.osb_catalog.specs.Rules.{Rules}
use Rattle.osb_asks.specs.declared.door.Door.{Door}
use Rattle.osb_asks.specs.declared.door.Door.TheVariants.{Platform, Backend}
use Rattle.osb_asks.specs.declared.ask_fault.AskFault.{AskFault}
use Rattle.osb_asks.specs.declared.ask_fault.AskFault.TheVariants.{NoDoor, Auth, Version, NoRoute}
use Rattle.osb_asks.specs.Reads.{◌>>=◌, needed}
use Rattle.osb_asks.specs.Credentials.{is_some_login}
use Rattle.osb_asks.specs.Versions.{is_api_version}
use Rattle.osb_asks.specs.Doors.{Entrance, entry_of}
use Rattle.osb_asks.specs.Resources.{resource_at}
use Rattle.osb_asks.specs.Routes.{Routed, method_of, route_at}

-- the first value of that field passes the test
abbrev pub has_field : Bytes → (Bytes → Bool) → List Line → Bool
has_field name test lines = option_map_or test (slice_get (values_of name lines) 0) false

-- the request has a login of the door
abbrev pub is_let_in : Rules → Door → List Line → Bool
is_let_in rules Platform = has_field (codes "authorization") (is_some_login rules.platform_tokens)
is_let_in rules Backend = has_field (codes "authorization") (is_some_login rules.backend_tokens)

-- only the platform names a version
abbrev pub has_version : Door → List Line → Bool
has_version Platform = has_field (codes "x-broker-api-version") is_api_version
has_version Backend = λ lines. true

-- the route of that method and what it leads to behind the door
abbrev pub route_of : Bytes → Entrance → Option Routed
route_of name e = option_and_then (λ method. option_and_then (route_at method) (resource_at e.door e.behind)) (method_of name)

abbrev pub admit_at : Rules → Message → Entrance → Result Routed AskFault
admit_at rules q e =
    if not (is_let_in rules e.door q.lines) then Err Auth
    else if not (has_version e.door q.lines) then Err Version else needed NoRoute (route_of q.method e)

abbrev pub admit_of : Rules → Message → Result Routed AskFault
admit_of rules q = needed NoDoor (entry_of q.target) >>= admit_at rules q
