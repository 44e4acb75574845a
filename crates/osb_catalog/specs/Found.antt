-- Where in a settings file a fault was found: the first object that has it. For those who mend the file.
use Rattle.std.specs.Prelude.{ℕ, List, [], ◌∷◌, ◌+◌, bytes_eq, Bool, false, not, ◌&&◌, Option, Some, None, Result, Ok, Err, if◌then◌else◌}
use Rattle.std.specs.Option.{option_or}
use Rattle.serde_json.specs.Data.{Data, Items, no_items, item, Members, no_members, member}
use Rattle.osb_text.specs.Reading.{object_of}
use Rattle.osb_text.specs.declared.fault.TextFault.{TextFault}
use Rattle.osb_catalog.specs.declared.fault.SettingsFault.{SettingsFault}
use Rattle.osb_catalog.specs.declared.fault.SettingsFault.TheVariants as a
use Rattle.osb_catalog.specs.declared.field.Field.{Field}
use Rattle.osb_catalog.specs.declared.field.Field.TheVariants as the
use Rattle.osb_catalog.specs.declared.found.Place.{Place}
use Rattle.osb_catalog.specs.declared.found.Place.TheVariants.{File, Catalog, Platform, Backend, Service, Plan, Mode}
use Rattle.osb_catalog.specs.declared.table.FieldRule.{FieldRule}
use Rattle.osb_catalog.specs.Fields.{field_name, text_at, flag_at, value_at, services_of, plans_of, modes_of}
use Rattle.osb_catalog.specs.Kinds.{is_some_and, is_null}
use Rattle.osb_catalog.specs.Tables.{first_broken, file_rules, catalog_rules, service_rules, plan_rules, mode_rules, service_left_out_rules, plan_left_out_rules}
use Rattle.osb_catalog.specs.Items.{first_of}
use Rattle.osb_catalog.specs.Ids.{is_among, ids_of, plan_ids}
use Rattle.osb_catalog.specs.Versions.{has_wrong_version}
use Rattle.osb_catalog.specs.Modes.{binds_later}
use Rattle.osb_catalog.specs.Logins.{refuses_login}

-- ---- which objects have a fault

-- the field is the first whose rule the object breaks
abbrev pub breaks_at : List FieldRule → Field → Data → Bool
breaks_at rules field v =
    is_some_and (λ found. bytes_eq (field_name found) (field_name field)) (first_broken rules v)

-- the id is twice among these
abbrev pub stands_twice : List (List ℕ) → List ℕ → Bool
stands_twice [] id = false
stands_twice (other ∷ ids) id = if bytes_eq id other then is_among id ids else stands_twice ids id

abbrev pub file_has : SettingsFault → Data → Bool
file_has (a.Missing field) file = breaks_at file_rules field file
file_has _ file = false

abbrev pub catalog_has : SettingsFault → Data → Bool
catalog_has (a.Missing field) catalog = breaks_at catalog_rules field catalog
catalog_has _ catalog = false

abbrev pub login_has : SettingsFault → Data → Bool
login_has a.Credential login = refuses_login login
login_has _ login = false

-- of the ids of all services
abbrev pub service_has : List (List ℕ) → SettingsFault → Data → Bool
service_has ids (a.Missing field) service = breaks_at service_rules field service
service_has ids a.DoubleId service = stands_twice ids (text_at the.Id service)
service_has ids (a.LeftOut field) service = breaks_at service_left_out_rules field service
service_has ids _ service = false

-- of the ids of all plans, and the service of the plan
abbrev pub plan_has : Data → List (List ℕ) → SettingsFault → Data → Data → Bool
plan_has file ids (a.Missing field) service plan = breaks_at plan_rules field plan
plan_has file ids a.DoubleId service plan = stands_twice ids (text_at the.Id plan)
plan_has file ids (a.LeftOut field) service plan = breaks_at plan_left_out_rules field plan
plan_has file ids a.Version service plan = has_wrong_version plan
plan_has file ids a.Mode service plan =
    not (flag_at the.BindingsRetrievable service) && binds_later file plan
plan_has file ids _ service plan = false

-- of the ids of all plans; a null counts as absent
abbrev pub mode_has : List (List ℕ) → SettingsFault → List ℕ → Data → Bool
mode_has ids (a.Missing field) name mode = breaks_at mode_rules field mode
mode_has ids a.Mode name mode = not (is_null mode) && not (is_among name ids)
mode_has ids _ name mode = false

-- ---- the first of them

abbrev pub placed : Place → Bool → Option Place
placed place found = if found then Some place else None

-- the first place that f has for an item; the items are counted from a number
abbrev pub first_place : (ℕ → Data → Option Place) → ℕ → Items → Option Place
first_place f at no_items = None
first_place f at (item d ds) = option_or (f at d) (first_place f (at + 1) ds)

-- the first place that f has for a member
abbrev pub first_named_place : (List ℕ → Data → Option Place) → Members → Option Place
first_named_place f no_members = None
first_named_place f (member name d ms) = option_or (f name d) (first_named_place f ms)

abbrev pub service_place : List (List ℕ) → SettingsFault → ℕ → Data → Option Place
service_place ids fault at service = placed (Service at) (service_has ids fault service)

abbrev pub plan_place : Data → List (List ℕ) → SettingsFault → ℕ → Data → ℕ → Data → Option Place
plan_place file ids fault number service at plan =
    placed (Plan number at) (plan_has file ids fault service plan)

-- that of the first plan of the service with this number
abbrev pub place_in_service : Data → List (List ℕ) → SettingsFault → ℕ → Data → Option Place
place_in_service file ids fault number service =
    first_place (plan_place file ids fault number service) 0 (plans_of service)

abbrev pub mode_place : List (List ℕ) → SettingsFault → List ℕ → Data → Option Place
mode_place ids fault name mode = placed (Mode name) (mode_has ids fault name mode)

-- of the objects that have a name of their own
abbrev pub first_named : SettingsFault → Data → Option Place
first_named fault file = first_of (
    placed File (file_has fault file) ∷
    placed Catalog (is_some_and (catalog_has fault) (value_at the.Catalog file)) ∷
    placed Platform (is_some_and (login_has fault) (value_at the.Platform file)) ∷
    placed Backend (is_some_and (login_has fault) (value_at the.Backend file)) ∷
    [])

abbrev pub first_of_services : SettingsFault → Data → Option Place
first_of_services fault file =
    first_place (service_place (ids_of (services_of file)) fault) 0 (services_of file)

-- of the plans of all services, which have these ids, and of the modes
abbrev pub first_planned : List (List ℕ) → SettingsFault → Data → Option Place
first_planned ids fault file =
    option_or (first_place (place_in_service file ids fault) 0 (services_of file))
    (first_named_place (mode_place ids fault) (modes_of file))

abbrev pub first_of_plans : SettingsFault → Data → Option Place
first_of_plans fault file = first_planned (plan_ids (services_of file)) fault file

abbrev pub id_position_in : SettingsFault → Data → Option Place
id_position_in fault file =
    option_or (first_named fault file)
    (option_or (first_of_services fault file)
    (first_of_plans fault file))

abbrev pub place_read : SettingsFault → Result Data TextFault → Option Place
place_read fault (Ok file) = id_position_in fault file
place_read fault (Err text) = None

-- where the fault is in the file of these bytes, if it is there at all
abbrev pub place_of : SettingsFault → List ℕ → Option Place
place_of fault bytes = place_read fault (object_of bytes)
