-- The fields of a settings file, and what an object holds under each. A null counts as absent.
use Rattle.std.specs.Prelude.{ℕ, List, [], codes, Bool, false, Option, option_and_then, unwrap_or}
use Rattle.std.specs.Option.{option_map_or}
use Rattle.serde_json.specs.Data.{Data, null, Items, no_items, Members, no_members}
use Rattle.serde_json.specs.Find.{as_str, as_bool, as_array, as_object}
use Rattle.osb_text.specs.Member.{member_of}
use Rattle.osb_catalog.specs.declared.field.Field.{Field}
use Rattle.osb_catalog.specs.declared.field.Field.TheVariants as the

abbrev pub field_name : Field → List ℕ
field_name the.Platform = codes "platform"
field_name the.Backend = codes "backend"
field_name the.Catalog = codes "catalog"
field_name the.Modes = codes "modes"
field_name the.OrdersPerInstance = codes "orders_per_instance"
field_name the.User = codes "user"
field_name the.Password = codes "password"
field_name the.Also = codes "also"
field_name the.Services = codes "services"
field_name the.Id = codes "id"
field_name the.Name = codes "name"
field_name the.Description = codes "description"
field_name the.Bindable = codes "bindable"
field_name the.Plans = codes "plans"
field_name the.Tags = codes "tags"
field_name the.Metadata = codes "metadata"
field_name the.InstancesRetrievable = codes "instances_retrievable"
field_name the.BindingsRetrievable = codes "bindings_retrievable"
field_name the.PlanUpdateable = codes "plan_updateable"
field_name the.AllowContextUpdates = codes "allow_context_updates"
field_name the.Free = codes "free"
field_name the.MaximumPollingDuration = codes "maximum_polling_duration"
field_name the.MaintenanceInfo = codes "maintenance_info"
field_name the.Version = codes "version"
field_name the.Instances = codes "instances"
field_name the.Bindings = codes "bindings"
field_name the.Credentials = codes "credentials"
field_name the.BindingRotatable = codes "binding_rotatable"
field_name the.DashboardClient = codes "dashboard_client"
field_name the.Requires = codes "requires"
field_name the.Schemas = codes "schemas"

-- what the object holds under the field
abbrev pub value_at : Field → Data → Option Data
value_at field v = member_of (field_name field) v

-- the text under the field, empty where there is none
abbrev pub text_at : Field → Data → List ℕ
text_at field v = unwrap_or (option_and_then as_str (value_at field v)) []

-- the flag under the field, false where there is none
abbrev pub flag_at : Field → Data → Bool
flag_at field v = unwrap_or (option_and_then as_bool (value_at field v)) false

-- the items of the list under the field, none where there is no list
abbrev pub items_at : Field → Data → Items
items_at field v = unwrap_or (option_and_then as_array (value_at field v)) no_items

abbrev pub services_of : Data → Items
services_of file = option_map_or (items_at the.Services) (value_at the.Catalog file) no_items

abbrev pub plans_of : Data → Items
plans_of service = items_at the.Plans service

-- the modes of a file, by the ids of their plans
abbrev pub modes_of : Data → Members
modes_of file = unwrap_or (option_and_then as_object (value_at the.Modes file)) no_members

-- the mode of the plan with that id, null where the file has none
abbrev pub mode_of_plan : Data → List ℕ → Data
mode_of_plan file id = unwrap_or (option_and_then (member_of id) (value_at the.Modes file)) null
