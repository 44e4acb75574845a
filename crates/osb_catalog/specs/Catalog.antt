-- The catalog that a platform is shown (OSB API 2.17, "Catalog Management"): of each object the listed fields that the file
-- gives, and no others.
use Rattle.std.specs.Prelude.{ℕ, List, [], ◌∷◌, Option, Some, None, unwrap_or}
use Rattle.serde_json.specs.Data.{Data, null, array, object, Items, no_items, item, Members, no_members, member}
use Rattle.serde_json.specs.Find.{as_array}
use Rattle.serde_json.specs.Written.{compact_text}
use Rattle.osb_catalog.specs.declared.field.Field.{Field}
use Rattle.osb_catalog.specs.declared.field.Field.TheVariants as the
use Rattle.osb_catalog.specs.Fields.{field_name, value_at}

-- the member, its value as `show` makes it, before the others, where it is there
abbrev pub with_member : Field → (Data → Data) → Option Data → Members → Members
with_member field show None others = others
with_member field show (Some d) others = member (field_name field) (show d) others

-- each field, with how its value is shown
abbrev pub shown_members : List (Field × (Data → Data)) → Data → Members
shown_members [] v = no_members
shown_members (f ∷ fs) v = with_member f.0 f.1 (value_at f.0 v) (shown_members fs v)

abbrev pub shown : List (Field × (Data → Data)) → Data → Data
shown fields v = object (shown_members fields v)

abbrev pub each_item : (Data → Data) → Items → Items
each_item f no_items = no_items
each_item f (item d ds) = item (f d) (each_item f ds)

-- a list of objects, each by those fields
abbrev pub shown_list : List (Field × (Data → Data)) → Data → Data
shown_list fields list = array (each_item (shown fields) (unwrap_or (as_array list) no_items))

abbrev pub whole : Data → Data
whole d = d

-- the fields are in the order of their names' bytes
abbrev pub shown_in_maintenance_info : List (Field × (Data → Data))
shown_in_maintenance_info =
    (the.Description, whole) ∷
    (the.Version, whole) ∷
    []

abbrev pub shown_in_plan : List (Field × (Data → Data))
shown_in_plan =
    (the.Bindable, whole) ∷
    (the.Description, whole) ∷
    (the.Free, whole) ∷
    (the.Id, whole) ∷
    (the.MaintenanceInfo, shown shown_in_maintenance_info) ∷
    (the.MaximumPollingDuration, whole) ∷
    (the.Metadata, whole) ∷
    (the.Name, whole) ∷
    (the.PlanUpdateable, whole) ∷
    []

abbrev pub shown_in_service : List (Field × (Data → Data))
shown_in_service =
    (the.AllowContextUpdates, whole) ∷
    (the.Bindable, whole) ∷
    (the.BindingsRetrievable, whole) ∷
    (the.Description, whole) ∷
    (the.Id, whole) ∷
    (the.InstancesRetrievable, whole) ∷
    (the.Metadata, whole) ∷
    (the.Name, whole) ∷
    (the.PlanUpdateable, whole) ∷
    (the.Plans, shown_list shown_in_plan) ∷
    (the.Tags, whole) ∷
    []

abbrev pub shown_in_catalog : List (Field × (Data → Data))
shown_in_catalog =
    (the.Services, shown_list shown_in_service) ∷
    []

-- the catalog as a value
abbrev pub shown_catalog : Data → Data
shown_catalog file = shown shown_in_catalog (unwrap_or (value_at the.Catalog file) null)

-- the body that answers a request for the catalog
abbrev pub catalog_text : Data → List ℕ
catalog_text file = compact_text (shown_catalog file)
