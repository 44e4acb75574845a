-- The line that says which value is wanted where a fault is.
use Rattle.std.specs.Prelude.{ℕ, List, [], ◌∷◌, ◌++◌, codes, bytes_eq, Bool, Option, Some, option_map}
use Rattle.std.specs.List.{find}
use Rattle.std.specs.Option.{option_map_or}
use Rattle.osb_catalog.specs.declared.fault.SettingsFault.{SettingsFault}
use Rattle.osb_catalog.specs.declared.fault.SettingsFault.TheVariants as a
use Rattle.osb_catalog.specs.declared.field.Field.{Field}
use Rattle.osb_catalog.specs.declared.found.Place.{Place}
use Rattle.osb_catalog.specs.declared.found.Place.TheVariants as at
use Rattle.osb_catalog.specs.declared.kind.Kind.{Kind}
use Rattle.osb_catalog.specs.declared.kind.Kind.TheVariants as of
use Rattle.osb_catalog.specs.declared.table.FieldRule.{FieldRule}
use Rattle.osb_catalog.specs.Fields.{field_name}
use Rattle.osb_catalog.specs.Items.{first_of}
use Rattle.osb_catalog.specs.Tables.{file_rules, catalog_rules, service_rules, plan_rules, mode_rules}

abbrev pub kind_in : List FieldRule → Field → Option Kind
kind_in rules field =
    option_map (λ rule. rule.kind)
    (find (λ rule. bytes_eq (field_name rule.field) (field_name field)) rules)

-- the kind of the field's values, by the first table that has the field
abbrev pub kind_of : Field → Option Kind
kind_of field = first_of (
    kind_in file_rules field ∷
    kind_in catalog_rules field ∷
    kind_in service_rules field ∷
    kind_in plan_rules field ∷
    kind_in mode_rules field ∷
    [])

abbrev pub wanted_kind : Kind → List ℕ
wanted_kind of.Object = codes "wanted: an object"
wanted_kind of.ObjectOfObjects = codes "wanted: an object of objects"
wanted_kind of.ObjectList = codes "wanted: a list of objects"
wanted_kind of.NonEmptyObjectList = codes "wanted: a list of objects that isn't empty"
wanted_kind of.Login =
    codes "wanted: an object with the texts user and password, and with such an object if it has also"
wanted_kind of.IdText = codes "wanted: a text of 1 to 256 bytes without control characters"
wanted_kind of.NonEmptyText = codes "wanted: a text that isn't empty"
wanted_kind of.TextList = codes "wanted: a list of texts"
wanted_kind of.Flag = codes "wanted: true or false"
wanted_kind of.OrderLimit = codes "wanted: a whole number from 1 to 1000000"
wanted_kind of.WholeNumber = codes "wanted: a whole number of seconds from 0"
wanted_kind of.MaintenanceInfo =
    codes "wanted: an object with the text version, and with a text if it has a description"
wanted_kind of.Timing = codes "wanted: synchronous or asynchronous"
wanted_kind of.False = codes "wanted: false"
wanted_kind of.EmptyList = codes "wanted: a list that is empty"
wanted_kind of.Nothing = codes "wanted: nothing"

abbrev pub wanted_at : Field → List ℕ
wanted_at field = option_map_or wanted_kind (kind_of field) []

-- the rules of all tables: those of one field agree in its kind
abbrev pub rules : List FieldRule
rules = file_rules ++ catalog_rules ++ service_rules ++ plan_rules ++ mode_rules

abbrev pub names_its_kind : FieldRule → Bool
names_its_kind rule = bytes_eq (wanted_at rule.field) (wanted_kind rule.kind)

-- the line without its end, for a fault and its place
abbrev pub wanted : SettingsFault → Option Place → List ℕ
wanted a.Text place = []
wanted (a.Missing field) place = wanted_at field
wanted a.DoubleId place = codes "wanted: an id that no other one has"
wanted (a.LeftOut field) place = codes "wanted: nothing, this broker leaves it out"
wanted a.Version place = codes "wanted: a semantic version, as 1.0.0"
wanted a.Mode (Some (at.Mode name)) = codes "wanted: the id of a plan, and no plan has this one"
wanted a.Mode _ = codes "wanted: bindings_retrievable in its service, for asynchronous bindings"
wanted a.Credential place =
    codes "wanted: a user without a colon, and both texts of 1 to 256 bytes without control characters"
wanted a.Memory place = []
