-- The tables of the fields: what each object of a file must have, may have, and must leave out. Those of services and plans
-- are OSB API 2.17, "Catalog Management"; what is left out, and the rest, is this project's own.
use Rattle.std.specs.Prelude.{List, [], ◌∷◌, Bool, true, false, not, Option, Some, None, option_map}
use Rattle.std.specs.List.{find}
use Rattle.serde_json.specs.Data.{Data}
use Rattle.osb_catalog.specs.declared.field.Field.{Field}
use Rattle.osb_catalog.specs.declared.field.Field.TheVariants as the
use Rattle.osb_catalog.specs.declared.kind.Kind.{Kind}
use Rattle.osb_catalog.specs.declared.kind.Kind.TheVariants as a
use Rattle.osb_catalog.specs.declared.table.FieldRule.{FieldRule}
use Rattle.osb_catalog.specs.Fields.{value_at}
use Rattle.osb_catalog.specs.Kinds.{fits}

abbrev pub required : Field → Kind → FieldRule
required field kind = record { field = field; kind = kind; required = true }

abbrev pub optional : Field → Kind → FieldRule
optional field kind = record { field = field; kind = kind; required = false }

-- what was found under the rule's field breaks the rule
abbrev pub is_broken_by : FieldRule → Option Data → Bool
is_broken_by rule None = rule.required
is_broken_by rule (Some d) = not (fits rule.kind d)

abbrev pub is_broken : Data → FieldRule → Bool
is_broken v rule = is_broken_by rule (value_at rule.field v)

-- the field of the first rule that the object breaks
abbrev pub first_broken : List FieldRule → Data → Option Field
first_broken rules v = option_map (λ rule. rule.field) (find (is_broken v) rules)

abbrev pub file_rules : List FieldRule
file_rules =
    required the.Platform a.Login ∷
    required the.Backend a.Login ∷
    required the.Catalog a.Object ∷
    optional the.Modes a.ObjectOfObjects ∷
    optional the.OrdersPerInstance a.OrderLimit ∷
    []

abbrev pub catalog_rules : List FieldRule
catalog_rules =
    required the.Services a.ObjectList ∷
    []

abbrev pub service_rules : List FieldRule
service_rules =
    required the.Id a.IdText ∷
    required the.Name a.NonEmptyText ∷
    required the.Description a.NonEmptyText ∷
    required the.Bindable a.Flag ∷
    required the.Plans a.NonEmptyObjectList ∷
    optional the.Tags a.TextList ∷
    optional the.Metadata a.Object ∷
    optional the.InstancesRetrievable a.Flag ∷
    optional the.BindingsRetrievable a.Flag ∷
    optional the.PlanUpdateable a.Flag ∷
    optional the.AllowContextUpdates a.Flag ∷
    []

abbrev pub plan_rules : List FieldRule
plan_rules =
    required the.Id a.IdText ∷
    required the.Name a.NonEmptyText ∷
    required the.Description a.NonEmptyText ∷
    optional the.Metadata a.Object ∷
    optional the.Free a.Flag ∷
    optional the.Bindable a.Flag ∷
    optional the.PlanUpdateable a.Flag ∷
    optional the.MaximumPollingDuration a.WholeNumber ∷
    optional the.MaintenanceInfo a.MaintenanceInfo ∷
    []

abbrev pub mode_rules : List FieldRule
mode_rules =
    optional the.Instances a.Timing ∷
    optional the.Bindings a.Timing ∷
    optional the.Credentials a.Object ∷
    []

-- what a service may not announce, since the broker leaves it out
abbrev pub service_left_out_rules : List FieldRule
service_left_out_rules =
    optional the.BindingRotatable a.False ∷
    optional the.DashboardClient a.Nothing ∷
    optional the.Requires a.EmptyList ∷
    []

-- what a plan may not announce
abbrev pub plan_left_out_rules : List FieldRule
plan_left_out_rules =
    optional the.BindingRotatable a.False ∷
    optional the.Schemas a.Nothing ∷
    []
