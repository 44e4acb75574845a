-- The first field that is missing, and the first that the broker leaves out.
use Rattle.std.specs.Prelude.{[], ◌∷◌, Option, option_and_then}
use Rattle.std.specs.Option.{option_or}
use Rattle.serde_json.specs.Data.{Data}
use Rattle.osb_catalog.specs.declared.field.Field.{Field}
use Rattle.osb_catalog.specs.declared.field.Field.TheVariants as the
use Rattle.osb_catalog.specs.Fields.{value_at, services_of, plans_of, modes_of}
use Rattle.osb_catalog.specs.Items.{first_in, first_of_members, first_of}
use Rattle.osb_catalog.specs.Tables.{first_broken, file_rules, catalog_rules, service_rules, plan_rules, mode_rules, service_left_out_rules, plan_left_out_rules}

abbrev pub missing_in_catalog : Data → Option Field
missing_in_catalog file = option_and_then (first_broken catalog_rules) (value_at the.Catalog file)

abbrev pub missing_in_plans : Data → Option Field
missing_in_plans service = first_in (first_broken plan_rules) (plans_of service)

-- table by table, each for all its objects: services and plans in the file's order, modes by the bytes of their names
abbrev pub first_missing : Data → Option Field
first_missing file = first_of (
    first_broken file_rules file ∷
    missing_in_catalog file ∷
    first_in (first_broken service_rules) (services_of file) ∷
    first_in missing_in_plans (services_of file) ∷
    first_of_members (first_broken mode_rules) (modes_of file) ∷
    [])

-- of the service itself, then of its plans
abbrev pub left_out_of_service : Data → Option Field
left_out_of_service service =
    option_or (first_broken service_left_out_rules service)
    (first_in (first_broken plan_left_out_rules) (plans_of service))

abbrev pub first_left_out : Data → Option Field
first_left_out file = first_in left_out_of_service (services_of file)
