-- Maintenance versions, as semver reads them.
use Rattle.std.specs.Prelude.{ℕ, List, Bool, not, is_ok}
use Rattle.semver.specs.Parse.{version_parts}
use Rattle.serde_json.specs.Data.{Data}
use Rattle.osb_catalog.specs.declared.field.Field.TheVariants as the
use Rattle.osb_catalog.specs.Fields.{value_at, text_at, services_of, plans_of}
use Rattle.osb_catalog.specs.Kinds.{is_some_and}
use Rattle.osb_catalog.specs.Items.{any_item}

abbrev pub is_version : List ℕ → Bool
is_version text = is_ok (version_parts text)

abbrev pub has_no_version : Data → Bool
has_no_version info = not (is_version (text_at the.Version info))

-- the plan has a maintenance version, and it is no version
abbrev pub has_wrong_version : Data → Bool
has_wrong_version plan = is_some_and has_no_version (value_at the.MaintenanceInfo plan)

abbrev pub has_plan_of_wrong_version : Data → Bool
has_plan_of_wrong_version service = any_item has_wrong_version (plans_of service)

abbrev pub refuses_versions : Data → Bool
refuses_versions file = any_item has_plan_of_wrong_version (services_of file)
