-- The settings that a file without faults has.
use Rattle.std.specs.Prelude.{ℕ, List, [], codes, nat_lt, Bool, false, Option, Some, None, option_and_then, unwrap_or, if◌then◌else◌}
use Rattle.std.specs.Option.{option_map_or}
use Rattle.serde_json.specs.Data.{Data}
use Rattle.serde_json.specs.Find.{as_bool}
use Rattle.serde_json.specs.Written.{compact_text}
use Rattle.osb_text.specs.Member.{as_whole}
use Rattle.osb_catalog.specs.declared.field.Field.{Field}
use Rattle.osb_catalog.specs.declared.field.Field.TheVariants as the
use Rattle.osb_catalog.specs.declared.plan.Mode.{Mode}
use Rattle.osb_catalog.specs.declared.plan.PlanFacts.{PlanFacts}
use Rattle.osb_catalog.specs.declared.plan.Plan.{Plan}
use Rattle.osb_catalog.specs.declared.plan.Service.{Service}
use Rattle.osb_catalog.specs.Fields.{value_at, text_at, flag_at, services_of, plans_of, mode_of_plan}
use Rattle.osb_catalog.specs.Items.{each, all_of_each}
use Rattle.osb_catalog.specs.Modes.{timing_at}
use Rattle.osb_catalog.specs.Logins.{tokens_at}
use Rattle.osb_catalog.specs.Catalog.{catalog_text}
use Rattle.osb_catalog.specs.SettingsData.{SettingsData}

abbrev pub service_of : Data → Service
service_of service =
    record {
      id = text_at the.Id service;
      context_updates = flag_at the.AllowContextUpdates service;
    }

abbrev pub bool_of : Data → Bool
bool_of d = unwrap_or (as_bool d) false

-- the plan's flag where it has one, otherwise the service's
abbrev pub flag_over : Field → Data → Data → Bool
flag_over field plan service = option_map_or bool_of (value_at field plan) (flag_at field service)

-- empty where the plan has no maintenance information
abbrev pub version_of : Data → List ℕ
version_of plan = option_map_or (text_at the.Version) (value_at the.MaintenanceInfo plan) []

abbrev pub facts_of : Data → Data → PlanFacts
facts_of service plan =
    record {
      bindable = flag_over the.Bindable plan service;
      plan_updateable = flag_over the.PlanUpdateable plan service;
      version = version_of plan;
    }

abbrev pub credentials_of : Data → List ℕ
credentials_of mode = option_map_or compact_text (value_at the.Credentials mode) (codes "{}")

abbrev pub mode_from : Data → Mode
mode_from mode =
    record {
      instances = timing_at the.Instances mode;
      bindings = timing_at the.Bindings mode;
      credentials = credentials_of mode;
    }

abbrev pub plan_of : Data → Data → Data → Plan
plan_of file service plan =
    record {
      service = text_at the.Id service;
      id = text_at the.Id plan;
      facts = facts_of service plan;
      mode = mode_from (mode_of_plan file (text_at the.Id plan));
      bindings_retrievable = flag_at the.BindingsRetrievable service;
    }

abbrev pub plans_of_service : Data → Data → List Plan
plans_of_service file service = each (plan_of file service) (plans_of service)

-- 1,000,000 where the file gives none
abbrev pub limit_from : Option ℕ → ℕ
limit_from None = 1000000
limit_from (Some n) = if nat_lt n 1000001 then n else 1000000

abbrev pub order_limit_of : Data → ℕ
order_limit_of file = limit_from (option_and_then as_whole (value_at the.OrdersPerInstance file))

abbrev pub contents_of : Data → SettingsData
contents_of file = record {
  catalog = catalog_text file;
  services = each service_of (services_of file);
  plans = all_of_each (plans_of_service file) (services_of file);
  order_limit = order_limit_of file;
  platform_tokens = tokens_at the.Platform file;
  backend_tokens = tokens_at the.Backend file;
}
