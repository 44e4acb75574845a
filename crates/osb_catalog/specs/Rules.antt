-- The settings as the look-ups by which the broker decides.
use Rattle.std.specs.Prelude.{ℕ, List, Bool, false, bytes_eq, Option, Some, None, option_map, option_and_then, if◌then◌else◌}
use Rattle.std.specs.List.{find}
use Rattle.std.specs.Option.{option_map_or}
use Rattle.osb_catalog.specs.declared.plan.Plan.{Plan}
use Rattle.osb_catalog.specs.declared.plan.PlanFacts.{PlanFacts}
use Rattle.osb_catalog.specs.declared.plan.Mode.{Mode}
use Rattle.osb_catalog.specs.declared.plan.Service.{Service}
use Rattle.osb_catalog.specs.SettingsData.{SettingsData}

pub record Rules : Type 0 where
  pub catalog : List ℕ
  pub service : List ℕ → Option Service
  pub plan : List ℕ → List ℕ → Option PlanFacts
  pub mode : List ℕ → Option Mode
  pub order_limit : ℕ
  pub platform_tokens : List (List ℕ)
  pub backend_tokens : List (List ℕ)

abbrev pub service_named : List Service → List ℕ → Option Service
service_named services id = find (λ s. bytes_eq s.id id) services

abbrev pub plan_named : List Plan → List ℕ → Option Plan
plan_named plans id = find (λ p. bytes_eq p.id id) plans

-- the plan's facts, where it is a plan of that service
abbrev pub facts_in : List ℕ → Plan → Option PlanFacts
facts_in service plan = if bytes_eq plan.service service then Some plan.facts else None

abbrev pub rules_of : SettingsData → Rules
rules_of s = record {
  catalog = s.catalog;
  service = service_named s.services;
  plan = λ service plan. option_and_then (facts_in service) (plan_named s.plans plan);
  mode = λ plan. option_map (λ p. p.mode) (plan_named s.plans plan);
  order_limit = s.order_limit;
  platform_tokens = s.platform_tokens;
  backend_tokens = s.backend_tokens;
}

-- whether an update may change the context of the service's instances, false for an unknown service
abbrev pub allows_context_updates : Rules → List ℕ → Bool
allows_context_updates rules service = option_map_or (λ s. s.context_updates) (rules.service service) false
