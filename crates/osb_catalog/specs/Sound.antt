-- What holds of all settings.
use Rattle.std.specs.Prelude.{◌≡◌, ◌≤◌, ℕ, List, map, bytes_eq, length, ◌==◌, Bool, true, ◌||◌, IsSome, IfSome}
use Rattle.std.specs.List.{AllByRecursion, IsDistinct}
use Rattle.osb_text.specs.Id.{is_id}
use Rattle.osb_text.specs.ObjectText.{is_object_text}
use Rattle.osb_catalog.specs.declared.plan.Plan.{Plan}
use Rattle.osb_catalog.specs.Modes.{is_asynchronous}
use Rattle.osb_catalog.specs.SettingsData.{SettingsData}
use Rattle.osb_catalog.specs.Rules.{Rules, rules_of}
use Rattle.osb_catalog.specs.Versions.{is_version}

-- a semantic version, or the empty text of a plan that has none
abbrev pub is_version_or_empty : List ℕ → Bool
is_version_or_empty text = (length text == 0) || is_version text

pub record AreSound (rules : Rules) : Type 0 where
  pub some_orders : 1 ≤ rules.order_limit
  pub most_orders : rules.order_limit ≤ 1000000
  pub service_id : (service : List ℕ) → IsSome (rules.service service) → is_id service ≡ true
  pub plan_id : (service plan : List ℕ) → IsSome (rules.plan service plan) → is_id plan ≡ true
  pub service : (service plan : List ℕ) → IsSome (rules.plan service plan) →
      IsSome (rules.service service)
  pub one_service : (service other plan : List ℕ) → IsSome (rules.plan service plan) →
      IsSome (rules.plan other plan) → service ≡ other
  pub mode : (service plan : List ℕ) → IsSome (rules.plan service plan) → IsSome (rules.mode plan)
  pub version : (service plan : List ℕ) →
      IfSome (rules.plan service plan) (λ facts. is_version_or_empty facts.version ≡ true)
  pub credentials : (plan : List ℕ) →
      IfSome (rules.mode plan) (λ mode. is_object_text mode.credentials ≡ true)

-- asynchronous bindings only where they can be fetched (OSB API 2.17, "Binding")
abbrev pub IsFetchable : Plan → Type 0
IsFetchable plan = is_asynchronous plan.mode.bindings ≡ true → plan.bindings_retrievable ≡ true

-- no two services and no two plans have one id, asynchronous bindings can be fetched, and the look-ups are sound
pub record IsSettings (s : SettingsData) : Type 0 where
  pub services : IsDistinct bytes_eq (map (λ service. service.id) s.services)
  pub plans : IsDistinct bytes_eq (map (λ plan. plan.id) s.plans)
  pub fetched : AllByRecursion IsFetchable s.plans
  pub rules : AreSound (rules_of s)
