-- The settings as contracts see them.
use Rattle.std.specs.Prelude.{ℕ, List}
use Rattle.osb_catalog.specs.declared.plan.Plan.{Plan}
use Rattle.osb_catalog.specs.declared.plan.Service.{Service}

pub record SettingsData : Type 0 where
  pub catalog : List ℕ
  pub services : List Service
  pub plans : List Plan
  pub order_limit : ℕ
  pub platform_tokens : List (List ℕ)
  pub backend_tokens : List (List ℕ)
