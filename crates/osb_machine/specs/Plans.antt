-- What answers take from the catalog and from the modes of its plans (OSB API 2.17, "Catalog Management"; the modes are
-- this project's own). A plan that the catalog doesn't have is synchronous, can't be bound or changed, and has the empty
-- maintenance version and the credentials `{}`.
use Rattle.std.specs.Prelude.{ℕ, Bool, false, List, []}
use Rattle.std.specs.Option.{option_map_or}
use Rattle.osb_catalog.specs.Modes.{is_asynchronous}
use Rattle.osb_catalog.specs.Rules.{Rules}
use Rattle.osb_orders.specs.Orders.{empty_object}

abbrev pub catalog_version : Rules → List ℕ → List ℕ → List ℕ
catalog_version rules service plan = option_map_or (λ facts. facts.version) (rules.plan service plan) []

abbrev pub is_bindable : Rules → List ℕ → List ℕ → Bool
is_bindable rules service plan = option_map_or (λ facts. facts.bindable) (rules.plan service plan) false

-- an instance of the plan may change to another
abbrev pub is_plan_updateable : Rules → List ℕ → List ℕ → Bool
is_plan_updateable rules service plan = option_map_or (λ facts. facts.plan_updateable) (rules.plan service plan) false

-- creations, updates and deletions run until they are reported
abbrev pub instances_are_asynchronous : Rules → List ℕ → Bool
instances_are_asynchronous rules plan = option_map_or (λ mode. is_asynchronous mode.instances) (rules.mode plan) false

-- bindings and unbindings run until they are reported
abbrev pub bindings_are_asynchronous : Rules → List ℕ → Bool
bindings_are_asynchronous rules plan = option_map_or (λ mode. is_asynchronous mode.bindings) (rules.mode plan) false

-- what a synchronous binding hands out
abbrev pub plan_credentials : Rules → List ℕ → List ℕ
plan_credentials rules plan = option_map_or (λ mode. mode.credentials) (rules.mode plan) empty_object
