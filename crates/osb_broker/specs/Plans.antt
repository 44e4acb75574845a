-- The plans in use, held against the catalog.
use Rattle.std.specs.Prelude.{◌≡◌, List, Bool, not, is_some, Option, Some, None, ⊤}
use Rattle.std.specs.List.{find}
use Rattle.osb_catalog.specs.Rules.{Rules}
use Rattle.osb_orders.specs.Lives.{Lives}
use Rattle.osb_audit.specs.Plans.{Pair, plans_in_use}
use Rattle.osb_broker.specs.declared.fault.NewFault.{NewFault}
use Rattle.osb_broker.specs.declared.fault.NewFault.TheVariants.{PlanInUse, Refused}

-- the catalog has the service with that plan
abbrev pub offers : Rules → Pair → Bool
offers rules pair = is_some (rules.plan pair.0 pair.1)

-- the first pair that the catalog lacks
abbrev pub first_lacking : Rules → List Pair → Option Pair
first_lacking rules pairs = find (λ pair. not (offers rules pair)) pairs

-- the catalog has each plan that these lives have in use
abbrev pub OffersInUse : Rules → Lives → Type 0
OffersInUse rules lives = first_lacking rules (plans_in_use lives) ≡ None

-- a plan that is in use is named as the first that the catalog lacks
abbrev pub ReportsLacking : NewFault → Option Pair → Type 0
ReportsLacking (PlanInUse service plan) lacking = lacking ≡ Some (service, plan)
ReportsLacking Refused lacking = ⊤

-- a pair that is named as in use is one that the catalog lacks
abbrev pub NamesLacking : Rules → NewFault → Type 0
NamesLacking rules (PlanInUse service plan) = rules.plan service plan ≡ None
NamesLacking rules Refused = ⊤
