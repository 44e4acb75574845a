-- That the texts of an ask are id texts and compact texts, and that the catalog has its service and its plan.
use Rattle.std.specs.Prelude.{◌≡◌, ℕ, ◌≤◌, List, length, true, IsSome, IfSome, ⊤}
use Rattle.osb_text.specs.Id.{is_id, has_no_controls}
use Rattle.osb_text.specs.ObjectText.{is_object_text}
use Rattle.osb_catalog.specs.Rules.{Rules}
use Rattle.osb_asks.specs.declared.ask.Ask.{Ask}
use Rattle.osb_asks.specs.declared.ask.Ask.TheVariants as ask

abbrev pub IsId : List ℕ → Type 0
IsId text = is_id text ≡ true

abbrev pub IsObject : List ℕ → Type 0
IsObject text = is_object_text text ≡ true

-- ids are id texts, objects are their compact texts, and a description is short and without control characters
abbrev pub AskHasValidTexts : Ask → Type 0
AskHasValidTexts ask.Catalog = ⊤
AskHasValidTexts (ask.Provision a) =
    IsId a.instance × IsId a.service × IsId a.plan × IsId a.organization × IsId a.space
    × IsObject a.context × IsObject a.parameters
AskHasValidTexts (ask.Fetch a) = IsId a.instance
AskHasValidTexts (ask.Update a) =
    IsId a.instance × IsId a.service × IfSome a.plan IsId × IfSome a.context IsObject
    × IfSome a.parameters IsObject
AskHasValidTexts (ask.Deprovision a) = IsId a.instance × IsId a.service × IsId a.plan
AskHasValidTexts (ask.InstanceOp a) = IsId a.instance
AskHasValidTexts (ask.Bind a) =
    IsId a.instance × IsId a.binding × IsId a.service × IsId a.plan × IfSome a.app_guid IsId
    × IsObject a.bind_resource × IsObject a.context × IsObject a.parameters
AskHasValidTexts (ask.FetchBinding a) = IsId a.instance × IsId a.binding
AskHasValidTexts (ask.Unbind a) = IsId a.instance × IsId a.binding × IsId a.service × IsId a.plan
AskHasValidTexts (ask.BindingOp a) = IsId a.instance × IsId a.binding
AskHasValidTexts (ask.Orders a) = IfSome a.after IsId
AskHasValidTexts (ask.Report a) =
    IsId a.instance × (length a.description ≤ 1000) × (has_no_controls a.description ≡ true)
    × IsObject a.credentials

-- the service is in the catalog, and the plan is one of that service
abbrev pub HasPlan : Rules → List ℕ → List ℕ → Type 0
HasPlan rules service plan = IsSome (rules.service service) × IsSome (rules.plan service plan)

-- the catalog has the service and the plan of the ask
abbrev pub IsOffered : Rules → Ask → Type 0
IsOffered rules (ask.Provision a) = HasPlan rules a.service a.plan
IsOffered rules (ask.Update a) =
    IsSome (rules.service a.service) × IfSome a.plan (λ plan. IsSome (rules.plan a.service plan))
IsOffered rules (ask.Deprovision a) = HasPlan rules a.service a.plan
IsOffered rules (ask.Bind a) = HasPlan rules a.service a.plan
IsOffered rules (ask.Unbind a) = HasPlan rules a.service a.plan
IsOffered rules _ = ⊤
