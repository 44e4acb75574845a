-- What an ask opened is there when it is asked again.
use Rattle.std.proofs.Common.{◌≡◌, ℕ, false, List, [], ◌∷◌, ◌++◌, Option, None, Some, refl, sym, ◌∙◌, ap, subst}
use Rattle.std.proofs.lemmas.Bool.{true≢false}
use Rattle.osb_catalog.specs.Rules.{Rules}
use Rattle.osb_asks.specs.declared.ask.Provision.{Provision}
use Rattle.osb_asks.specs.declared.ask.Bind.{Bind}
use Rattle.osb_asks.specs.declared.ask.Report.{Report}
use Rattle.osb_asks.specs.declared.ask.ReportState.TheVariants as said
use Rattle.osb_asks.specs.declared.ask.Ask.{Ask}
use Rattle.osb_asks.specs.declared.ask.Ask.TheVariants as the
use Rattle.osb_orders.specs.declared.order.OrderState.{OrderState}
use Rattle.osb_orders.specs.declared.order.OrderState.TheVariants.{Running, Succeeded, Failed}
use Rattle.osb_orders.specs.declared.order.Outcome.{Outcome}
use Rattle.osb_orders.specs.declared.order.Order.{Order}
use Rattle.osb_orders.specs.declared.order.Change.{Change}
use Rattle.osb_orders.specs.declared.order.Change.TheVariants.{Nothing, Append, Finish}
use Rattle.osb_orders.specs.declared.view.BindingNow.{BindingNow}
use Rattle.osb_orders.specs.Orders.{is_now}
use Rattle.osb_orders.specs.Life.{Life}
use Rattle.osb_orders.specs.Bindings.{binding_of}
use Rattle.osb_orders.specs.Lives.{Lives, life_of, named_life}
use Rattle.osb_orders.specs.Listing.{listing_for}
use Rattle.osb_asks.specs.Subjects.{instance_id_of}
use Rattle.osb_orders.specs.Changed.{with_outcome}
use Rattle.osb_orders.specs.IsLife.{is_absent}
use Rattle.osb_machine.specs.Decision.{Decision}
use Rattle.osb_machine.specs.Report.{reported_state, kept_outcome, is_outcome, report}
use Rattle.osb_machine.specs.Machine.{answer_to, after_step}
use Rattle.osb_orders.proofs.GrowLemmas.{choose}
use Rattle.osb_laws.proofs.StepLemmas.{change_of}
use Rattle.osb_laws.proofs.AgainLemmas.{Stays, stays_all, created_once, bound_once}
use Rattle.osb_laws.proofs.MapLemmas.{quiet_step}

pub opened_once : (rules : Rules) (lives others : Lives) (a : Ask) (id : List ℕ) (order : Order) (outcome : Outcome) → instance_id_of a ≡ Some id → (answer_to rules lives a).change ≡ Append order → is_now Failed (with_outcome outcome order) ≡ false → life_of others id ≡ life_of lives id ++ with_outcome outcome order ∷ [] → after_step rules others a ≡ others
opened_once rules lives others a id order outcome named is well life =
    let d = outcome.description in
    let cr = outcome.credentials in
    let had = life_of lives id in
    let change : change_of rules had (listing_for lives a) a ≡ Append order = subst (λ (l : Life). change_of rules l (listing_for lives a) a ≡ Append order) (ap (named_life lives) named) is in
    let both = subst (Stays rules had (listing_for others a) d cr a) change (stays_all rules had (listing_for others a) d cr (listing_for lives a) a) in
    let there : named_life others (instance_id_of a) ≡ had ++ with_outcome outcome order ∷ [] = ap (named_life others) named ∙ life in
    quiet_step _ others (instance_id_of a) (ap (λ (l : Life). change_of rules l (listing_for others a) a) there ∙ by outcome.state refl both)
  where
    by : (state : OrderState) → outcome.state ≡ state → Stays rules (life_of lives id) (listing_for others a) outcome.description outcome.credentials a (Append order) → change_of rules (life_of lives id ++ with_outcome outcome order ∷ []) (listing_for others a) a ≡ Nothing
    by Running e both = subst (λ (s : OrderState). change_of rules (life_of lives id ++ with_outcome (record outcome { state = s }) order ∷ []) (listing_for others a) a ≡ Nothing) (sym e) both.0
    by Succeeded e both = subst (λ (s : OrderState). change_of rules (life_of lives id ++ with_outcome (record outcome { state = s }) order ∷ []) (listing_for others a) a ≡ Nothing) (sym e) both.1
    by Failed e both = absurd (true≢false (ap (λ (s : OrderState). is_now Failed (with_outcome (record outcome { state = s }) order)) (sym e) ∙ well))

pub created_stays : (rules : Rules) (lives : Lives) (a : Provision) → is_absent (life_of lives a.instance) ≡ false → after_step rules lives (the.Provision a) ≡ lives
created_stays rules lives a present =
    quiet_step _ lives (Some a.instance) (created_once rules (life_of lives a.instance) (listing_for lives (the.Provision a)) a present)

pub bound_stays : (rules : Rules) (lives : Lives) (a : Bind) (b : BindingNow) → binding_of a.binding (life_of lives a.instance) ≡ Some b → after_step rules lives (the.Bind a) ≡ lives
bound_stays rules lives a b is =
    quiet_step _ lives (Some a.instance) (bound_once rules (life_of lives a.instance) (listing_for lives (the.Bind a)) a b is)

-- a change that a report of success makes
abbrev pub EndsWell : Change → Type 0
EndsWell Nothing = Unit {0}
EndsWell (Append o) = ⊥
EndsWell (Finish number outcome) = outcome.state ≡ Succeeded

pub report_ends_well : (a : Report) (named : Option Order) → a.state ≡ said.Succeeded → EndsWell (report a named).change
report_ends_well a None said = tt
report_ends_well a (Some o) said =
    choose (λ (r : Decision). EndsWell r.change) (is_now Running o) _ _ (λ _. ap reported_state said)
    (λ _. choose (λ (r : Decision). EndsWell r.change) (is_outcome o.outcome (kept_outcome a o)) _ _ (λ _. tt) (λ _. tt))

pub not_failed : (outcome : Outcome) (order : Order) → outcome.state ≡ Succeeded → is_now Failed (with_outcome outcome order) ≡ false
not_failed outcome order is = ap (λ (s : OrderState). is_now Failed (with_outcome (record outcome { state = s }) order)) is
