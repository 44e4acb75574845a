-- One ask opens one order, until that one has failed.
use Rattle.std.proofs.Common.{◌≡◌, ℕ, ◌+◌, ◌⊎◌, inl, inr, false, List, [], ◌∷◌, ◌++◌, length, Option, None, Some, refl, sym, ◌∙◌, ap, subst}
use Rattle.osb_catalog.specs.Rules.{Rules}
use Rattle.osb_asks.specs.declared.ask.Report.{Report}
use Rattle.osb_asks.specs.declared.ask.ReportState.TheVariants as said
use Rattle.osb_asks.specs.declared.ask.Ask.{Ask}
use Rattle.osb_asks.specs.declared.ask.Ask.TheVariants as the
use Rattle.osb_orders.specs.declared.order.OrderState.TheVariants.{Failed}
use Rattle.osb_orders.specs.declared.order.Outcome.{Outcome}
use Rattle.osb_orders.specs.declared.order.Order.{Order}
use Rattle.osb_orders.specs.declared.order.Change.{Change}
use Rattle.osb_orders.specs.declared.order.Change.TheVariants.{Nothing, Append, Finish}
use Rattle.osb_orders.specs.Orders.{is_now}
use Rattle.osb_orders.specs.Life.{Life}
use Rattle.osb_orders.specs.Lives.{Lives, life_of, named_life}
use Rattle.osb_orders.specs.Listing.{listing_for}
use Rattle.osb_asks.specs.Subjects.{instance_id_of}
use Rattle.osb_orders.specs.Named.{order_numbered}
use Rattle.osb_orders.specs.Changed.{changed, with_last_ended, with_outcome}
use Rattle.osb_machine.specs.Decision.{Decision}
use Rattle.osb_machine.specs.Report.{is_outcome, kept_outcome, report}
use Rattle.osb_machine.specs.Machine.{answer_to, after_step}
use Rattle.osb_orders.proofs.GrowLemmas.{choose}
use Rattle.osb_orders.proofs.LastLemmas.{ended_push}
use Rattle.osb_orders.specs.declared.order.OrderState.TheVariants.{Running}
use Rattle.osb_laws.proofs.LifeLemmas.{length-push}
use Rattle.osb_laws.proofs.StepLemmas.{change_of}
use Rattle.osb_laws.proofs.AgainLemmas.{Stays, stays_all}
use Rattle.osb_laws.proofs.MapLemmas.{step_at, ended_length}
use Rattle.osb_laws.proofs.OpenedLemmas.{opened_once, report_ends_well, EndsWell, not_failed}

-- a report opens nothing
abbrev OpensNothing : Change → Type 0
OpensNothing Nothing = Unit {0}
OpensNothing (Append o) = ⊥
OpensNothing (Finish number outcome) = Unit {0}

report_opens_nothing : (a : Report) (named : Option Order) → OpensNothing (report a named).change
report_opens_nothing a None = tt
report_opens_nothing a (Some o) =
    choose (λ (r : Decision). OpensNothing r.change) (is_now Running o) _ _ (λ _. tt)
    (λ _. choose (λ (r : Decision). OpensNothing r.change) (is_outcome o.outcome (kept_outcome a o)) _ _ (λ _. tt) (λ _. tt))

same_length : (c : Change) (life : Life) → OpensNothing c → length (changed c life) ≡ length life
same_length Nothing life h = refl
same_length (Append o) life h = absurd h
same_length (Finish number outcome) life h = ended_length outcome life

pub report_length : (rules : Rules) (now : Lives) (a : Report) (id : List ℕ) → a.instance ≡ id → length (life_of (after_step rules now (the.Report a)) id) ≡ length (life_of now id)
report_length rules now a id at =
    ap (λ (l : Life). length l) (step_at rules now (the.Report a) id (ap Some at))
    ∙ same_length (answer_to rules now (the.Report a)).change (life_of now id) (report_opens_nothing a (order_numbered a.number (life_of now a.instance)))

module _ (rules : Rules) (ask : Ask) (id : List ℕ) where
  -- the life ends with an order that the ask opened and that hasn't failed
  pub record Spent (life : Life) : Type 0 where
    pub lives : Lives
    pub order : Order
    pub outcome : Outcome
    pub opened : (answer_to rules lives ask).change ≡ Append order
    pub well : is_now Failed (with_outcome outcome order) ≡ false
    pub is : life ≡ life_of lives id ++ with_outcome outcome order ∷ []

  pub spent_stays : (now : Lives) → instance_id_of ask ≡ Some id → Spent (life_of now id) → after_step rules now ask ≡ now
  spent_stays now named p = opened_once rules p.lives now ask id p.order p.outcome named p.opened p.well p.is

  pub opens_or_not : (now : Lives) → instance_id_of ask ≡ Some id → (length (life_of (after_step rules now ask) id) ≡ length (life_of now id)) ⊎ ((length (life_of (after_step rules now ask) id) ≡ length (life_of now id) + 1) × Spent (life_of (after_step rules now ask) id))
  opens_or_not now named = by (answer_to rules now ask).change refl
    where
      after_is : (c : Change) → (answer_to rules now ask).change ≡ c → life_of (after_step rules now ask) id ≡ changed c (life_of now id)
      after_is c is = step_at rules now ask id named ∙ ap (λ c. changed c (life_of now id)) is

      well_opened : (order : Order) → (answer_to rules now ask).change ≡ Append order → is_now Failed order ≡ false
      well_opened order is =
          let d = order.outcome.description in
          let had = life_of now id in
          let change : change_of rules had (listing_for now ask) ask ≡ Append order = subst (λ (l : Life). change_of rules l (listing_for now ask) ask ≡ Append order) (ap (named_life now) named) is in
          (subst (Stays rules had (listing_for now ask) d d ask) change (stays_all rules had (listing_for now ask) d d (listing_for now ask) ask)).2

      by : (c : Change) → (answer_to rules now ask).change ≡ c → (length (life_of (after_step rules now ask) id) ≡ length (life_of now id)) ⊎ ((length (life_of (after_step rules now ask) id) ≡ length (life_of now id) + 1) × Spent (life_of (after_step rules now ask) id))
      by Nothing is = inl (ap (λ (l : Life). length l) (after_is Nothing is))
      by (Finish number outcome) is = inl (ap (λ (l : Life). length l) (after_is (Finish number outcome) is) ∙ ended_length outcome (life_of now id))
      by (Append order) is = inr (
        ap (λ (l : Life). length l) (after_is (Append order) is) ∙ length-push (life_of now id) order,
        record { lives = now; order = order; outcome = order.outcome; opened = is; well = well_opened order is; is = after_is (Append order) is },
      )

  changed_spent : (life : Life) (c : Change) → EndsWell c → Spent life → Spent (changed c life)
  changed_spent life Nothing well p = p
  changed_spent life (Append o) well p = absurd well
  changed_spent life (Finish number outcome) well p = record {
    lives = p.lives;
    order = p.order;
    outcome = outcome;
    opened = p.opened;
    well = not_failed outcome p.order well;
    is = ap (with_last_ended outcome) p.is ∙ ended_push outcome (life_of p.lives id) (with_outcome p.outcome p.order);
  }

  pub report_spent : (now : Lives) (a : Report) → a.instance ≡ id → a.state ≡ said.Succeeded → Spent (life_of now id) → Spent (life_of (after_step rules now (the.Report a)) id)
  report_spent now a at state p =
      subst Spent (sym (step_at rules now (the.Report a) id (ap Some at)))
      (changed_spent (life_of now id) (answer_to rules now (the.Report a)).change (report_ends_well a (order_numbered a.number (life_of now a.instance)) state) p)
