-- An ask that is made again and again acts once, also where its order is reported in between.
use Rattle.std.proofs.Common.{◌≡◌, ℕ, ◌+◌, ◌<◌, false, ◌==◌, inl, inr, List, [], ◌∷◌, ◌++◌, length, None, Some, refl, sym, ◌∙◌, ap, subst, append_assoc, length-append, arith}
use Rattle.std.proofs.lemmas.Bool.{eqb-true}
use Rattle.osb_catalog.specs.Rules.{Rules}
use Rattle.osb_asks.specs.declared.ask.Report.{Report}
use Rattle.osb_asks.specs.declared.ask.Ask.{Ask}
use Rattle.osb_asks.specs.declared.ask.Ask.TheVariants as the
use Rattle.osb_orders.specs.declared.order.OrderState.TheVariants.{Failed}
use Rattle.osb_orders.specs.declared.order.Outcome.{Outcome}
use Rattle.osb_orders.specs.declared.order.Order.{Order}
use Rattle.osb_orders.specs.declared.order.Change.{Change}
use Rattle.osb_orders.specs.declared.order.Change.TheVariants.{Nothing, Append, Finish}
use Rattle.osb_orders.specs.Orders.{is_now}
use Rattle.osb_orders.specs.Life.{Life}
use Rattle.osb_orders.specs.Lives.{Lives, life_of, named_life}
use Rattle.osb_orders.specs.Listing.{listing_for}
use Rattle.osb_asks.specs.Subjects.{instance_id_of}
use Rattle.osb_orders.specs.Named.{order_numbered}
use Rattle.osb_orders.specs.Changed.{changed, with_last_ended, after_change}
use Rattle.osb_orders.specs.IsLife.{IsLives, IsLifeAfter}
use Rattle.osb_machine.specs.Report.{report}
use Rattle.osb_machine.specs.Machine.{answer_to, after_step}
use Rattle.osb_orders.proofs.GrowLemmas.{choose}
use Rattle.osb_orders.proofs.LastLemmas.{ended_push}
use Rattle.osb_laws.specs.Reported.{ReportsSuccess, next_number, IsOnce, ComesAgain, AfterAsks}
use Rattle.osb_laws.proofs.LifeLemmas.{life_ended}
use Rattle.osb_laws.proofs.StepLemmas.{change_of}
use Rattle.osb_laws.proofs.AgainLemmas.{Stays, stays_all}
use Rattle.osb_laws.proofs.MapLemmas.{life_at, again_stays, step_at, one_life, ended_length}
use Rattle.osb_laws.proofs.OpenedLemmas.{opened_once, report_ends_well, EndsWell, not_failed}

-- No order of a well-formed life has the next number

past_all : (before later : Life) (x : Order) (n : ℕ) → x.number ≡ length before + 1 → length (before ++ x ∷ later) < n → x.number ≡ n → ⊥
past_all before later x n its less is = omega (arith, its, less, is, length-append before (x ∷ later))

none_from : (before later : Life) (n : ℕ) → IsLifeAfter before later → length (before ++ later) < n → order_numbered n later ≡ None
none_from before [] n h less = refl
none_from before (x ∷ later) n h less =
    choose (λ found. found ≡ None) (x.number == n) (Some x) (order_numbered n later)
    (λ e. absurd (past_all before later x n h.0.number less (eqb-true x.number n e)))
    (λ _. none_from (before ++ x ∷ []) later n h.1 (subst (λ l. length l < n) (sym (append_assoc before (x ∷ []) later)) less))

one_more : (n m : ℕ) → n ≡ m → n < m + 1
one_more n m e = omega (arith, e)

none_numbered : (life : Life) (n : ℕ) → IsLifeAfter [] life → length life ≡ n → order_numbered (n + 1) life ≡ None
none_numbered life n h e = none_from [] life (n + 1) h (one_more (length life) n e)

-- a report of what isn't there
quiet_report : (rules : Rules) (now : Lives) (a : Report) → order_numbered a.number (life_of now a.instance) ≡ None → after_step rules now (the.Report a) ≡ now
quiet_report rules now a none = ap (λ o. after_change (report a o).change now (Some a.instance)) none

ended_twice : (one other : Outcome) (life : Life) → with_last_ended one (with_last_ended other life) ≡ with_last_ended one life
ended_twice one other [] = refl
ended_twice one other (x ∷ []) = refl
ended_twice one other (x ∷ y ∷ []) = refl
ended_twice one other (x ∷ y ∷ z ∷ life) = ap (λ (l : Life). x ∷ l) (ended_twice one other (y ∷ z ∷ life))

succeeded_since : (once life : Life) (c : Change) → EndsWell c → IsOnce once life → IsOnce once (changed c life)
succeeded_since once life Nothing well is = is
succeeded_since once life (Append o) well is = absurd well
succeeded_since once life (Finish number outcome) well (inl is) = inr (outcome, well, ap (with_last_ended outcome) is)
succeeded_since once life (Finish number outcome) well (inr (other, s, is)) = inr (outcome, well, ap (with_last_ended outcome) is ∙ ended_twice outcome other once)

module _ (rules : Rules) (lives : Lives) (ask : Ask) (id : List ℕ) (h : IsLives lives) (named : instance_id_of ask ≡ Some id) where
  abbrev pub had : Life
  had = life_of lives id

  abbrev pub made : Change
  made = (answer_to rules lives ask).change

  abbrev pub once : Life
  once = life_of (after_step rules lives ask) id

  -- the life after the ask was made, by what it changed
  abbrev pub Acted : Change → Life → Type 0
  Acted (Append order) life = IsOnce once life
  Acted _ life = life ≡ once

  pub at_least : (c : Change) (life : Life) → Acted c life → IsOnce once life
  at_least (Append order) life is = is
  at_least Nothing life is = inl is
  at_least (Finish number outcome) life is = inl is

  begins : (c : Change) (life : Life) → life ≡ once → Acted c life
  begins (Append order) life is = inl is
  begins Nothing life is = is
  begins (Finish number outcome) life is = is

  -- made for the first time
  pub first : (now : Lives) → life_of now id ≡ had → Acted made (life_of (after_step rules now ask) id)
  first now same = begins made _ (one_life rules now lives ask id named same)

  once_is : (c : Change) → made ≡ c → once ≡ changed c had
  once_is c is = step_at rules lives ask id named ∙ ap (λ c. changed c had) is

  opened_well : (order : Order) → made ≡ Append order → is_now Failed order ≡ false
  opened_well order is =
      let d = order.outcome.description in
      let change : change_of rules had (listing_for lives ask) ask ≡ Append order = subst (λ (l : Life). change_of rules l (listing_for lives ask) ask ≡ Append order) (ap (named_life lives) named) is in
      (subst (Stays rules had (listing_for lives ask) d d ask) change (stays_all rules had (listing_for lives ask) d d (listing_for lives ask) ask)).2

  -- made again
  pub again : (now : Lives) → Acted made (life_of now id) → life_of (after_step rules now ask) id ≡ life_of now id
  again now acted = by made refl acted
    where
      opened_by : (order : Order) → made ≡ Append order → IsOnce once (life_of now id) → after_step rules now ask ≡ now
      opened_by order is (inl e) = opened_once rules lives now ask id order order.outcome named is (opened_well order is) (e ∙ once_is (Append order) is)
      opened_by order is (inr (outcome, s, e)) =
          opened_once rules lives now ask id order outcome named is (not_failed outcome order s)
          (e ∙ ap (with_last_ended outcome) (once_is (Append order) is) ∙ ended_push outcome had order)

      settled : life_of now id ≡ once → life_of (after_step rules now ask) id ≡ life_of now id
      settled e =
          one_life rules now (after_step rules lives ask) ask id named e
          ∙ ap (λ (l : Lives). life_of l id) (again_stays rules lives ask h) ∙ sym e

      by : (c : Change) → made ≡ c → Acted c (life_of now id) → life_of (after_step rules now ask) id ≡ life_of now id
      by (Append order) is acted = ap (λ (l : Lives). life_of l id) (opened_by order is acted)
      by Nothing is acted = settled acted
      by (Finish number outcome) is acted = settled acted

  -- its order is reported

  none_of : (now : Lives) (a : Report) (life : Life) → life_of now id ≡ life → IsLifeAfter [] life → length life ≡ length had → a.instance ≡ id → a.number ≡ next_number lives id → after_step rules now (the.Report a) ≡ now
  none_of now a life is ok long at number =
      quiet_report rules now a (
      ap (λ (i : List ℕ). order_numbered a.number (life_of now i)) at
      ∙ ap (λ (n : ℕ). order_numbered n (life_of now id)) number
      ∙ ap (order_numbered (length had + 1)) is
      ∙ none_numbered life (length had) ok long)

  pub reported_before : (now : Lives) (other : Ask) → ReportsSuccess id (next_number lives id) other → life_of now id ≡ had → life_of (after_step rules now other) id ≡ had
  reported_before now (the.Report a) (at, number, state) same =
      ap (λ (l : Lives). life_of l id) (none_of now a had same (life_at lives id h).orders refl at number) ∙ same
  reported_before now _ reports same = absurd reports

  pub reported_after : (now : Lives) (other : Ask) → ReportsSuccess id (next_number lives id) other → Acted made (life_of now id) → Acted made (life_of (after_step rules now other) id)
  reported_after now (the.Report a) (at, number, state) acted = by made refl acted
    where
      orders : IsLifeAfter [] had
      orders = (life_at lives id h).orders

      unmoved : (life : Life) → once ≡ life → IsLifeAfter [] life → length life ≡ length had → life_of now id ≡ once → life_of (after_step rules now (the.Report a)) id ≡ once
      unmoved life is ok long e = ap (λ (l : Lives). life_of l id) (none_of now a life (e ∙ is) ok long at number) ∙ e

      by : (c : Change) → made ≡ c → Acted c (life_of now id) → Acted c (life_of (after_step rules now (the.Report a)) id)
      by (Append order) is acted =
          let c = (answer_to rules now (the.Report a)).change in
          let well = report_ends_well a (order_numbered a.number (life_of now a.instance)) state in
          subst (IsOnce once) (sym (step_at rules now (the.Report a) id (ap Some at))) (succeeded_since once (life_of now id) c well acted)
      by Nothing is acted = unmoved had (once_is Nothing is) orders refl acted
      by (Finish number outcome) is acted = unmoved (with_last_ended outcome had) (once_is (Finish number outcome) is) (life_ended [] had outcome orders) (ended_length outcome had) acted
  reported_after now _ reports acted = absurd reports

  step_keeps : (now : Lives) (other : Ask) → ComesAgain rules ask id (next_number lives id) now other → Acted made (life_of now id) → Acted made (life_of (after_step rules now other) id)
  step_keeps now other (inl same) acted =
      subst (Acted made) (sym (ap (λ (a : Ask). life_of (after_step rules now a) id) same ∙ again now acted)) acted
  step_keeps now other (inr (inl reports)) acted = reported_after now other reports acted
  step_keeps now other (inr (inr stays)) acted = subst (Acted made) (sym stays) acted

  all_keep : (asks : List Ask) (now after : Lives) → AfterAsks rules (ComesAgain rules ask id (next_number lives id)) now asks after → Acted made (life_of now id) → Acted made (life_of after id)
  all_keep [] now after same acted = subst (λ (l : Lives). Acted made (life_of l id)) (sym same) acted
  all_keep (other ∷ asks) now after more acted = all_keep asks (after_step rules now other) after more.1 (step_keeps now other more.0 acted)

pub reported_once : (rules : Rules) (lives after : Lives) (ask : Ask) (id : List ℕ) (asks : List Ask) → IsLives lives → instance_id_of ask ≡ Some id →
    AfterAsks rules (ComesAgain rules ask id (next_number lives id)) (after_step rules lives ask) asks after → IsOnce (life_of (after_step rules lives ask) id) (life_of after id)
reported_once rules lives after ask id asks h named more =
    at_least rules lives ask id h named (answer_to rules lives ask).change (life_of after id)
    (all_keep rules lives ask id h named asks (after_step rules lives ask) after more (first rules lives ask id h named lives refl))
