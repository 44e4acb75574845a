-- That the orders of each instance follow each other, trimmed and after each step.
use Rattle.std.proofs.Common.{ℕ, List, [], ◌∷◌, ◌++◌, Option, None, Some, sym, subst}
use Rattle.std.specs.Prelude.{unwrap_or}
use Rattle.std.specs.Ordering.{nat_cmp, eq_by_cmp}
use Rattle.std.specs.Cmp.Lexicographic.{slice_cmp, nat_list_cmp_total}
use Rattle.std.specs.FinMap.{get, get-insert, insert}
use Rattle.osb_catalog.specs.Rules.{Rules}
use Rattle.osb_asks.specs.declared.ask.Ask.{Ask}
use Rattle.osb_orders.specs.declared.order.Change.{Change}
use Rattle.osb_orders.specs.declared.order.Change.TheVariants.{Nothing, Append, Finish}
use Rattle.osb_orders.specs.Life.{Life}
use Rattle.osb_orders.specs.Lives.{Lives, life_of, named_life}
use Rattle.osb_asks.specs.Subjects.{instance_id_of}
use Rattle.osb_orders.specs.Listing.{listing_for}
use Rattle.osb_orders.specs.Changed.{with_last_ended, changed, after_change}
use Rattle.osb_orders.specs.IsLife.{IsLifeAfter, IsLives}
use Rattle.osb_orders.proofs.GrowLemmas.{choose}
use Rattle.osb_machine.specs.Machine.{answer_to, after_step}
use Rattle.osb_laws.proofs.LifeLemmas.{life_push, life_ended}
use Rattle.osb_laws.proofs.StepLemmas.{IsStep, steps_allowed}
use Rattle.osb_laws.proofs.MapLemmas.{life_at}
use Rattle.osb_trim.specs.Trimmed.{trimmed_lives}
use Rattle.osb_trim.proofs.WholeLemmas.{orders-trimmed}
use Rattle.osb_trim.proofs.LivesLemmas.{life_of-trimmed}

-- the orders of each instance follow each other
abbrev pub AreInOrder : Lives → Type 0
AreInOrder lives = (id : List ℕ) → IsLifeAfter [] (life_of lives id)

pub in_order : (lives : Lives) → IsLives lives → AreInOrder lives
in_order lives h id = (life_at lives id h).orders

pub in_order-trimmed : (lives : Lives) → AreInOrder lives → AreInOrder (trimmed_lives lives)
in_order-trimmed lives h id = subst (IsLifeAfter []) (sym (life_of-trimmed lives id)) (orders-trimmed (life_of lives id) (h id))

named_in_order : (lives : Lives) (at : Option (List ℕ)) → AreInOrder lives → IsLifeAfter [] (named_life lives at)
named_in_order lives None h = tt
named_in_order lives (Some id) h = h id

pub allowed : (rules : Rules) (lives : Lives) (ask : Ask) → AreInOrder lives → IsStep rules (named_life lives (instance_id_of ask)) (answer_to rules lives ask).change
allowed rules lives ask h = steps_allowed rules (named_life lives (instance_id_of ask)) (listing_for lives ask) ask (named_in_order lives (instance_id_of ask) h)

module _ (rules : Rules) (lives : Lives) where
  life_in_order : (life : Life) (change : Change) → IsLifeAfter [] life → IsStep rules life change → IsLifeAfter [] (changed change life)
  life_in_order life Nothing h step = h
  life_in_order life (Append order) h step = life_push [] life order h step.0
  life_in_order life (Finish number outcome) h step = life_ended [] life outcome h

  insert_in_order : (at : List ℕ) (life : Life) → AreInOrder lives → IsLifeAfter [] life → AreInOrder (insert lives at life)
  insert_in_order at life h new id =
      let Found : Option Life → Type 0 = λ found. IsLifeAfter [] (unwrap_or found []) in
      subst Found (sym (get-insert nat_list_cmp_total lives at life id))
      (choose Found (eq_by_cmp (slice_cmp nat_cmp) id at) (Some life) (get lives id) (λ _. new) (λ _. h id))

  change_in_order : (change : Change) (at : Option (List ℕ)) → AreInOrder lives → IsStep rules (named_life lives at) change → AreInOrder (after_change change lives at)
  change_in_order change None h step = h
  change_in_order Nothing (Some id) h step = h
  change_in_order (Append order) (Some id) h step = insert_in_order id (life_of lives id ++ order ∷ []) h (life_in_order (life_of lives id) (Append order) (h id) step)
  change_in_order (Finish number outcome) (Some id) h step = insert_in_order id (with_last_ended outcome (life_of lives id)) h (life_in_order (life_of lives id) (Finish number outcome) (h id) step)

  pub step_in_order : (ask : Ask) → AreInOrder lives → AreInOrder (after_step rules lives ask)
  step_in_order ask h = change_in_order (answer_to rules lives ask).change (instance_id_of ask) h (allowed rules lives ask h)
