-- An ask that is made again and again acts once, also where its order is reported in between.
use Rattle.std.specs.Prelude.{ℕ, ◌≡◌, ◌⊎◌, ◌+◌, List, [], ◌∷◌, length, Some}
use Rattle.osb_catalog.specs.Rules.{Rules}
use Rattle.osb_asks.specs.declared.ask.Ask.{Ask}
use Rattle.osb_asks.specs.declared.ask.Ask.TheVariants as the
use Rattle.osb_asks.specs.declared.ask.ReportState.TheVariants as said
use Rattle.osb_orders.specs.declared.order.Outcome.{Outcome}
use Rattle.osb_orders.specs.declared.order.OrderState.TheVariants.{Succeeded}
use Rattle.osb_orders.specs.Life.{Life}
use Rattle.osb_orders.specs.Lives.{Lives, life_of}
use Rattle.osb_orders.specs.Changed.{with_last_ended}
use Rattle.osb_asks.specs.Subjects.{instance_id_of}
use Rattle.osb_orders.specs.IsLife.{IsLives}
use Rattle.osb_machine.specs.Machine.{after_step}

-- the number of the order that an ask of the instance would open
abbrev pub next_number : Lives → List ℕ → ℕ
next_number lives id = length (life_of lives id) + 1

-- a report that the order of that number, of the instance, succeeded
abbrev pub ReportsSuccess : List ℕ → ℕ → Ask → Type 0
ReportsSuccess id number (the.Report ask) =
    (ask.instance ≡ id) × (ask.number ≡ number) × (ask.state ≡ said.Succeeded)
ReportsSuccess id number _ = ⊥

-- a life that was left once: that one, or the same with its last order succeeded
abbrev pub IsOnce : Life → Life → Type 0
IsOnce once life =
    (life ≡ once)
    ⊎ ((outcome : Outcome) × (outcome.state ≡ Succeeded) × (life ≡ with_last_ended outcome once))

-- the ask again, a report that the order succeeded, or whatever leaves the life of the instance
abbrev pub ComesAgain : Rules → Ask → List ℕ → ℕ → Lives → Ask → Type 0
ComesAgain rules ask id number lives other =
    (other ≡ ask)
    ⊎ (ReportsSuccess id number other
    ⊎ (life_of (after_step rules lives other) id ≡ life_of lives id))

-- such asks, one after the other
abbrev pub AfterAsks : Rules → (Lives → Ask → Type 0) → Lives → List Ask → Lives → Type 0
AfterAsks rules Such lives [] after = after ≡ lives
AfterAsks rules Such lives (ask ∷ asks) after =
    Such lives ask × AfterAsks rules Such (after_step rules lives ask) asks after

-- An ask is made, and made again and again, its order is reported as succeeded, and other things happen that leave the
-- life of the instance: this is the life that the ask left, made once, and at most its order has succeeded since.
abbrev pub ReportedOnce : Type 0
ReportedOnce = (rules : Rules) (lives after : Lives) (ask : Ask) (id : List ℕ) (asks : List Ask) →
    IsLives lives → instance_id_of ask ≡ Some id →
    let once = after_step rules lives ask in
    AfterAsks rules (ComesAgain rules ask id (next_number lives id)) once asks after →
    IsOnce (life_of once id) (life_of after id)
