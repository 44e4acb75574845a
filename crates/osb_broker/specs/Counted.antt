-- A request that is made again and again opens at most one order, and one more for each failure that is reported.
use Rattle.std.specs.Prelude.{ℕ, ◌≡◌, ◌≤◌, ◌⊎◌, ◌+◌, List, Ok, length}
use Rattle.osb_frames.specs.declared.limits.Limits.{Limits}
use Rattle.osb_frames.specs.Cuts.{Message, whole, IsFront}
use Rattle.osb_catalog.specs.Rules.{Rules}
use Rattle.osb_asks.specs.declared.ask.Report.{Report}
use Rattle.osb_asks.specs.declared.ask.ReportState.TheVariants.{Failed}
use Rattle.osb_asks.specs.declared.ask.Ask.TheVariants as the
use Rattle.osb_asks.specs.Asks.{ask_of}
use Rattle.osb_orders.specs.Lives.{Lives, life_of}
use Rattle.osb_broker.specs.Apart.{AsksOf}
use Rattle.osb_broker.specs.Attempts.{Attempt}
use Rattle.osb_broker.specs.Histories.{Carrying, History, Picks}
use Rattle.osb_broker.specs.ActsOnce.{Carried}

-- the first request of the bytes reports an order of the instance
pub record IsReport (rules : Rules) (limits : Limits) (id bytes : List ℕ) : Type 0 where
  pub q : Message
  pub n : ℕ
  pub report : Report
  pub front : IsFront limits bytes (whole q n)
  pub asks : ask_of rules q ≡ Ok (the.Report report)
  pub names : report.instance ≡ id

-- it reports that the order failed
pub record IsFailure (rules : Rules) (limits : Limits) (id bytes : List ℕ) : Type 0 where
  pub is : IsReport rules limits id bytes
  pub failed : is.report.state ≡ Failed

-- Bytes are carried out that, where they ask something of the instance, are the request again, or a report, or leave
-- the instance its life.
abbrev pub CarriedWithReports : Rules → Limits → List ℕ → List ℕ → Carrying Lives
CarriedWithReports rules limits id bytes lives other texts after =
    Carried rules limits lives other texts after
    × (AsksOf rules limits id other → (other ≡ bytes)
    ⊎ (IsReport rules limits id other ⊎ (life_of after id ≡ life_of lives id)))

-- the instance has at most one order more, and one for each of the attempts that report a failure
abbrev pub RequestsOpenOne : Type 0
RequestsOpenOne = (rules : Rules) (limits : Limits)
    (lives : Lives) (attempts failures : List Attempt) (after : Lives) (id bytes : List ℕ) →
    AsksOf rules limits id bytes →
    History (CarriedWithReports rules limits id bytes) lives attempts after →
    Picks (IsFailure rules limits id) attempts failures →
    length (life_of after id) ≤ length (life_of lives id) + 1 + length failures
