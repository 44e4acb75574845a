-- What is asked again and again acts once, whichever connections carry it, and whatever else their requests have.
use Rattle.std.specs.Prelude.{◌≡◌, ◌⊎◌, ◌≤◌, ℕ, suc, ◌+◌, true, List, [], ◌∷◌, length, Some, Ok}
use Rattle.std.specs.List.{AllByRecursion}
use Rattle.osb_frames.specs.declared.limits.Limits.{Limits}
use Rattle.osb_frames.specs.Calls.{all_bytes}
use Rattle.osb_frames.specs.Cuts.{Message, whole, IsFront}
use Rattle.osb_catalog.specs.Rules.{Rules}
use Rattle.osb_asks.specs.declared.ask.Ask.{Ask}
use Rattle.osb_asks.specs.declared.ask.Ask.TheVariants as the
use Rattle.osb_asks.specs.declared.ask.Report.{Report}
use Rattle.osb_asks.specs.declared.ask.ReportState.TheVariants.{Failed}
use Rattle.osb_asks.specs.Asks.{ask_of}
use Rattle.osb_asks.specs.Subjects.{instance_id_of}
use Rattle.osb_orders.specs.Lives.{Lives, life_of}
use Rattle.osb_orders.specs.IsLife.{IsLives}
use Rattle.osb_machine.specs.Machine.{after_step}
use Rattle.osb_laws.specs.Reported.{ReportsSuccess, next_number, IsOnce}
use Rattle.osb_broker.specs.Exchanges.{Exchange, AreRuns, all_exchanges}
use Rattle.osb_broker.specs.Replied.{GotAnswer}
use Rattle.osb_broker.specs.Reported.{is_reading}

-- ---- what is asked

-- the first request of the bytes asks this, as method, path, query and body are read under these rules
pub record Asks (rules : Rules) (limits : Limits) (bytes : List ℕ) (ask : Ask) : Type 0 where
  pub q : Message
  pub n : ℕ
  pub front : IsFront limits bytes (whole q n)
  pub asks : ask_of rules q ≡ Ok ask

-- the exchange asks this
abbrev pub IsAskedIn : Rules → Limits → Ask → Exchange → Type 0
IsAskedIn rules limits ask x = Asks rules limits (all_bytes x.said.calls) ask

-- P of all that is asked of the instance
abbrev pub OfEachAsk : Rules → Limits → List ℕ → (Ask → Type 0) → List Exchange → Type 0
OfEachAsk rules limits id P exchanges = AllByRecursion (λ x. (ask : Ask) →
    IsAskedIn rules limits ask x → instance_id_of ask ≡ Some id → P ask) exchanges

-- one of those that asked this got an answer
abbrev pub SomeWasAnswered : Rules → Limits → Ask → List Exchange → Type 0
SomeWasAnswered rules limits ask [] = ⊥
SomeWasAnswered rules limits ask (x ∷ later) =
    (IsAskedIn rules limits ask x × GotAnswer x.said) ⊎ SomeWasAnswered rules limits ask later

-- ---- it acts once

-- the same again, a report that the order of that number succeeded, or a fetch or a poll
abbrev pub IsAgainOrBesideIt : List ℕ → ℕ → Ask → Ask → Type 0
IsAgainOrBesideIt id number ask other =
    (other ≡ ask) ⊎ (ReportsSuccess id number other ⊎ (is_reading other ≡ true))

-- What holds of an ask about an instance, which clients send again and again, on connections of any number of requests,
-- over stops and starts from well-formed lives. What else is asked of the instance reports that its order succeeded, or
-- only reads.
abbrev pub OfRepeatedAsk :
    (Rules → Limits → Lives → List Exchange → Ask → Lives → List ℕ → Type 0) → Type 0
OfRepeatedAsk Holds = (rules : Rules) (limits : Limits) (k : ℕ) (old : Lives)
    (runs : List (List Exchange)) (new : Lives) (id : List ℕ) (ask : Ask) →
    IsLives old → instance_id_of ask ≡ Some id → AreRuns rules limits k old runs new →
    OfEachAsk rules limits id (IsAgainOrBesideIt id (next_number old id) ask)
    (all_exchanges runs) →
    Holds rules limits old (all_exchanges runs) ask new id

-- where one of them got an answer, the instance's life is the one that the ask leaves, made once, but for the report
abbrev pub AskedAgainActsOnce : Type 0
AskedAgainActsOnce = OfRepeatedAsk (λ rules limits old exchanges ask new id.
    SomeWasAnswered rules limits ask exchanges →
    IsOnce (life_of (after_step rules old ask) id) (life_of new id))

-- in any case it is that one, or the one of before
abbrev pub AskedAgainActsAtMostOnce : Type 0
AskedAgainActsAtMostOnce = OfRepeatedAsk (λ rules limits old exchanges ask new id.
    (life_of new id ≡ life_of old id)
    ⊎ IsOnce (life_of (after_step rules old ask) id) (life_of new id))

-- ---- it opens one order, and one more for each failure that is reported

-- a report on an order of the instance, whatever it says
abbrev pub IsReportOf : List ℕ → Ask → Type 0
IsReportOf id other = (report : Report) × (other ≡ the.Report report) × (report.instance ≡ id)

-- it says that the order failed
abbrev pub ReportsFailure : List ℕ → Ask → Type 0
ReportsFailure id other =
    (report : Report) × (other ≡ the.Report report) × (report.instance ≡ id)
    × (report.state ≡ Failed)

-- the exchange reports a failure of the instance
abbrev pub IsFailureIn : Rules → Limits → List ℕ → Exchange → Type 0
IsFailureIn rules limits id x =
    (ask : Ask) × IsAskedIn rules limits ask x × ReportsFailure id ask

-- so many of the exchanges do
abbrev pub AreFailures : Rules → Limits → List ℕ → List Exchange → ℕ → Type 0
AreFailures rules limits id [] n = n ≡ 0
AreFailures rules limits id (x ∷ later) n =
    ((m : ℕ) × (n ≡ suc m) × IsFailureIn rules limits id x × AreFailures rules limits id later m)
    ⊎ ((IsFailureIn rules limits id x → ⊥) × AreFailures rules limits id later n)

-- the same again, a report on an order of the instance, or a fetch or a poll
abbrev pub IsAgainOrReport : List ℕ → Ask → Ask → Type 0
IsAgainOrReport id ask other = (other ≡ ask) ⊎ (IsReportOf id other ⊎ (is_reading other ≡ true))

-- the instance has at most one order more, and one for each failure that was reported
abbrev pub AskedAgainOpensOne : Type 0
AskedAgainOpensOne = (rules : Rules) (limits : Limits) (k : ℕ) (old : Lives)
    (runs : List (List Exchange)) (new : Lives) (id : List ℕ) (ask : Ask) (failures : ℕ) →
    instance_id_of ask ≡ Some id → AreRuns rules limits k old runs new →
    OfEachAsk rules limits id (IsAgainOrReport id ask) (all_exchanges runs) →
    AreFailures rules limits id (all_exchanges runs) failures →
    length (life_of new id) ≤ length (life_of old id) + 1 + failures
