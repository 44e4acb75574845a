-- A request that is made until it is answered acts once, also where the backend reports its order in between.
use Rattle.std.specs.Prelude.{ℕ, ◌≡◌, ◌⊎◌, ◌&&◌, Bool, true, false, List, Ok, bytes_eq}
use Rattle.std.specs.List.{list_any, AllByRecursion}
use Rattle.osb_frames.specs.declared.limits.Limits.{Limits}
use Rattle.osb_frames.specs.Cuts.{Message, whole, IsFront}
use Rattle.osb_catalog.specs.Rules.{Rules}
use Rattle.osb_asks.specs.declared.ask.Ask.{Ask}
use Rattle.osb_asks.specs.declared.ask.Ask.TheVariants as the
use Rattle.osb_asks.specs.Asks.{ask_of}
use Rattle.osb_orders.specs.Lives.{Lives, life_of}
use Rattle.osb_orders.specs.IsLife.{IsLives}
use Rattle.osb_laws.specs.Reported.{ReportsSuccess, next_number, IsOnce}
use Rattle.osb_broker.specs.Steps.{lives_after}
use Rattle.osb_broker.specs.Apart.{AsksOf}
use Rattle.osb_broker.specs.Attempts.{Attempt, is_answered}
use Rattle.osb_broker.specs.Histories.{Carrying, History, Picks}
use Rattle.osb_broker.specs.ActsOnce.{Carried}

-- ---- what may come in between

-- the first request of the bytes reports that the order of that number, of the instance, succeeded
pub record Reports (rules : Rules) (limits : Limits) (id : List ℕ) (number : ℕ)
    (bytes : List ℕ) : Type 0 where
  pub q : Message
  pub n : ℕ
  pub ask : Ask
  pub front : IsFront limits bytes (whole q n)
  pub asks : ask_of rules q ≡ Ok ask
  pub reports : ReportsSuccess id number ask

-- an ask that only reads: a fetch or a poll
abbrev pub is_reading : Ask → Bool
is_reading (the.Fetch ask) = true
is_reading (the.InstanceOp ask) = true
is_reading (the.FetchBinding ask) = true
is_reading (the.BindingOp ask) = true
is_reading _ = false

-- the first request of the bytes only reads
pub record Reads (rules : Rules) (limits : Limits) (bytes : List ℕ) : Type 0 where
  pub q : Message
  pub n : ℕ
  pub ask : Ask
  pub front : IsFront limits bytes (whole q n)
  pub asks : ask_of rules q ≡ Ok ask
  pub reads : is_reading ask ≡ true

-- the same request again, a report that the order of that number succeeded, or a fetch or a poll
abbrev pub IsAgainOrBeside : Rules → Limits → List ℕ → ℕ → List ℕ → List ℕ → Type 0
IsAgainOrBeside rules limits id number bytes other =
    (other ≡ bytes) ⊎ (Reports rules limits id number other ⊎ Reads rules limits other)

-- Bytes are carried out that, where they ask something of the instance, are the request again, or report that the order
-- of that number succeeded, or leave the instance its life.
abbrev pub CarriedBeside : Rules → Limits → List ℕ → ℕ → List ℕ → Carrying Lives
CarriedBeside rules limits id number bytes lives other texts after =
    Carried rules limits lives other texts after
    × (AsksOf rules limits id other → (other ≡ bytes)
    ⊎ (Reports rules limits id number other ⊎ (life_of after id ≡ life_of lives id)))

-- ---- what the request leaves

-- the request was answered at least once
abbrev pub request_was_answered : List ℕ → List Attempt → Bool
request_was_answered bytes attempts =
    list_any (λ attempt. bytes_eq attempt.bytes bytes && is_answered attempt) attempts

-- where the request was answered, the instance's life is the one that it leaves, made once, but for the report
abbrev pub LeavesOnce : Rules → Lives → List Attempt → List ℕ → Message → Lives → List ℕ → Type 0
LeavesOnce rules lives attempts bytes q after id =
    request_was_answered bytes attempts ≡ true →
    IsOnce (life_of (lives_after rules lives q) id) (life_of after id)

-- in any case it is that one, or the one of before
abbrev pub LeavesAtMostOnce :
    Rules → Lives → List Attempt → List ℕ → Message → Lives → List ℕ → Type 0
LeavesAtMostOnce rules lives attempts bytes q after id =
    (life_of after id ≡ life_of lives id)
    ⊎ IsOnce (life_of (lives_after rules lives q) id) (life_of after id)

-- ---- by what the requests in between do

-- What holds of attempts from well-formed lives of which those that ask something of an instance are one request, made
-- again and again, reports that the order succeeded that it opened, and whatever leaves the instance its life.
abbrev pub OfRequestBeside :
    (Rules → Lives → List Attempt → List ℕ → Message → Lives → List ℕ → Type 0) → Type 0
OfRequestBeside Holds = (rules : Rules) (limits : Limits)
    (lives : Lives) (attempts : List Attempt) (after : Lives) (id bytes : List ℕ) →
    IsLives lives → (asked : AsksOf rules limits id bytes) →
    History (CarriedBeside rules limits id (next_number lives id) bytes) lives attempts after →
    Holds rules lives attempts bytes asked.q after id

abbrev pub RequestsActOnceBeside : Type 0
RequestsActOnceBeside = OfRequestBeside LeavesOnce

abbrev pub RequestsActAtMostOnceBeside : Type 0
RequestsActAtMostOnceBeside = OfRequestBeside LeavesAtMostOnce

-- ---- by what they are

-- one request is made again and again, the order that it opened is reported as succeeded, and it is fetched and polled
abbrev pub AreOfOneAndReports : Rules → Limits → List ℕ → ℕ → List ℕ → List Attempt → Type 0
AreOfOneAndReports rules limits id number bytes attempts =
    AllByRecursion (λ attempt. IsAgainOrBeside rules limits id number bytes attempt.bytes) attempts

-- what holds of attempts from well-formed lives of which those that ask something of an instance are such
abbrev pub OfReportedRequest :
    (Rules → Lives → List Attempt → List ℕ → Message → Lives → List ℕ → Type 0) → Type 0
OfReportedRequest Holds = (rules : Rules) (limits : Limits)
    (lives : Lives) (attempts own : List Attempt) (after : Lives) (id bytes : List ℕ) →
    IsLives lives → (asked : AsksOf rules limits id bytes) →
    History (Carried rules limits) lives attempts after →
    Picks (AsksOf rules limits id) attempts own →
    AreOfOneAndReports rules limits id (next_number lives id) bytes own →
    Holds rules lives attempts bytes asked.q after id

abbrev pub ReportedRequestsActOnce : Type 0
ReportedRequestsActOnce = OfReportedRequest LeavesOnce

abbrev pub ReportedRequestsActAtMostOnce : Type 0
ReportedRequestsActAtMostOnce = OfReportedRequest LeavesAtMostOnce
