-- Instances that are spread over several brokers, each with lives of its own.
use Rattle.std.specs.Prelude.{ℕ, ◌≡◌, ◌⊎◌, ◌==◌, Bool, true, false, not, ◌||◌, List, [], ◌∷◌, map, length, Option, Some, None, Result, Ok, Err}
use Rattle.std.specs.List.{AllByRecursion}
use Rattle.osb_frames.specs.declared.limits.Limits.{Limits}
use Rattle.osb_frames.specs.Calls.{Call}
use Rattle.osb_frames.specs.Cuts.{Message, Front, whole, IsFront}
use Rattle.osb_catalog.specs.Rules.{Rules}
use Rattle.osb_asks.specs.declared.ask.Ask.{Ask}
use Rattle.osb_asks.specs.declared.ask_fault.AskFault.{AskFault}
use Rattle.osb_asks.specs.Asks.{ask_of}
use Rattle.osb_orders.specs.Lives.{Lives, life_of}
use Rattle.osb_asks.specs.Subjects.{instance_id_of}
use Rattle.osb_broker.specs.Steps.{needs_lives}
use Rattle.osb_broker.specs.Connection.{Run}
use Rattle.osb_broker.specs.Serving.{EndsWith, OfConnection}
use Rattle.osb_broker.specs.Resend.{refusing}
use Rattle.osb_broker.specs.Apart.{picked}
use Rattle.osb_broker.specs.Attempts.{Attempt, connections_of}
use Rattle.osb_broker.specs.Histories.{History}
use Rattle.osb_broker.specs.ActsOnce.{Carried}
use Rattle.osb_broker.specs.Exchanges.{Exchange, AreExchanges}

-- ---- what one broker is sent

-- one of these instances is named
abbrev pub names_one : (List ℕ → Bool) → Option (List ℕ) → Bool
names_one has None = false
names_one has (Some id) = has id

-- it asks something of one of these instances
abbrev pub asks_here : (List ℕ → Bool) → Result Ask AskFault → Bool
asks_here has (Ok ask) = names_one has (instance_id_of ask)
asks_here has (Err fault) = false

-- A broker of these instances answers it as one of all does: it asks something of one of them, or needs no lives. The
-- backend's listing, which is of all instances, is neither.
abbrev pub is_answerable : (List ℕ → Bool) → Result Ask AskFault → Bool
is_answerable has asked = not (needs_lives asked) || asks_here has asked

-- the first request of the bytes, if there is one, is such
abbrev pub FirstIs : Rules → Limits → (Result Ask AskFault → Bool) → List ℕ → Type 0
FirstIs rules limits such bytes =
    (q : Message) (n : ℕ) → IsFront limits bytes (whole q n) → such (ask_of rules q) ≡ true

-- of the connections a broker of these instances is sent some: it can answer each, and the others ask nothing of its
-- instances
abbrev pub Sends : Rules → Limits → (List ℕ → Bool) → List Bool → List (List ℕ) → Type 0
Sends rules limits has [] [] = Unit {0}
Sends rules limits has (true ∷ sent) (bytes ∷ connections) =
    FirstIs rules limits (is_answerable has) bytes × Sends rules limits has sent connections
Sends rules limits has (false ∷ sent) (bytes ∷ connections) =
    FirstIs rules limits (λ asked. not (asks_here has asked)) bytes
    × Sends rules limits has sent connections
Sends rules limits has [] (bytes ∷ connections) = ⊥
Sends rules limits has (c ∷ sent) [] = ⊥

-- each of these instances has the same life in both
abbrev pub HaveSame : (List ℕ → Bool) → Lives → Lives → Type 0
HaveSame has lives others = (id : List ℕ) → has id ≡ true → life_of lives id ≡ life_of others id

-- the connections that are chosen are a run, with their marks and texts
abbrev pub PickedRun : Rules → Limits → (Message → Bool) → List Bool → Lives →
    List (List ℕ) → List (List Bool) → List (List (List ℕ)) → Lives → Type 0
PickedRun rules limits takes chosen lives connections marks texts after =
    Run (refusing takes rules) limits 1 lives
    (picked chosen connections) (picked chosen marks) (picked chosen texts) after

-- those that are sent have the same texts from other lives, and leave these instances the same lives
pub record ServedApart (rules : Rules) (limits : Limits) (takes : Message → Bool)
    (has : List ℕ → Bool) (sent : List Bool) (others : Lives) (connections : List (List ℕ))
    (marks : List (List Bool)) (texts : List (List (List ℕ))) (after : Lives) : Type 0 where
  pub alone : Lives
  pub is : PickedRun rules limits takes sent others connections marks texts alone
  pub same : HaveSame has after alone

-- A run of all connections is, for the instances of one broker, the run of only those that it is sent, from any
-- lives in which its instances have theirs.
abbrev pub ShardsAreApart : Type 0
ShardsAreApart = (rules : Rules) (limits : Limits) (takes : Message → Bool) (has : List ℕ → Bool)
    (sent : List Bool) (lives others : Lives) (connections : List (List ℕ))
    (marks : List (List Bool)) (texts : List (List (List ℕ))) (after : Lives) →
    Run (refusing takes rules) limits 1 lives connections marks texts after →
    Sends rules limits has sent connections → HaveSame has lives others →
    ServedApart rules limits takes has sent others connections marks texts after

-- a broker that is sent only what it can answer leaves the instances that aren't its own
abbrev pub ShardsKeepOut : Type 0
ShardsKeepOut = (rules : Rules) (limits : Limits) (takes : Message → Bool) (has : List ℕ → Bool)
    (lives : Lives) (connections : List (List ℕ)) (marks : List (List Bool))
    (texts : List (List (List ℕ))) (after : Lives) (id : List ℕ) →
    Run (refusing takes rules) limits 1 lives connections marks texts after →
    AllByRecursion (FirstIs rules limits (is_answerable has)) connections →
    has id ≡ false → life_of after id ≡ life_of lives id

-- each connection that isn't kept names no instance
abbrev pub LeavesOut : Rules → Limits → List Bool → List (List ℕ) → Type 0
LeavesOut rules limits [] [] = Unit {0}
LeavesOut rules limits (true ∷ kept) (bytes ∷ connections) = LeavesOut rules limits kept connections
LeavesOut rules limits (false ∷ kept) (bytes ∷ connections) =
    FirstIs rules limits (λ asked. not (asks_here (λ id. true) asked)) bytes
    × LeavesOut rules limits kept connections
LeavesOut rules limits [] (bytes ∷ connections) = ⊥
LeavesOut rules limits (c ∷ kept) [] = ⊥

-- such a connection may be left out of a run, as the backend's listings: it changes nothing
abbrev pub UnnamedMayBeLeftOut : Type 0
UnnamedMayBeLeftOut = (rules : Rules) (limits : Limits) (takes : Message → Bool) (kept : List Bool)
    (lives : Lives) (connections : List (List ℕ)) (marks : List (List Bool))
    (texts : List (List (List ℕ))) (after : Lives) →
    Run (refusing takes rules) limits 1 lives connections marks texts after →
    LeavesOut rules limits kept connections →
    PickedRun rules limits takes kept lives connections marks texts after

-- ---- several of them are one

-- the instances of one broker, by the broker that each instance has
abbrev pub is_at : (List ℕ → ℕ) → ℕ → List ℕ → Bool
is_at shard n id = shard id == n

-- each connection goes to the broker of the instance of which it asks something, or to any if it needs no lives
abbrev pub Routes : Rules → Limits → (List ℕ → ℕ) → List ℕ → List (List ℕ) → Type 0
Routes rules limits shard [] [] = Unit {0}
Routes rules limits shard (n ∷ at) (bytes ∷ connections) =
    FirstIs rules limits (is_answerable (is_at shard n)) bytes
    × Routes rules limits shard at connections
Routes rules limits shard [] (bytes ∷ connections) = ⊥
Routes rules limits shard (n ∷ at) [] = ⊥

-- those that went to the broker
abbrev pub went_to : ℕ → List ℕ → List Bool
went_to n at = map (λ m. m == n) at

-- each instance has the life that its broker has for it
abbrev pub AreOfShards : (List ℕ → ℕ) → (ℕ → Lives) → Lives → Type 0
AreOfShards shard each lives = (id : List ℕ) → life_of lives id ≡ life_of (each (shard id)) id

-- Brokers that each serve what they are sent are together one broker that serves all, in any order in which each has
-- its own: with the same texts, and each instance has the life that its broker leaves.
abbrev pub ShardsAreOne : Type 0
ShardsAreOne = (rules : Rules) (limits : Limits) (takes : Message → Bool) (shard : List ℕ → ℕ)
    (before after : ℕ → Lives) (lives : Lives) (at : List ℕ) (connections : List (List ℕ))
    (marks : List (List Bool)) (texts : List (List (List ℕ))) →
    length marks ≡ length connections → length texts ≡ length connections →
    Routes rules limits shard at connections →
    ((n : ℕ) →
    PickedRun rules limits takes (went_to n at) (before n) connections marks texts (after n)) →
    AreOfShards shard before lives →
    (all : Lives) × Run (refusing takes rules) limits 1 lives connections marks texts all
    × AreOfShards shard after all

-- the same of attempts, where each broker stops and starts when it does
abbrev pub HistoriesAreOne : Type 0
HistoriesAreOne = (rules : Rules) (limits : Limits) (shard : List ℕ → ℕ)
    (before after : ℕ → Lives) (lives : Lives) (at : List ℕ) (attempts : List Attempt) →
    Routes rules limits shard at (connections_of attempts) →
    ((n : ℕ) →
    History (Carried rules limits) (before n) (picked (went_to n at) attempts) (after n)) →
    AreOfShards shard before lives →
    (all : Lives) × History (Carried rules limits) lives attempts all × AreOfShards shard after all

-- ---- exchanges with clients

-- what is first asks something such, if it is a request
abbrev pub asks_such : Rules → (Result Ask AskFault → Bool) → Front → Bool
asks_such rules such (whole q n) = such (ask_of rules q)
asks_such rules such _ = true

-- The client's request is such, if it made one: what is first in its bytes is known, whatever follows those that were
-- read, or as it ended there; or a read failed.
abbrev pub RequestIs : Rules → Limits → (Result Ask AskFault → Bool) → List Call → Type 0
RequestIs rules limits such calls =
    ((front : Front) × OfConnection (λ bytes. IsFront limits bytes front) calls
    × (asks_such rules such front ≡ true))
    ⊎ EndsWith None calls

-- each exchange is with the broker of the instance of which it asks something, or with any if it needs no lives
abbrev pub RoutesExchanges : Rules → Limits → (List ℕ → ℕ) → List ℕ → List Exchange → Type 0
RoutesExchanges rules limits shard [] [] = Unit {0}
RoutesExchanges rules limits shard (n ∷ at) (x ∷ later) =
    RequestIs rules limits (is_answerable (is_at shard n)) x.said.calls
    × RoutesExchanges rules limits shard at later
RoutesExchanges rules limits shard [] (x ∷ later) = ⊥
RoutesExchanges rules limits shard (n ∷ at) [] = ⊥

-- Exchanges with several brokers are exchanges with one, in any order in which each broker has its own. Each of them
-- stops and starts when it does.
abbrev pub ExchangesAreOne : Type 0
ExchangesAreOne = (rules : Rules) (limits : Limits) (k : ℕ) (shard : List ℕ → ℕ)
    (before after : ℕ → Lives) (lives : Lives) (at : List ℕ) (exchanges : List Exchange) →
    RoutesExchanges rules limits shard at exchanges →
    ((n : ℕ) →
    AreExchanges rules limits k (before n) (picked (went_to n at) exchanges) (after n)) →
    AreOfShards shard before lives →
    (all : Lives) × AreExchanges rules limits k lives exchanges all × AreOfShards shard after all
