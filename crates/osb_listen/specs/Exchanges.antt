-- What was said with the clients of an entrance, and where it leads.
use Rattle.std.specs.Prelude.{◌≡◌, ◌⊎◌, ◌<◌, ◌≤◌, ℕ, zero, suc, ◌+◌, ◌*◌, ◌++◌, cond, Bool, List, [], ◌∷◌, length, map, Result, Ok, Err}
use Rattle.sqlite.specs.State.{State, HasCleanDisk}
use Rattle.osb_frames.specs.declared.limits.Limits.{Limits}
use Rattle.osb_frames.specs.Calls.{Call, failure_count}
use Rattle.osb_catalog.specs.Rules.{Rules}
use Rattle.osb_orders.specs.Lives.{Lives}
use Rattle.osb_statements.specs.Steps.{stored}
use Rattle.osb_broker.specs.declared.fault.ServeFault.{ServeFault}
use Rattle.osb_broker.specs.declared.fault.ServeFault.TheVariants.{Read, Write}
use Rattle.osb_broker.specs.BrokerState.{LivesGo, Works}
use Rattle.osb_broker.specs.Conversations.{Conversation}
use Rattle.osb_broker.specs.Exchanges.{Exchange, AreExchanges}
use Rattle.osb_broker.specs.Crashes.{LeavesLives}
use Rattle.osb_listen.specs.declared.fault.ListenFault.{ListenFault}
use Rattle.osb_listen.specs.declared.fault.ListenFault.TheVariants.{CannotAccept, FileTaken}
use Rattle.osb_listen.specs.Lines.{line_of, SaysWithRefused}

-- which reads were made of a client, what it was sent, how many writes failed, and whether a
-- framing fault was met
abbrev pub conversation_of : List Call → List ℕ → ℕ → Bool → Conversation
conversation_of calls sent failed met_fault =
    record { calls = calls; sent = sent; failed = failed; met_fault = met_fault }

-- which client it was, how many of its requests were answered before, whether another may come, and
-- what was said since
abbrev pub exchange_of : ℕ → ℕ → Bool → List Call → List ℕ → ℕ → Bool → Exchange
exchange_of client before stays calls sent failed met_fault = record {
  client = client;
  before = before;
  stays = stays;
  said = conversation_of calls sent failed met_fault;
}

-- how serving ends where so many writes and so many reads failed
abbrev pub ended_by : ℕ → ℕ → Result (Unit {0}) ServeFault
ended_by zero zero = Ok tt
ended_by zero (suc reads) = Err Read
ended_by (suc writes) reads = Err Write

-- the line of each exchange, by how serving ended
abbrev pub lines_of : List Exchange → List (List ℕ)
lines_of exchanges =
    map (λ x. line_of (ended_by x.said.failed (failure_count x.said.calls))) exchanges

-- how many clients ended
abbrev pub ended_in : List Exchange → ℕ
ended_in [] = 0
ended_in (x ∷ later) = cond x.stays (ended_in later) (suc (ended_in later))

-- The exchanges lead from the lives of one state of the store to those of another. So they do to
-- the lives in whatever a crash leaves then.
pub record LeadTo (rules : Rules) (limits : Limits) (k : ℕ) (old new : State)
    (exchanges : List Exchange) : Type 0 where
  pub lives : (before after : Lives) → LivesGo old new before after →
      AreExchanges rules limits k before exchanges after
  pub left : Works old → HasCleanDisk new →
      LeavesLives new (λ t. AreExchanges rules limits k (stored old) exchanges t)

-- These exchanges are the journal's last, they lead from the lives of one state of the store to
-- those of another, and their lines were written on standard error, where requests that were
-- refused have lines too.
pub record Serves (rules : Rules) (limits : Limits) (k : ℕ) (exchanges : List Exchange)
    (old new : State) (journal_old journal_new : List Exchange) (said_old said_new : List ℕ)
    (failed_old failed_new : ℕ) : Type 0 where
  pub journal : journal_new ≡ journal_old ++ exchanges
  pub lead : LeadTo rules limits k old new exchanges
  pub lines : SaysWithRefused (lines_of exchanges) said_old said_new failed_old failed_new

-- the database file was missed once more where that is the fault, and otherwise it wasn't
abbrev pub MissesFile : {T : Type 0} → Result T ListenFault → ℕ → ℕ → Type 0
MissesFile (Err FileTaken) old new = new ≡ old + 1
MissesFile _ old new = new ≡ old

-- as many clients ended as were asked for, or as many requests were had as these may make
abbrev pub HasServedAll : ℕ → ℕ → List Exchange → Type 0
HasServedAll all k exchanges =
    (ended_in exchanges ≡ all)
    ⊎ ((ended_in exchanges < all) × (all * k ≤ length exchanges))

-- so it is without a fault; with one fewer ended, and before the first client there is no exchange
abbrev pub AreAsMany : Result (Unit {0}) ListenFault → ℕ → ℕ → List Exchange → Type 0
AreAsMany (Ok x) all k exchanges = HasServedAll all k exchanges
AreAsMany (Err CannotAccept) all k exchanges = ended_in exchanges < all
AreAsMany (Err FileTaken) all k exchanges = ended_in exchanges < all
AreAsMany (Err _) all k exchanges = exchanges ≡ []
