-- Connections of one request that are begun one after the other, and ended together.
use Rattle.std.specs.Prelude.{◌≡◌, ◌⊎◌, ℕ, ◌<◌, ◌≤◌, ◌+◌, Bool, false, List, [], ◌∷◌, ◌++◌, length, Result, Ok, Err}
use Rattle.osb_frames.specs.declared.limits.Limits.{Limits}
use Rattle.osb_frames.specs.Calls.{Call, all_bytes}
use Rattle.osb_frames.specs.Cuts.{Message, closes, whole, IsFront}
use Rattle.osb_replies.specs.declared.write.WriteFault.{WriteFault}
use Rattle.osb_replies.specs.Text.{reply_text}
use Rattle.osb_catalog.specs.Rules.{Rules}
use Rattle.osb_asks.specs.Asks.{ask_of, is_early}
use Rattle.osb_orders.specs.Lives.{Lives}
use Rattle.osb_broker.specs.declared.begun.Begun.{Begun}
use Rattle.osb_broker.specs.declared.begun.Begun.TheVariants as begun
use Rattle.osb_broker.specs.declared.fault.ServeFault.{ServeFault}
use Rattle.osb_broker.specs.declared.fault.ServeFault.TheVariants.{Write}
use Rattle.osb_broker.specs.Conversations.{AreConversations, Conversation}
use Rattle.osb_broker.specs.Crashes.{EndsAsOrLost, RunOrLost}
use Rattle.osb_broker.specs.Machine.{reply_of}
use Rattle.osb_broker.specs.Serving.{EachGaveBytes, EachWasNeeded, EndsAs, ReadsOf, WritesText}
use Rattle.osb_broker.specs.Steps.{capped, machine}

-- A client's request waits: its bytes, which are all that was read, begin with it.
pub record IsWaiting (rules : Rules) (limits : Limits) (calls : List Call)
    (bytes : List ℕ) : Type 0 where
  pub reads : ReadsOf (Ok tt) calls
  pub are : bytes ≡ all_bytes calls
  pub q : Message
  pub n : ℕ
  pub front : (more : List ℕ) → IsFront limits (bytes ++ more) (whole q n)
  pub inside : n ≤ length bytes
  pub late : is_early (ask_of rules q) ≡ false

-- The client was sent this text, or its first bytes, where a write failed then.
pub record SentText (text : List ℕ) (conversation : Conversation) : Type 0 where
  pub result : Result (Unit {0}) WriteFault
  pub writes : WritesText [] 0 conversation.sent conversation.failed result text
  pub no_fault : conversation.met_fault ≡ false

-- the requests of these clients waited, and each was sent its text
abbrev pub WereAnswered : Rules → Limits → List (List ℕ) → List (List ℕ) → List Conversation →
    Type 0
WereAnswered rules limits [] [] [] = Unit {0}
WereAnswered rules limits (bytes ∷ connections) (text ∷ texts) (conversation ∷ conversations) =
    EachWasNeeded limits 1 (limits.head + limits.body) conversation.calls
    × IsWaiting rules limits conversation.calls bytes × SentText text conversation
    × WereAnswered rules limits connections texts conversations
WereAnswered rules limits _ _ _ = ⊥

-- Clients whose requests waited, and that were sent the outputs of `answer_waiting`, were served one after the other.
abbrev pub GroupsAreConversations : Type 0
GroupsAreConversations =
    (rules : Rules) (limits : Limits) (old new : Lives) (connections texts : List (List ℕ))
    (conversations : List Conversation) →
    WereAnswered rules limits connections texts conversations →
    RunOrLost (capped rules) limits 1 old connections texts new →
    AreConversations rules limits 1 old conversations new

-- ---- where more than one request may come

-- Of so many requests that may come one was answered, and another may come behind it. What was read
-- is exactly it. Its text, which names no close, was written, or where a write failed its first
-- bytes.
pub record AnswersOpen (rules : Rules) (limits : Limits) (left : ℕ) (old : Lives)
    (calls : List Call) (base : List ℕ) (before : ℕ) (now : List ℕ) (after : ℕ)
    (result : Result (Unit {0}) WriteFault) (new : Lives) : Type 0 where
  pub some : 1 < left
  pub q : Message
  pub exact : (more : List ℕ) →
      IsFront limits (all_bytes calls ++ more) (whole q (length (all_bytes calls)))
  pub goes_on : closes q ≡ false
  pub gave_bytes : EachGaveBytes calls
  pub wrote : WritesText base before now after result
      (reply_text (reply_of q false ((machine rules).step old q).0))
  pub leaves : new ≡ ((machine rules).step old q).1

-- a write failed inside the reply to such a request
abbrev pub BreaksOpen : Result (Unit {0}) ServeFault → Rules → Limits → ℕ → Lives → List Call →
    Bool → List ℕ → ℕ → List ℕ → ℕ → Lives → Type 0
BreaksOpen ended rules limits left old calls met_fault base before now after new =
    (ended ≡ Err Write) × (met_fault ≡ false) × (fault : WriteFault)
    × AnswersOpen rules limits left old calls base before now after (Err fault) new

-- Serving ended as on a connection on which this was the last request that might come, or inside
-- the reply to one behind which another might.
abbrev pub EndsOrBreaks : Result (Unit {0}) ServeFault → Rules → Limits → ℕ → Lives → List Call →
    Bool → List ℕ → ℕ → List ℕ → ℕ → Lives → Type 0
EndsOrBreaks ended rules limits left old calls met_fault base before now after new =
    EndsAs ended (machine rules) limits 1 old calls met_fault base now new
    ⊎ BreaksOpen ended rules limits left old calls met_fault base before now after new

-- the same, or the answer was lost
abbrev pub EndsOrBreaksOrLost : Result (Unit {0}) ServeFault → Rules → Limits → ℕ → Lives →
    List Call → Bool → List ℕ → ℕ → List ℕ → ℕ → Lives → Type 0
EndsOrBreaksOrLost ended rules limits left old calls met_fault base before now after new =
    EndsAsOrLost ended (machine rules) limits 1 old calls met_fault base now new
    ⊎ BreaksOpen ended rules limits left old calls met_fault base before now after new

-- the request that waits is all that was read, and another may come behind it
pub record MayStay (rules : Rules) (limits : Limits) (left : ℕ) (calls : List Call)
    (bytes : List ℕ) : Type 0 where
  pub some : 1 < left
  pub waits : IsWaiting rules limits calls bytes
  pub exact : waits.n ≡ length bytes
  pub goes_on : closes waits.q ≡ false
  pub gave_bytes : EachGaveBytes calls

-- P of how its connection ended, or Q where the client stays, or what holds where its request waits
-- as the last one, or as one behind which another may come
abbrev pub MatchBegun : Begun → (Result (Unit {0}) ServeFault → Type 0) → Type 0 → Type 0 →
    Type 0 → Type 0
MatchBegun (begun.Ended ended) P Q R S = P ended
MatchBegun begun.Stays P Q R S = Q
MatchBegun begun.Waits P Q R S = R
MatchBegun begun.MayStay P Q R S = S
