-- What was said with clients, one after the other, over stops and starts of the program.
use Rattle.std.specs.Prelude.{◌≡◌, ◌⊎◌, ℕ, ◌+◌, Bool, List, [], ◌∷◌, ◌++◌, Result}
use Rattle.std.specs.List.{concat}
use Rattle.osb_frames.specs.declared.limits.Limits.{Limits}
use Rattle.osb_frames.specs.Calls.{Call, all_bytes}
use Rattle.osb_replies.specs.Parts.{refused}
use Rattle.osb_replies.specs.Text.{reply_text}
use Rattle.osb_catalog.specs.Rules.{Rules}
use Rattle.osb_orders.specs.Lives.{Lives}
use Rattle.osb_broker.specs.declared.fault.ServeFault.{ServeFault}
use Rattle.osb_broker.specs.Steps.{machine}
use Rattle.osb_broker.specs.Serving.{ReadsOf, EachWasNeeded, WritesOf}
use Rattle.osb_broker.specs.Crashes.{EndsAsOrLost}
use Rattle.osb_broker.specs.Attempts.{AttemptOutcome, answered, failed, lost, Attempt}
use Rattle.osb_broker.specs.Histories.{History}
use Rattle.osb_broker.specs.ActsOnce.{Carried}

-- the reads that were made of a client, the bytes that it was sent, how many writes to it failed or took nothing, and
-- whether it was taken to have sent a framing fault, behind which it may be sending still
pub record Conversation : Type 0 where
  pub calls : List Call
  pub sent : List ℕ
  pub failed : ℕ
  pub met_fault : Bool

-- A client on whose connection k requests may come was served so: each read was needed, what it was sent is what answers
-- the bytes that were read of it, from the lives old, and the lives new are those that this leaves.
pub record IsConversation (rules : Rules) (limits : Limits) (k : ℕ) (old : Lives)
    (conversation : Conversation) (new : Lives) : Type 0 where
  pub ended : Result (Unit {0}) ServeFault
  pub reads : ReadsOf ended conversation.calls
  pub needed : EachWasNeeded limits k (limits.head + limits.body) conversation.calls
  pub wrote : WritesOf ended 0 conversation.failed
  pub outcome : EndsAsOrLost ended (machine rules) limits k old conversation.calls
      conversation.met_fault [] conversation.sent new

-- one client after the other, each from the lives that the one before left
abbrev pub AreConversations : Rules → Limits → ℕ → Lives → List Conversation → Lives → Type 0
AreConversations rules limits k old [] new = new ≡ old
AreConversations rules limits k old (conversation ∷ later) new =
    (lives : Lives) × IsConversation rules limits k old conversation lives
    × AreConversations rules limits k lives later new

-- An episode is the conversations between a start of the program and its stop; the next one begins with the lives that it
-- left.
abbrev pub AreEpisodes : Rules → Limits → ℕ → Lives → List (List Conversation) → Lives → Type 0
AreEpisodes rules limits k old [] new = new ≡ old
AreEpisodes rules limits k old (conversations ∷ later) new =
    (lives : Lives) × AreConversations rules limits k old conversations lives
    × AreEpisodes rules limits k lives later new

-- the conversations of all episodes
abbrev pub all_conversations : List (List Conversation) → List Conversation
all_conversations [] = []
all_conversations (conversations ∷ later) = conversations ++ all_conversations later

-- stops and starts leave no trace: episodes are conversations, one after the other
abbrev pub EpisodesGoOn : Type 0
EpisodesGoOn =
    (rules : Rules) (limits : Limits) (k : ℕ) (old : Lives) (episodes : List (List Conversation))
    (new : Lives) →
    AreEpisodes rules limits k old episodes new →
    AreConversations rules limits k old (all_conversations episodes) new

-- ---- with one request a client

-- the fixed 500 or nothing, from which a client can't tell whether its request was carried out
abbrev pub IsNoAnswer : List ℕ → Type 0
IsNoAnswer sent = (sent ≡ reply_text refused) ⊎ (sent ≡ [])

-- what a client was sent, by what became of its attempt
abbrev pub WasSent : AttemptOutcome → List ℕ → Type 0
WasSent (answered texts) sent = sent ≡ concat texts
WasSent failed sent = IsNoAnswer sent
WasSent lost sent = IsNoAnswer sent

-- the client made this attempt: with the bytes that were read of it, and where no write failed it was sent what fits
pub record IsAttemptOf (conversation : Conversation) (attempt : Attempt) : Type 0 where
  pub bytes : attempt.bytes ≡ all_bytes conversation.calls
  pub sent : conversation.failed ≡ 0 → WasSent attempt.outcome conversation.sent

-- an attempt for each client, in their order
abbrev pub AreAttemptsOf : List Conversation → List Attempt → Type 0
AreAttemptsOf [] [] = Unit {0}
AreAttemptsOf (conversation ∷ conversations) (attempt ∷ attempts) =
    IsAttemptOf conversation attempt × AreAttemptsOf conversations attempts
AreAttemptsOf _ _ = ⊥

-- the conversations of any episodes are one history
abbrev pub EpisodesAreHistories : Type 0
EpisodesAreHistories =
    (rules : Rules) (limits : Limits) (old : Lives) (episodes : List (List Conversation))
    (new : Lives) →
    AreEpisodes rules limits 1 old episodes new →
    (attempts : List Attempt) × AreAttemptsOf (all_conversations episodes) attempts
    × History (Carried rules limits) old attempts new
