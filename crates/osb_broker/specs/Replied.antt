-- What a client may conclude of its request from what it was sent, over stops and starts of the program.
use Rattle.std.specs.Prelude.{◌≡◌, ◌⊎◌, ℕ, List, [], ◌∷◌}
use Rattle.std.specs.List.{AllByRecursion}
use Rattle.osb_frames.specs.declared.limits.Limits.{Limits}
use Rattle.osb_frames.specs.Calls.{all_bytes}
use Rattle.osb_frames.specs.Cuts.{Message}
use Rattle.osb_catalog.specs.Rules.{Rules}
use Rattle.osb_orders.specs.Lives.{Lives, life_of}
use Rattle.osb_orders.specs.IsLife.{IsLives}
use Rattle.osb_laws.specs.Reported.{next_number, IsOnce}
use Rattle.osb_broker.specs.Steps.{lives_after}
use Rattle.osb_broker.specs.Apart.{AsksOf}
use Rattle.osb_broker.specs.Reported.{IsAgainOrBeside}
use Rattle.osb_broker.specs.Conversations.{Conversation, AreEpisodes, all_conversations, IsNoAnswer}

-- P of the bytes that were read of each client
abbrev pub OfEachClient : (List ℕ → Type 0) → List Conversation → Type 0
OfEachClient P conversations =
    AllByRecursion (λ conversation. P (all_bytes conversation.calls)) conversations

-- no write to the client failed, and it was sent something, and not the fixed 500
abbrev pub GotAnswer : Conversation → Type 0
GotAnswer conversation = (conversation.failed ≡ 0) × (¬ IsNoAnswer conversation.sent)

-- one of the clients that sent these bytes got an answer
abbrev pub SomeGotAnswer : List ℕ → List Conversation → Type 0
SomeGotAnswer bytes [] = ⊥
SomeGotAnswer bytes (conversation ∷ later) =
    ((all_bytes conversation.calls ≡ bytes) × GotAnswer conversation) ⊎ SomeGotAnswer bytes later

-- What holds of a request about an instance, which clients make again and again, one request each, over stops and starts
-- from well-formed lives. What else they ask of the instance reports that its order succeeded, or only reads.
abbrev pub OfRepeatedRequest : (Rules → Lives → List Conversation → List ℕ → Message → Lives →
    List ℕ → Type 0) → Type 0
OfRepeatedRequest Holds =
    (rules : Rules) (limits : Limits) (old : Lives) (episodes : List (List Conversation))
    (new : Lives) (id bytes : List ℕ) →
    IsLives old → (asked : AsksOf rules limits id bytes) →
    AreEpisodes rules limits 1 old episodes new →
    OfEachClient (λ other. AsksOf rules limits id other →
    IsAgainOrBeside rules limits id (next_number old id) bytes other)
    (all_conversations episodes) →
    Holds rules old (all_conversations episodes) bytes asked.q new id

-- where one of them got an answer, the instance's life is the one that the request leaves, made once, but for the report
abbrev pub RepliedRequestsActOnce : Type 0
RepliedRequestsActOnce = OfRepeatedRequest (λ rules old conversations bytes q new id.
    SomeGotAnswer bytes conversations →
    IsOnce (life_of (lives_after rules old q) id) (life_of new id))

-- in any case it is that one, or the one of before
abbrev pub SentRequestsActAtMostOnce : Type 0
SentRequestsActAtMostOnce = OfRepeatedRequest (λ rules old conversations bytes q new id.
    (life_of new id ≡ life_of old id)
    ⊎ IsOnce (life_of (lives_after rules old q) id) (life_of new id))
