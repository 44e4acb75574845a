-- What was said with clients that are connected at the same time, one request after the other, over stops and starts of
-- the program.
use Rattle.std.specs.Prelude.{◌≡◌, ◌≢◌, ◌⊎◌, ℕ, suc, ◌+◌, ◌<◌, Bool, true, false, List, [], ◌∷◌, ◌++◌, length, map, Result, Ok, Err}
use Rattle.std.specs.List.{concat}
use Rattle.osb_frames.specs.declared.limits.Limits.{Limits}
use Rattle.osb_frames.specs.Calls.{all_bytes}
use Rattle.osb_frames.specs.Cuts.{Message, closes, whole, IsFront}
use Rattle.osb_replies.specs.declared.write.WriteFault.{WriteFault}
use Rattle.osb_replies.specs.Text.{ReplyParts, reply_text}
use Rattle.osb_replies.specs.Parts.{refused}
use Rattle.osb_catalog.specs.Rules.{Rules}
use Rattle.osb_orders.specs.Lives.{Lives}
use Rattle.osb_broker.specs.Begun.{IsWaiting, MayStay, SentText}
use Rattle.osb_broker.specs.Crashes.{RunOrLost}
use Rattle.osb_broker.specs.Machine.{Machine, Handled, reply_of}
use Rattle.osb_broker.specs.Steps.{capped, machine}
use Rattle.osb_broker.specs.Served.{Served}
use Rattle.osb_broker.specs.Serving.{EachGaveBytes, EachWasNeeded, WritesText}
use Rattle.osb_broker.specs.Conversations.{Conversation, AreConversations}
use Rattle.osb_broker.specs.Last.{IsLast}

-- An exchange is one request of a client with its answer, or the client's end: which client it is, how many of its requests
-- were answered before, whether another may come, and what was said since then.
pub record Exchange : Type 0 where
  pub client : ℕ
  pub before : ℕ
  pub stays : Bool
  pub said : Conversation

-- A request behind which another may come (RFC 9112, 9.3) was answered from the lives old, and leaves the lives new. What
-- was read is exactly it. Its text, which names no close, was written, or where a write failed its first bytes.
pub record IsAnswered (rules : Rules) (limits : Limits) (old : Lives) (said : Conversation)
    (result : Result (Unit {0}) WriteFault) (new : Lives) : Type 0 where
  pub q : Message
  pub exact : (more : List ℕ) →
      IsFront limits (all_bytes said.calls ++ more) (whole q (length (all_bytes said.calls)))
  pub goes_on : closes q ≡ false
  pub gave_bytes : EachGaveBytes said.calls
  pub needed : EachWasNeeded limits 1 (limits.head + limits.body) said.calls
  pub no_fault : said.met_fault ≡ false
  pub wrote : WritesText [] 0 said.sent said.failed result
      (reply_text (reply_of q false ((machine rules).step old q).0))
  pub leaves : new ≡ ((machine rules).step old q).1

-- So many requests may come behind this one. A client's last exchange is its last request or its end, or its answer
-- wasn't taken whole.
abbrev pub IsSaid : Rules → Limits → ℕ → Bool → Lives → Conversation → Lives → Type 0
IsSaid rules limits more true old said new =
    (0 < more) × IsAnswered rules limits old said (Ok tt) new
IsSaid rules limits more false old said new =
    IsLast rules limits old said new
    ⊎ ((0 < more) × (fault : WriteFault) × IsAnswered rules limits old said (Err fault) new)

-- of k requests that may come on a connection
abbrev pub IsExchange : Rules → Limits → ℕ → Lives → Exchange → Lives → Type 0
IsExchange rules limits k old x new =
    (more : ℕ) × (x.before + suc more ≡ k) × IsSaid rules limits more x.stays old x.said new

-- one exchange after the other, of whichever client, each from the lives that the one before left
abbrev pub AreExchanges : Rules → Limits → ℕ → Lives → List Exchange → Lives → Type 0
AreExchanges rules limits k old [] new = new ≡ old
AreExchanges rules limits k old (x ∷ later) new =
    (lives : Lives) × IsExchange rules limits k old x lives
    × AreExchanges rules limits k lives later new

-- A run has the exchanges between a start of the program and its stop; the next one begins with the lives that it left.
abbrev pub AreRuns : Rules → Limits → ℕ → Lives → List (List Exchange) → Lives → Type 0
AreRuns rules limits k old [] new = new ≡ old
AreRuns rules limits k old (exchanges ∷ later) new =
    (lives : Lives) × AreExchanges rules limits k old exchanges lives
    × AreRuns rules limits k lives later new

-- the exchanges of all runs
abbrev pub all_exchanges : List (List Exchange) → List Exchange
all_exchanges [] = []
all_exchanges (exchanges ∷ later) = exchanges ++ all_exchanges later

-- stops and starts leave no trace: runs are exchanges, one after the other
abbrev pub RunsGoOn : Type 0
RunsGoOn = (rules : Rules) (limits : Limits) (k : ℕ) (old : Lives) (runs : List (List Exchange))
    (new : Lives) →
    AreRuns rules limits k old runs new → AreExchanges rules limits k old (all_exchanges runs) new

-- ---- with one request a client they are conversations

-- each conversation with a client of its own
abbrev pub one_each : ℕ → List Conversation → List Exchange
one_each n [] = []
one_each n (said ∷ later) =
    record { client = n; before = 0; stays = false; said = said } ∷ one_each (suc n) later

abbrev pub OneRequestEach : Type 0
OneRequestEach = (rules : Rules) (limits : Limits) (old new : Lives) →
    ((exchanges : List Exchange) → AreExchanges rules limits 1 old exchanges new →
    AreConversations rules limits 1 old (map (λ x. x.said) exchanges) new)
    × ((n : ℕ) (conversations : List Conversation) →
    AreConversations rules limits 1 old conversations new →
    AreExchanges rules limits 1 old (one_each n conversations) new)

-- ---- a connection with nothing between its requests

-- each was answered, and another came
abbrev pub AreAnswered : Rules → Limits → Lives → List Conversation → Lives → Type 0
AreAnswered rules limits old [] new = new ≡ old
AreAnswered rules limits old (said ∷ later) new =
    (lives : Lives) × IsAnswered rules limits old said (Ok tt) lives
    × AreAnswered rules limits lives later new

abbrev pub bytes_in : List Conversation → List ℕ
bytes_in conversations = concat (map (λ said. all_bytes said.calls) conversations)

abbrev pub sent_in : List Conversation → List ℕ
sent_in conversations = concat (map (λ said. said.sent) conversations)

-- the requests that were answered, and behind them the last one or the end, are one connection that was served
abbrev pub ConnectionsByThemselves : Type 0
ConnectionsByThemselves = (rules : Rules) (limits : Limits) (old lives new : Lives)
    (earlier : List Conversation) (rest sent : List ℕ) →
    AreAnswered rules limits old earlier lives →
    Served (machine rules) limits 1 lives rest [] sent new →
    Served (machine rules) limits (length earlier + 1) old (bytes_in earlier ++ rest) []
    (sent_in earlier ++ sent) new

-- ---- clients that are answered together

-- a request was handled and left the lives new, or the reply is the fixed 500 and it left them all the same
abbrev pub HandledOrLost : Machine Lives → Message → Bool → Lives → ReplyParts → Lives → Type 0
HandledOrLost machine q last old reply new =
    Handled machine q last old reply new
    ⊎ ((reply ≡ refused) × (machine.takes_memory q ≡ true) × (new ≡ (machine.step old q).1))

-- The request of a client waited. It was handled from the lives old with this reply, or its answer was lost, and the
-- reply's text was sent. It is the last one where no other may come, or where more was read than its bytes. The client
-- stays unless the reply closes or a write failed.
pub record WasAnswered (rules : Rules) (limits : Limits) (k : ℕ) (old : Lives) (x : Exchange)
    (new : Lives) : Type 0 where
  pub more : ℕ
  pub count : x.before + suc more ≡ k
  pub bytes : List ℕ
  pub needed : EachWasNeeded limits 1 (limits.head + limits.body) x.said.calls
  pub waits : IsWaiting rules limits x.said.calls bytes
  pub last : Bool
  pub exact : last ≡ false → (0 < more) × (waits.n ≡ length bytes) × EachGaveBytes x.said.calls
  pub reply : ReplyParts
  pub handled : HandledOrLost (machine rules) waits.q last old reply new
  pub sent : SentText (reply_text reply) x.said
  pub stays : x.stays ≡ true → (reply.close ≡ false) × (x.said.failed ≡ 0)
  pub ends : x.stays ≡ false → (reply.close ≡ true) ⊎ (0 < x.said.failed)

-- so were these, each from the lives that the one before left
abbrev pub WereAnsweredTogether : Rules → Limits → ℕ → Lives → List Exchange → Lives → Type 0
WereAnsweredTogether rules limits k old [] new = new ≡ old
WereAnsweredTogether rules limits k old (x ∷ later) new =
    (lives : Lives) × WasAnswered rules limits k old x lives
    × WereAnsweredTogether rules limits k lives later new

abbrev pub GroupsAreExchanges : Type 0
GroupsAreExchanges = (rules : Rules) (limits : Limits) (k : ℕ) (old : Lives)
    (exchanges : List Exchange) (new : Lives) →
    WereAnsweredTogether rules limits k old exchanges new →
    AreExchanges rules limits k old exchanges new

-- A request of the client waited behind which another may come. It was sent a text, or its first
-- bytes, and it stays unless that is the fixed 500 or a write failed.
pub record WasSentOpen (rules : Rules) (limits : Limits) (k : ℕ) (bytes text : List ℕ)
    (x : Exchange) : Type 0 where
  pub left : ℕ
  pub count : x.before + left ≡ k
  pub needed : EachWasNeeded limits 1 (limits.head + limits.body) x.said.calls
  pub waits : MayStay rules limits left x.said.calls bytes
  pub sent : SentText text x.said
  pub stays : x.stays ≡ true → (text ≢ reply_text refused) × (x.said.failed ≡ 0)
  pub ends : x.stays ≡ false → (text ≡ reply_text refused) ⊎ (0 < x.said.failed)

-- so it is of each of these
abbrev pub WereSentOpen : Rules → Limits → ℕ → List (List ℕ) → List (List ℕ) → List Exchange →
    Type 0
WereSentOpen rules limits k [] [] [] = Unit {0}
WereSentOpen rules limits k (bytes ∷ connections) (text ∷ texts) (x ∷ exchanges) =
    WasSentOpen rules limits k bytes text x
    × WereSentOpen rules limits k connections texts exchanges
WereSentOpen rules limits k _ _ _ = ⊥

-- where the texts are those of connections on each of which two requests may come
abbrev pub OpenGroupsAreExchanges : Type 0
OpenGroupsAreExchanges = (rules : Rules) (limits : Limits) (k : ℕ) (old new : Lives)
    (connections texts : List (List ℕ)) (exchanges : List Exchange) →
    WereSentOpen rules limits k connections texts exchanges →
    RunOrLost (capped rules) limits 2 old connections texts new →
    AreExchanges rules limits k old exchanges new
