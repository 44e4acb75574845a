-- Clients that are taken together, of whom some wait for their replies. For contracts inside the crate.
use Rattle.std.specs.Prelude.{◌≡◌, ◌≢◌, ◌⊎◌, ℕ, ◌+◌, ◌<◌, cond, Bool, true, false, List, [], ◌∷◌, ◌++◌, length, Ok}
use Rattle.sqlite.specs.State.{State}
use Rattle.osb_frames.specs.declared.limits.Limits.{Limits}
use Rattle.osb_frames.specs.Calls.{Call}
use Rattle.osb_replies.specs.Text.{reply_text}
use Rattle.osb_replies.specs.Parts.{refused}
use Rattle.osb_catalog.specs.Rules.{Rules}
use Rattle.osb_broker.specs.Begun.{IsWaiting, MayStay, SentText}
use Rattle.osb_broker.specs.Exchanges.{Exchange}
use Rattle.osb_broker.specs.Serving.{EachWasNeeded, ReadsOf}
use Rattle.osb_listen.specs.declared.entrance.TakenClient.{TakenClient}
use Rattle.osb_listen.specs.Exchanges.{ended_in, Serves}

-- so many exchanges were had, and so many clients ended
abbrev pub IsTurn : ℕ → ℕ → List Exchange → Type 0
IsTurn count ended exchanges = (length exchanges ≡ count) × (ended_in exchanges ≡ ended)

-- one client if it ended
abbrev pub count_of : Bool → ℕ
count_of ended = cond ended 1 0

-- no read of the client failed, and nothing was sent to it yet
pub record IsUnanswered (calls : List Call) (sent : List ℕ) (failed : ℕ) : Type 0 where
  pub reads : ReadsOf (Ok tt) calls
  pub unsent : sent ≡ []
  pub unfailed : failed ≡ 0

-- so it is of each of these clients, with these requests
abbrev pub AreKept : {I O : Type 0} → (TakenClient I O → List ℕ → Type 0) →
    List (TakenClient I O) → List (List ℕ) → Type 0
AreKept Is [] [] = Unit {0}
AreKept Is (client ∷ clients) (bytes ∷ requests) = Is client bytes × AreKept Is clients requests
AreKept Is _ _ = ⊥

module _ {I O : Type 0} (calls : I → List Call) (taken : O → List ℕ) (failed : O → ℕ) where
  -- so it is of this one
  abbrev pub Unanswered : TakenClient I O → Type 0
  Unanswered client =
      IsUnanswered (calls client.input) (taken client.output) (failed client.output)

  module _ (rules : Rules) (limits : Limits) (k : ℕ) where
    -- what was read of the client is a request that waits, and the last one that is answered
    pub record IsLast (client : TakenClient I O) (bytes : List ℕ) : Type 0 where
      pub before : client.before < k
      pub needed : EachWasNeeded limits 1 (limits.head + limits.body) (calls client.input)
      pub waits : IsWaiting rules limits (calls client.input) bytes
      pub unanswered : Unanswered client

    -- what was read of it is a request that waits, behind which another may come
    pub record IsOpen (client : TakenClient I O) (bytes : List ℕ) : Type 0 where
      pub left : ℕ
      pub count : client.before + left ≡ k
      pub needed : EachWasNeeded limits 1 (limits.head + limits.body) (calls client.input)
      pub waits : MayStay rules limits left (calls client.input) bytes
      pub unanswered : Unanswered client

    -- One more client was taken. It was answered, which is this exchange, or it waits among those
    -- of one of two kinds.
    abbrev pub HasBegun : (last_old last_new open_old open_new : List (TakenClient I O)) →
        (waiting_old waiting_new staying_old staying_new : List (List ℕ)) → List Exchange → Type 0
    HasBegun last_old last_new open_old open_new waiting_old waiting_new staying_old staying_new
        exchanges =
        ((length exchanges ≡ 1) × (last_new ≡ last_old) × (waiting_new ≡ waiting_old)
        × (open_new ≡ open_old) × (staying_new ≡ staying_old))
        ⊎ (((client : TakenClient I O) × (bytes : List ℕ) × IsLast client bytes
        × (exchanges ≡ []) × (last_new ≡ last_old ++ client ∷ [])
        × (waiting_new ≡ waiting_old ++ bytes ∷ [])
        × (open_new ≡ open_old) × (staying_new ≡ staying_old))
        ⊎ ((client : TakenClient I O) × (bytes : List ℕ) × IsOpen client bytes
        × (exchanges ≡ []) × (last_new ≡ last_old) × (waiting_new ≡ waiting_old)
        × (open_new ≡ open_old ++ client ∷ []) × (staying_new ≡ staying_old ++ bytes ∷ [])))

    -- So many clients were taken, of whom so many ended: some were answered, and these wait, with
    -- these requests.
    pub record AreTaken (count ended : ℕ) (last : List (TakenClient I O)) (waiting : List (List ℕ))
        (open_clients : List (TakenClient I O)) (staying : List (List ℕ))
        (old new : State) (journal_old journal_new : List Exchange) (said_old said_new : List ℕ)
        (failed_old failed_new : ℕ) : Type 0 where
      pub exchanges : List Exchange
      pub counted : length exchanges + (length last + length open_clients) ≡ count
      pub ended_are : ended_in exchanges ≡ ended
      pub serves : Serves rules limits k exchanges old new journal_old journal_new said_old
          said_new failed_old failed_new
      pub last_are : AreKept IsLast last waiting
      pub open_are : AreKept IsOpen open_clients staying

-- A client was sent its reply, or its first bytes. It stays if it may, unless the reply is the
-- fixed 500 or a write failed.
pub record IsSent {I O : Type 0} (calls : I → List Call) (may_stay : Bool)
    (client : TakenClient I O) (reply : List ℕ) (x : Exchange) : Type 0 where
  pub number : x.client ≡ client.number
  pub before : x.before ≡ client.before
  pub text : SentText reply x.said
  pub read : x.said.calls ≡ calls client.input
  pub stays : x.stays ≡ true →
      (may_stay ≡ true) × (reply ≢ reply_text refused) × (x.said.failed ≡ 0)
  pub ends : x.stays ≡ false →
      (may_stay ≡ false) ⊎ ((reply ≡ reply_text refused) ⊎ (0 < x.said.failed))

-- so was each of these
abbrev pub WereSent : {I O : Type 0} → (I → List Call) → Bool → List (TakenClient I O) →
    List (List ℕ) → List Exchange → Type 0
WereSent calls may_stay [] [] [] = Unit {0}
WereSent calls may_stay (client ∷ clients) (reply ∷ replies) (x ∷ exchanges) =
    IsSent calls may_stay client reply x × WereSent calls may_stay clients replies exchanges
WereSent calls may_stay _ _ _ = ⊥
