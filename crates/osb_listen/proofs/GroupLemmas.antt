-- Clients that are taken together.
use Rattle.std.proofs.Common.{◌≡◌, ◌≢◌, ◌∙◌, ◌⊎◌, ℕ, suc, ◌+◌, ◌-◌, ◌<◌, ◌≤◌, List, [], ◌∷◌, ◌++◌, length, map, take, Bool, true, false, not, ◌&&◌, Result, Ok, Err, OnOk, OnErr, is_ok, IsOkUnless, inl, inr, refl, sym, subst, ap, arith, append_assoc, append-nil, length-append}
use Rattle.std.proofs.lemmas.List.{map-append}
use Rattle.std.specs.List.{AllByRecursion}
use mir.Val.{bool_byte}
use Rattle.sqlite.specs.State.{State}
use Rattle.osb_frames.specs.declared.limits.Limits.{Limits}
use Rattle.osb_frames.specs.Calls.{Call, failure_count}
use Rattle.osb_replies.specs.Parts.{refused}
use Rattle.osb_replies.specs.Text.{reply_text}
use Rattle.osb_catalog.specs.Rules.{Rules}
use Rattle.osb_orders.specs.Lives.{Lives}
use Rattle.osb_orders.specs.IsLife.{IsLives}
use Rattle.osb_records.specs.CrashLeaves.{KeepsLives}
use Rattle.osb_statements.specs.Steps.{stored}
use Rattle.osb_broker.specs.declared.fault.ServeFault.{ServeFault}
use Rattle.osb_broker.specs.declared.fault.ServeFault.TheVariants.{Read, Write}
use Rattle.osb_broker.specs.Begun.{GroupsAreConversations, IsWaiting, MayStay, SentText, WereAnswered}
use Rattle.osb_broker.specs.BrokerState.{Works}
use Rattle.osb_broker.specs.Conversations.{AreConversations}
use Rattle.osb_broker.specs.Crashes.{RunOrLost}
use Rattle.osb_broker.specs.Exchanges.{AreExchanges, Exchange, IsSaid, OpenGroupsAreExchanges, WereSentOpen}
use Rattle.osb_broker.specs.Inside.{Worked}
use Rattle.osb_broker.specs.Serving.{EachWasNeeded, ReadsOf}
use Rattle.osb_broker.specs.Steps.{capped}
use Rattle.osb_broker.proofs.LastLemmas.{last_of}
use Rattle.osb_listen.specs.declared.entrance.TakenClient.{TakenClient}
use Rattle.osb_listen.specs.Exchanges.{conversation_of, ended_by, ended_in, exchange_of, lines_of, Serves}
use Rattle.osb_listen.specs.Groups.{AreKept, AreTaken, count_of, HasBegun, IsLast, IsOpen, IsSent, IsTurn, IsUnanswered, Unanswered, WereSent}
use Rattle.osb_listen.specs.Lines.{Says}
use Rattle.osb_listen.proofs.PartLemmas.{says_more, says_none}
use Rattle.osb_listen.proofs.ExchangeLemmas.{ended_more, ended_so, none_serves_by, some_more}

-- the number that a Bool is turned into
pub byte_is : (b : Bool) → bool_byte b ≡ count_of b
byte_is true = refl
byte_is false = refl

pub byte_few : (b : Bool) → bool_byte b ≤ 1
byte_few true = omega arith
byte_few false = omega arith

-- ---- those that wait

module _ {I O : Type 0} (Is : TakenClient I O → List ℕ → Type 0) where
  -- one more is kept
  kept_more : (clients : List (TakenClient I O)) (requests : List (List ℕ)) (client : TakenClient I O) (bytes : List ℕ) → AreKept Is clients requests → Is client bytes → AreKept Is (clients ++ client ∷ []) (requests ++ bytes ∷ [])
  kept_more [] [] client bytes were is = (is, tt)
  kept_more (one ∷ clients) (first ∷ requests) client bytes were is = (were.0, kept_more clients requests client bytes were.1 is)
  kept_more [] (first ∷ requests) client bytes were is = absurd were
  kept_more (one ∷ clients) [] client bytes were is = absurd were

  pub all_so : (P : TakenClient I O → Type 0) → ((client : TakenClient I O) (bytes : List ℕ) → Is client bytes → P client) → (clients : List (TakenClient I O)) (requests : List (List ℕ)) → AreKept Is clients requests → AllByRecursion P clients
  all_so P each [] [] kept = tt
  all_so P each (client ∷ clients) (bytes ∷ requests) kept = (each client bytes kept.0, all_so P each clients requests kept.1)
  all_so P each [] (bytes ∷ requests) kept = tt
  all_so P each (client ∷ clients) [] kept = absurd kept

  pub as_many_kept : (clients : List (TakenClient I O)) (requests : List (List ℕ)) → AreKept Is clients requests → length clients ≡ length requests
  as_many_kept [] [] kept = refl
  as_many_kept (client ∷ clients) (bytes ∷ requests) kept = ap suc (as_many_kept clients requests kept.1)
  as_many_kept [] (bytes ∷ requests) kept = absurd kept
  as_many_kept (client ∷ clients) [] kept = absurd kept

-- so many requests may come behind one of k
behind : (before k : ℕ) → before < k → (more : ℕ) × (before + suc more ≡ k)
behind before k less = (k - suc before, omega (arith, less))

module _ {I O : Type 0} (calls : I → List Call) (taken : O → List ℕ) (failed : O → ℕ) (rules : Rules) (limits : Limits) (k : ℕ) where
  abbrev Last : TakenClient I O → List ℕ → Type 0
  Last = IsLast calls taken failed rules limits k

  abbrev Open : TakenClient I O → List ℕ → Type 0
  Open = IsOpen calls taken failed rules limits k

  module _ (client : TakenClient I O) (made : List Call) (bytes : List ℕ) (needed : EachWasNeeded limits 1 (limits.head + limits.body) made) (same : calls client.input ≡ made) (unsent : taken client.output ≡ []) (unfailed : failed client.output ≡ 0) where
    needed_too : EachWasNeeded limits 1 (limits.head + limits.body) (calls client.input)
    needed_too = subst (λ (these : List Call). EachWasNeeded limits 1 (limits.head + limits.body) these) (sym same) needed

    unanswered_so : ReadsOf (Ok tt) made → Unanswered calls taken failed client
    unanswered_so reads = record { reads = subst (λ (these : List Call). ReadsOf (Ok tt) these) (sym same) reads; unsent = unsent; unfailed = unfailed }

    -- its request waits, as the last one
    pub last_so : client.before < k → IsWaiting rules limits made bytes → Last client bytes
    last_so before waits = record {
      before = before;
      needed = needed_too;
      waits = subst (λ (these : List Call). IsWaiting rules limits these bytes) (sym same) waits;
      unanswered = unanswered_so waits.reads;
    }

    -- or as one behind which another may come
    pub open_so : (left : ℕ) → client.before + left ≡ k → MayStay rules limits left made bytes → Open client bytes
    open_so left count waits = record {
      left = left;
      count = count;
      needed = needed_too;
      waits = subst (λ (these : List Call). MayStay rules limits left these bytes) (sym same) waits;
      unanswered = unanswered_so waits.waits.reads;
    }

  -- ---- those of whom no other request is answered

  were_answered : (clients : List (TakenClient I O)) (requests replies : List (List ℕ)) (exchanges : List Exchange) → AreKept Last clients requests → WereSent calls false clients replies exchanges
      → WereAnswered rules limits requests replies (map (λ (x : Exchange). x.said) exchanges)
  were_answered [] [] [] [] kept sent = tt
  were_answered (client ∷ clients) (bytes ∷ requests) (reply ∷ replies) (x ∷ exchanges) kept sent = (
    subst (λ (made : List Call). EachWasNeeded limits 1 (limits.head + limits.body) made) (sym sent.0.read) kept.0.needed,
    rw sent.0.read kept.0.waits,
    sent.0.text,
    were_answered clients requests replies exchanges kept.1 sent.1,
  )
  were_answered [] (bytes ∷ requests) replies exchanges kept sent = absurd kept
  were_answered (client ∷ clients) [] replies exchanges kept sent = absurd kept
  were_answered [] [] (reply ∷ replies) exchanges kept sent = absurd sent
  were_answered [] [] [] (x ∷ exchanges) kept sent = absurd sent
  were_answered (client ∷ clients) (bytes ∷ requests) [] exchanges kept sent = absurd sent
  were_answered (client ∷ clients) (bytes ∷ requests) (reply ∷ replies) [] kept sent = absurd sent

  last_said : (client : TakenClient I O) (reply : List ℕ) (x : Exchange) (more : ℕ) (old new : Lives) → IsSent calls false client reply x → IsSaid rules limits more false old x.said new → IsSaid rules limits more x.stays old x.said new
  last_said client reply x more old new sent said = by x.stays refl
    where
      by : (stays : Bool) → x.stays ≡ stays → IsSaid rules limits more stays old x.said new
      by true e = let never : false ≡ true = (sent.stays e).0 in cc
      by false e = said

  -- each conversation is the last exchange of its client
  last_exchanges : (clients : List (TakenClient I O)) (requests replies : List (List ℕ)) (exchanges : List Exchange) → AreKept Last clients requests → WereSent calls false clients replies exchanges
      → (old new : Lives) → AreConversations rules limits 1 old (map (λ (x : Exchange). x.said) exchanges) new → AreExchanges rules limits k old exchanges new
  last_exchanges [] [] [] [] kept sent old new are = are
  last_exchanges (client ∷ clients) (bytes ∷ requests) (reply ∷ replies) (x ∷ exchanges) kept sent old new (lives, one, are) =
      let more = behind client.before k kept.0.before in
      (lives, (more.0, ap (λ n. n + suc more.0) sent.0.before ∙ more.1, last_said client reply x more.0 old lives sent.0 (inl (last_of rules limits old x.said lives one))), last_exchanges clients requests replies exchanges kept.1 sent.1 lives new are)
  last_exchanges [] (bytes ∷ requests) replies exchanges kept sent old new are = absurd kept
  last_exchanges (client ∷ clients) [] replies exchanges kept sent old new are = absurd kept
  last_exchanges [] [] (reply ∷ replies) exchanges kept sent old new are = absurd sent
  last_exchanges [] [] [] (x ∷ exchanges) kept sent old new are = absurd sent
  last_exchanges (client ∷ clients) (bytes ∷ requests) [] exchanges kept sent old new are = absurd sent
  last_exchanges (client ∷ clients) (bytes ∷ requests) (reply ∷ replies) [] kept sent old new are = absurd sent

  pub last_answered : GroupsAreConversations → (clients : List (TakenClient I O)) (requests replies : List (List ℕ)) (exchanges : List Exchange) → AreKept Last clients requests → WereSent calls false clients replies exchanges
      → (old new : Lives) → RunOrLost (capped rules) limits 1 old requests replies new → AreExchanges rules limits k old exchanges new
  last_answered law clients requests replies exchanges kept sent old new run =
      last_exchanges clients requests replies exchanges kept sent old new
      (law rules limits old new requests replies (map (λ (x : Exchange). x.said) exchanges) (were_answered clients requests replies exchanges kept sent) run)

  -- ---- those that may stay

  were_open : (clients : List (TakenClient I O)) (requests replies : List (List ℕ)) (exchanges : List Exchange) → AreKept Open clients requests → WereSent calls true clients replies exchanges → WereSentOpen rules limits k requests replies exchanges
  were_open [] [] [] [] kept sent = tt
  were_open (client ∷ clients) (bytes ∷ requests) (reply ∷ replies) (x ∷ exchanges) kept sent = (
    record {
      left = kept.0.left;
      count = ap (λ n. n + kept.0.left) sent.0.before ∙ kept.0.count;
      needed = subst (λ (made : List Call). EachWasNeeded limits 1 (limits.head + limits.body) made) (sym sent.0.read) kept.0.needed;
      waits = rw sent.0.read kept.0.waits;
      sent = sent.0.text;
      stays = λ e. let kept_on = sent.0.stays e in (kept_on.1, kept_on.2);
      ends = λ e. elim (sent.0.ends e) [
        | inl never ↦ cc
        | inr why ↦ why
      ];
    },
    were_open clients requests replies exchanges kept.1 sent.1,
  )
  were_open [] (bytes ∷ requests) replies exchanges kept sent = absurd kept
  were_open (client ∷ clients) [] replies exchanges kept sent = absurd kept
  were_open [] [] (reply ∷ replies) exchanges kept sent = absurd sent
  were_open [] [] [] (x ∷ exchanges) kept sent = absurd sent
  were_open (client ∷ clients) (bytes ∷ requests) [] exchanges kept sent = absurd sent
  were_open (client ∷ clients) (bytes ∷ requests) (reply ∷ replies) [] kept sent = absurd sent

  pub open_answered : OpenGroupsAreExchanges → (clients : List (TakenClient I O)) (requests replies : List (List ℕ)) (exchanges : List Exchange) → AreKept Open clients requests → WereSent calls true clients replies exchanges
      → (old new : Lives) → RunOrLost (capped rules) limits 2 old requests replies new → AreExchanges rules limits k old exchanges new
  open_answered law clients requests replies exchanges kept sent old new run =
      law rules limits k old new requests replies exchanges (were_open clients requests replies exchanges kept sent) run

  -- ---- those that were taken

  pub none_taken : (old : State) (journal : List Exchange) (said : List ℕ) (lost : ℕ) → (Works old → IsLives (stored old)) → (Works old → KeepsLives old (stored old))
      → AreTaken calls taken failed rules limits k 0 0 [] [] [] [] old old journal journal said said lost lost
  none_taken old journal said lost whole kept = record {
    exchanges = [];
    counted = refl;
    ended_are = refl;
    serves = none_serves_by rules limits k old journal journal said lost refl whole kept;
    last_are = tt;
    open_are = tt;
  }

  module _ {last open_clients : List (TakenClient I O)} {waiting staying : List (List ℕ)} {old mid : State} {journal_old journal_mid : List Exchange} {said_old said_mid : List ℕ} {lost_old lost_mid count ended : ℕ}
      (before : AreTaken calls taken failed rules limits k count ended last waiting open_clients staying old mid journal_old journal_mid said_old said_mid lost_old lost_mid) where
    -- some more exchanges
    pub taken_on : (new : State) (journal_new : List Exchange) (said_new : List ℕ) (lost_new : ℕ) → Worked old mid → Worked mid new
        → (later : List Exchange) → Serves rules limits k later mid new journal_mid journal_new said_mid said_new lost_mid lost_new
        → Serves rules limits k (before.exchanges ++ later) old new journal_old journal_new said_old said_new lost_old lost_new
    taken_on new journal_new said_new lost_new was next later serves =
        some_more rules limits k old journal_old said_old lost_old mid new journal_mid journal_new said_mid said_new lost_mid lost_new before.exchanges later was next before.serves serves

    -- one more client was taken
    pub taken_next : (new : State) (last_new open_new : List (TakenClient I O)) (waiting_new staying_new : List (List ℕ)) (journal_new : List Exchange) (said_new : List ℕ) (lost_new : ℕ) (has_ended : Bool) (count_new ended_new : ℕ) → count_new ≡ count + 1 → ended_new ≡ ended + bool_byte has_ended → Worked old mid → Worked mid new
        → (exchanges : List Exchange) × HasBegun calls taken failed rules limits k last last_new open_clients open_new waiting waiting_new staying staying_new exchanges × (ended_in exchanges ≡ count_of has_ended)
        × Serves rules limits k exchanges mid new journal_mid journal_new said_mid said_new lost_mid lost_new
        → AreTaken calls taken failed rules limits k count_new ended_new last_new waiting_new open_new staying_new old new journal_old journal_new said_old said_new lost_old lost_new
    taken_next new last_new open_new waiting_new staying_new journal_new said_new lost_new has_ended count_new ended_new counts ends_are was next (later, begun, ends, serves) =
        let all = taken_on new journal_new said_new lost_new was next later serves in
        let ended_all : ended_in (before.exchanges ++ later) ≡ ended_new = omega (arith, ended_more before.exchanges later, before.ended_are, ends, ends_are, byte_is has_ended) in
        elim begun [
          | inl (one, same_last, same_waiting, same_open, same_staying) ↦
              rw (same_last, same_waiting, same_open, same_staying) (record {
                exchanges = before.exchanges ++ later;
                counted = omega (arith, before.counted, counts, one, length-append before.exchanges later);
                ended_are = ended_all;
                serves = all;
                last_are = before.last_are;
                open_are = before.open_are;
              })
          | inr (inl (client, bytes, is, none, more, others, same_open, same_staying)) ↦
              rw (more, others, same_open, same_staying) (record {
                exchanges = before.exchanges ++ later;
                counted = omega (arith, before.counted, counts, ap length none, length-append before.exchanges later, length-append last (client ∷ []));
                ended_are = ended_all;
                serves = all;
                last_are = kept_more Last last waiting client bytes before.last_are is;
                open_are = before.open_are;
              })
          | inr (inr (client, bytes, is, none, same_last, same_waiting, more, others)) ↦
              rw (same_last, same_waiting, more, others) (record {
                exchanges = before.exchanges ++ later;
                counted = omega (arith, before.counted, counts, ap length none, length-append before.exchanges later, length-append open_clients (client ∷ []));
                ended_are = ended_all;
                serves = all;
                last_are = before.last_are;
                open_are = kept_more Open open_clients staying client bytes before.open_are is;
              })
        ]

-- ---- one that was sent its reply

reads_either : (ended : Result (Unit {0}) ServeFault) (calls : List Call) → IsOkUnless ended Write → ReadsOf (Ok tt) calls → ReadsOf ended calls
reads_either (Ok x) calls unless reads = reads
reads_either (Err Write) calls unless reads = reads
reads_either (Err Read) calls unless reads = cc

-- a reply was sent, or its first bytes, and how that ended is seen
pub reply_sent : (ended : Result (Unit {0}) ServeFault) (calls : List Call) (reply sent_old sent : List ℕ) (failed_old failed : ℕ) → IsOkUnless ended Write → IsUnanswered calls sent_old failed_old
    → OnOk ended ((sent ≡ sent_old ++ reply) × (failed ≡ failed_old)) → OnErr ended ((count : ℕ) × (count ≤ length reply) × (sent ≡ sent_old ++ take count reply) × (failed_old < failed))
    → SentText reply (conversation_of calls sent failed false) × (ended_by failed (failure_count calls) ≡ ended)
reply_sent (Ok x) calls reply sent_old sent failed_old failed unless un whole part = (
  record { result = Ok tt; writes = (whole.0 ∙ ap (λ old. old ++ reply) un.unsent, whole.1 ∙ un.unfailed); no_fault = refl },
  ended_so (Ok x) calls failed un.reads (whole.1 ∙ un.unfailed),
)
reply_sent (Err Write) calls reply sent_old sent failed_old failed unless un whole part = (
  record {
    result = Err (record { written = part.0 });
    writes = (part.0, part.1, part.2 ∙ ap (λ old. old ++ take part.0 reply) un.unsent, omega (arith, part.3));
    no_fault = refl;
  },
  ended_so (Err Write) calls failed un.reads (omega (arith, part.3, un.unfailed)),
)
reply_sent (Err Read) calls reply sent_old sent failed_old failed unless un whole part = cc

-- whether a write failed, by how that ended
pub none_failed_if : (ended : Result (Unit {0}) ServeFault) (P : Type 0) (failed_old failed : ℕ) → failed_old ≡ 0 → OnOk ended (P × (failed ≡ failed_old)) → is_ok ended ≡ true → failed ≡ 0
none_failed_if (Ok x) P failed_old failed none same ok = same.1 ∙ none
none_failed_if (Err fault) P failed_old failed none same ok = cc

pub one_failed_if : (ended : Result (Unit {0}) ServeFault) (P Q : ℕ → Type 0) (failed_old failed : ℕ) → OnErr ended ((count : ℕ) × P count × Q count × (failed_old < failed)) → is_ok ended ≡ false → 0 < failed
one_failed_if (Ok x) P Q failed_old failed more ok = cc
one_failed_if (Err fault) P Q failed_old failed more ok = omega (arith, more.3)

-- as many exchanges as clients
pub as_many_sent : {I O : Type 0} (calls : I → List Call) (may_stay : Bool) (clients : List (TakenClient I O)) (replies : List (List ℕ)) (exchanges : List Exchange) → WereSent calls may_stay clients replies exchanges → length exchanges ≡ length clients
as_many_sent calls may_stay [] [] [] sent = refl
as_many_sent calls may_stay (client ∷ clients) (reply ∷ replies) (x ∷ exchanges) sent = ap suc (as_many_sent calls may_stay clients replies exchanges sent.1)
as_many_sent calls may_stay [] (reply ∷ replies) exchanges sent = absurd sent
as_many_sent calls may_stay [] [] (x ∷ exchanges) sent = absurd sent
as_many_sent calls may_stay (client ∷ clients) [] exchanges sent = absurd sent
as_many_sent calls may_stay (client ∷ clients) (reply ∷ replies) [] sent = absurd sent

module _ {I O : Type 0} (calls : I → List Call) (may_stay : Bool) (clients : List (TakenClient I O)) (replies : List (List ℕ)) (journal_old : List Exchange) (said_old : List ℕ) (failed_old : ℕ) where
  -- some clients were sent their replies, of whom so many ended, and these are left with theirs
  abbrev pub AnswersSome : List (TakenClient I O) → List (List ℕ) → ℕ → List Exchange → List ℕ → ℕ → Type 0
  AnswersSome left rest ended journal said failed = (exchanges : List Exchange)
      × ((later : List Exchange) → WereSent calls may_stay left rest later → WereSent calls may_stay clients replies (exchanges ++ later))
      × (ended_in exchanges ≡ ended) × (journal ≡ journal_old ++ exchanges) × Says (lines_of exchanges) said_old said failed_old failed

  pub none_answered : AnswersSome clients replies 0 journal_old said_old failed_old
  none_answered = ([], (λ later were. were), refl, sym (append-nil journal_old), says_none said_old failed_old)

  -- one more
  pub answered_next : (client : TakenClient I O) (left : List (TakenClient I O)) (reply : List ℕ) (rest : List (List ℕ)) (ended : ℕ) (has_ended : Bool) (journal journal_new : List Exchange) (said said_new : List ℕ) (failed failed_new : ℕ)
      → AnswersSome (client ∷ left) (reply ∷ rest) ended journal said failed
      → ((one : Exchange) × IsSent calls may_stay client reply one × (ended_in (one ∷ []) ≡ count_of has_ended) × (journal_new ≡ journal ++ one ∷ []) × Says (lines_of (one ∷ [])) said said_new failed failed_new)
      → AnswersSome left rest (ended + count_of has_ended) journal_new said_new failed_new
  answered_next client left reply rest ended has_ended journal journal_new said said_new failed failed_new (some, before, counted, kept, lines) (one, sent, ends, more, line) = (
    some ++ one ∷ [],
    (λ later were. subst (λ (all : List Exchange). WereSent calls may_stay clients replies all) (sym (append_assoc some (one ∷ []) later)) (before (one ∷ later) (sent, were))),
    omega (arith, ended_more some (one ∷ []), counted, ends),
    more ∙ ap (λ (j : List Exchange). j ++ one ∷ []) kept ∙ append_assoc journal_old some (one ∷ []),
    subst (λ (all : List (List ℕ)). Says all said_old said_new failed_old failed_new) (sym (map-append _ some (one ∷ [])))
        (says_more (lines_of some) (lines_of (one ∷ [])) said_old said said_new failed_old failed failed_new lines line),
  )

  -- all were
  pub all_answered : (left : List (TakenClient I O)) (rest : List (List ℕ)) (ended : ℕ) (journal : List Exchange) (said : List ℕ) (failed : ℕ) → left ≡ [] → rest ≡ [] → AnswersSome left rest ended journal said failed
      → (exchanges : List Exchange) × WereSent calls may_stay clients replies exchanges × (ended_in exchanges ≡ ended) × (journal ≡ journal_old ++ exchanges) × Says (lines_of exchanges) said_old said failed_old failed
  all_answered left rest ended journal said failed none empty (some, before, counted, kept, lines) = (
    some,
    subst (λ (all : List Exchange). WereSent calls may_stay clients replies all) (append-nil some) (before [] (rw (none, empty) tt)),
    counted,
    kept,
    lines,
  )
