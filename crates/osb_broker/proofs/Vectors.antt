-- What the definitions of marks, repeats, attempts, refusals, reports, conversations, shards and logins say of short lists, computed.
use Rattle.std.proofs.Common.{◌≡◌, ℕ, zero, suc, ◌<◌, Bool, true, false, List, [], ◌∷◌, length, None, Some, Ok, Err, slice_index_or, refl, sym, ◌∙◌, inl, inr, arith}
use Rattle.std.specs.Prelude.{codes, bytes_eq}
use Rattle.std.proofs.lemmas.Bool.{false≢true}
use Rattle.std.proofs.lemmas.Slice.Eq.{bytes_eq-Decides}
use Rattle.osb_asks.specs.declared.ask.Ask.TheVariants.{Catalog, Fetch, Orders}
use Rattle.osb_asks.specs.declared.ask_fault.AskFault.TheVariants.{Auth}
use Rattle.osb_replies.specs.Parts.{refused}
use Rattle.osb_replies.specs.Text.{reply_text}
use Rattle.osb_broker.specs.Connection.{looked_for}
use Rattle.osb_broker.specs.Repeats.{without_repeats, neighbours_once}
use Rattle.osb_broker.specs.Apart.{Chooses, picked}
use Rattle.osb_broker.specs.Refusals.{says_500}
use Rattle.osb_broker.specs.Attempts.{AttemptOutcome, answered, failed, lost, Attempt, that_acted, connections_of, IsPatient}
use Rattle.osb_broker.specs.Reported.{is_reading, request_was_answered}
use Rattle.osb_broker.specs.Conversations.{Conversation, IsNoAnswer, IsAttemptOf, AreAttemptsOf}
use Rattle.osb_broker.specs.Replied.{SomeGotAnswer}
use Rattle.osb_broker.specs.Shards.{asks_here, is_answerable, is_at, went_to}
use Rattle.osb_broker.specs.Logins.{is_of_backend, ShareOne}

abbrev a : List ℕ
a = 97 ∷ []

abbrev b : List ℕ
b = 98 ∷ []

-- ---- how many requests are looked for

none_behind_a_marked_one : looked_for 3 (false ∷ true ∷ []) ≡ 2
none_behind_a_marked_one = refl

all_where_none_is_marked : looked_for 3 (false ∷ []) ≡ 3
all_where_none_is_marked = refl

no_more_than_may_come : looked_for 1 (false ∷ true ∷ []) ≡ 1
no_more_than_may_come = refl

-- ---- runs: the marks of a connection with one request, and of one without a request

abbrev met : List Bool
met = true ∷ []

abbrev met_none : List Bool
met_none = false ∷ []

-- a request that is sent again counts once, where one of the two met no refusal
repeat_counts_once : without_repeats (a ∷ a ∷ b ∷ a ∷ []) (met ∷ met_none ∷ met ∷ [] ∷ []) ≡ a ∷ a ∷ []
repeat_counts_once = refl

-- one that only met refusals doesn't count
refused_counts_not : without_repeats (a ∷ a ∷ b ∷ []) (met ∷ met ∷ met_none ∷ []) ≡ b ∷ []
refused_counts_not = refl

-- one that comes again after another counts again
later_counts_again : without_repeats (a ∷ b ∷ a ∷ []) (met_none ∷ met_none ∷ met_none ∷ []) ≡ a ∷ b ∷ a ∷ []
later_counts_again = refl

-- ---- what a run has of one instance

chosen_are_picked : picked (true ∷ false ∷ true ∷ []) (a ∷ b ∷ b ∷ []) ≡ a ∷ b ∷ []
chosen_are_picked = refl

-- each connection has its place
none_is_left_out : (P : List ℕ → Type 0) → Chooses P (true ∷ []) (a ∷ b ∷ []) → ⊥
none_is_left_out P (it, none) = none

-- ---- refusals

the_500_is_seen : says_500 (codes "HTTP/1.1 500 Internal Server Error") ≡ true
the_500_is_seen = refl

another_is_none : says_500 (codes "HTTP/1.1 502 Bad Gateway") ≡ false
another_is_none = refl

-- one in the body is none
body_is_none : says_500 (codes "HTTP/1.1 200 OK: HTTP/1.1 500") ≡ false
body_is_none = refl

-- ---- attempts

abbrev made : List ℕ → AttemptOutcome → Attempt
made bytes outcome = record { bytes = bytes; outcome = outcome }

-- a repeat counts once, whatever failed in between
repeat_after_failure : neighbours_once (that_acted (made a lost ∷ made b failed ∷ made a (answered []) ∷ [])) ≡ a ∷ []
repeat_after_failure = refl

-- another request that was carried out in between counts, though its answer was lost
repeat_after_another : neighbours_once (that_acted (made a lost ∷ made b lost ∷ made a (answered []) ∷ [])) ≡ a ∷ b ∷ a ∷ []
repeat_after_another = refl

-- nothing that only failed counts
failed_counts_not : neighbours_once (that_acted (made a failed ∷ made a failed ∷ [])) ≡ []
failed_counts_not = refl

-- a patient client of two requests
abbrev both : List Attempt
both = made a failed ∷ made a lost ∷ made a (answered []) ∷ made b lost ∷ made b (answered []) ∷ []

is_patient : IsPatient both
is_patient = (inr refl, (inr refl, (inl refl, (inr refl, (refl, tt)))))

asks_for_two : neighbours_once (connections_of both) ≡ a ∷ b ∷ []
asks_for_two = refl

-- one that goes on to another request after a failure isn't patient
goes_on : IsPatient (made a failed ∷ made b (answered []) ∷ []) → ⊥
goes_on (inl e, later) = absurd (false≢true e)
goes_on (inr e, later) = absurd (false≢true ((bytes_eq-Decides b a).1 e))

-- nor is one that gives up
gives_up : IsPatient (made a lost ∷ []) → ⊥
gives_up (e, later) = absurd (false≢true e)

-- ---- reports in between

-- the request was answered, whatever else was
answered_once : request_was_answered a (made a lost ∷ made b (answered []) ∷ made a (answered []) ∷ []) ≡ true
answered_once = refl

-- what another request got is no answer to it
answered_another : request_was_answered a (made a lost ∷ made b (answered []) ∷ made a failed ∷ []) ≡ false
answered_another = refl

-- a fetch may come in between
reads_a : is_reading (Fetch (record { instance = a })) ≡ true
reads_a = refl

-- ---- conversations

-- a client that sent these bytes at once, was sent those, and to which so many writes failed
abbrev said : List ℕ → List ℕ → ℕ → Conversation
said bytes sent count = record { calls = Some bytes ∷ []; sent = sent; failed = count; met_fault = false }

-- the fixed 500 doesn't tell whether the request was carried out
lost_or_failed : AreAttemptsOf (said a (reply_text refused) 0 ∷ said a (reply_text refused) 0 ∷ []) (made a lost ∷ made a failed ∷ [])
lost_or_failed = (record { bytes = refl; sent = λ whole. inl refl }, (record { bytes = refl; sent = λ whole. inl refl }, tt))

-- any other text is that of a request that was answered
another_was_answered : IsAttemptOf (said a b 0) (made a lost) → ⊥
unfolding reply_text
another_was_answered is = by (is.sent refl)
  where
    by : IsNoAnswer b → ⊥
    by (inl same) = false≢true ((bytes_eq-Decides b (reply_text refused)).1 same)
    by (inr none) = false≢true ((bytes_eq-Decides b []).1 none)

-- where a write failed, what was sent says nothing
a_failure_says_nothing : IsAttemptOf (said a b 1) (made a lost)
a_failure_says_nothing = record { bytes = refl; sent = λ whole. absurd (omega (arith, whole)) }

-- no client's attempt is left out, and none is made up
each_made_one : AreAttemptsOf (said a [] 0 ∷ []) [] → ⊥
each_made_one none = none

none_is_made_up : AreAttemptsOf [] (made a failed ∷ []) → ⊥
none_is_made_up none = none

-- what another request got is no answer, nor is the fixed 500
not_of_another : SomeGotAnswer a (said b b 0 ∷ []) → ⊥
not_of_another (inl (is, got)) = false≢true ((bytes_eq-Decides b a).1 is)
not_of_another (inr none) = none

not_the_500 : SomeGotAnswer a (said a (reply_text refused) 0 ∷ []) → ⊥
not_the_500 (inl (is, (whole, other))) = other (inl refl)
not_the_500 (inr none) = none

-- ---- several brokers

-- the broker of the instance a
abbrev has_a : List ℕ → Bool
has_a id = bytes_eq id a

its_own : is_answerable has_a (Ok (Fetch (record { instance = a }))) ≡ true
its_own = refl

another_is_not : is_answerable has_a (Ok (Fetch (record { instance = b }))) ≡ false
another_is_not = refl

-- any broker has the catalog and the answers to faults, and none the listing of all instances
catalog_anywhere : is_answerable has_a (Ok Catalog) ≡ true
catalog_anywhere = refl

fault_anywhere : is_answerable has_a (Err Auth) ≡ true
fault_anywhere = refl

listing_nowhere : is_answerable (λ id. true) (Ok (Orders (record { after = None }))) ≡ false
listing_nowhere = refl

-- what names no instance is asked of none
catalog_of_none : asks_here (λ id. true) (Ok Catalog) ≡ false
catalog_of_none = refl

-- of three connections, those that went to the broker 1
sent_on : picked (went_to 1 (0 ∷ 1 ∷ 1 ∷ [])) (a ∷ b ∷ a ∷ []) ≡ b ∷ a ∷ []
sent_on = refl

-- by the length of its id, an instance whose id has one byte belongs to the broker 1
by_its_id : is_at (λ id. length id) 1 a ≡ true
by_its_id = refl

-- ---- logins

lists_for_the_backend : is_of_backend (Orders (record { after = None })) ≡ true
lists_for_the_backend = refl

fetches_for_the_platform : is_of_backend (Fetch (record { instance = a })) ≡ false
fetches_for_the_platform = refl

-- of two and two, the second of the one is the first of the other
share_the_second : ShareOne (a ∷ b ∷ []) (b ∷ [] ∷ [])
share_the_second = (1, b, omega arith, refl, (0, b, omega arith, refl, refl))

the_only_one : (t x : List ℕ) (k : ℕ) → k < 1 → slice_index_or (t ∷ []) k x ≡ x → t ≡ x
the_only_one t x zero first is = is
the_only_one t x (suc k) first is = absurd (omega arith)

-- with one login each, they share one only if both have the same
share_the_only_one : (t u : List ℕ) → ShareOne (t ∷ []) (u ∷ []) → t ≡ u
share_the_only_one t u share =
    the_only_one t share.1 share.0 share.2 share.3 ∙ share.4.4 ∙ sym (the_only_one u share.4.1 share.4.0 share.4.2 share.4.3)
