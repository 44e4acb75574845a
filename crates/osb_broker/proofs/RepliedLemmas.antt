-- A client that got an answer knows that its request acted once.
use Rattle.std.proofs.Common.{◌≡◌, ◌∙◌, ◌⊎◌, ℕ, inl, inr, Bool, true, false, ◌&&◌, ◌||◌, List, [], ◌∷◌, refl, sym, ap, subst}
use Rattle.std.specs.Prelude.{bytes_eq}
use Rattle.std.proofs.lemmas.Slice.Eq.{bytes_eq-Decides}
use Rattle.osb_frames.specs.declared.limits.Limits.{Limits}
use Rattle.osb_catalog.specs.Rules.{Rules}
use Rattle.osb_orders.specs.Lives.{Lives, life_of}
use Rattle.osb_orders.specs.IsLife.{IsLives}
use Rattle.osb_laws.specs.Reported.{next_number, IsOnce}
use Rattle.osb_broker.specs.Steps.{lives_after}
use Rattle.osb_broker.specs.Apart.{AsksOf}
use Rattle.osb_broker.specs.Attempts.{AttemptOutcome, answered, failed, lost, Attempt, answers, is_answered}
use Rattle.osb_broker.specs.Histories.{History}
use Rattle.osb_broker.specs.ActsOnce.{Carried}
use Rattle.osb_broker.specs.Reported.{IsAgainOrBeside, CarriedBeside, request_was_answered}
use Rattle.osb_broker.specs.Conversations.{Conversation, AreEpisodes, all_conversations, IsNoAnswer, WasSent, AreAttemptsOf}
use Rattle.osb_broker.specs.Replied.{OfEachClient, SomeGotAnswer}
use Rattle.osb_broker.proofs.ReportedLemmas.{leaves_beside, once_beside, at_most_once_beside}
use Rattle.osb_broker.proofs.ConversationLemmas.{are_histories}

or_true : (b : Bool) → (b || true) ≡ true
or_true true = refl
or_true false = refl

pub knows : (outcome : AttemptOutcome) (sent : List ℕ) → WasSent outcome sent → ¬ IsNoAnswer sent → answers outcome ≡ true
knows (answered texts) sent was other = refl
knows failed sent was other = absurd (other was)
knows lost sent was other = absurd (other was)

-- the request was answered where a client got an answer
came : (bytes : List ℕ) (conversations : List Conversation) (attempts : List Attempt) → AreAttemptsOf conversations attempts → SomeGotAnswer bytes conversations → request_was_answered bytes attempts ≡ true
came bytes [] attempts are got = absurd got
came bytes (c ∷ cs) [] are got = absurd are
came bytes (c ∷ cs) (a ∷ later) (first, are) (inl (is, (whole, other))) =
    ap (λ b. (b && is_answered a) || request_was_answered bytes later) ((bytes_eq-Decides a.bytes bytes).1 (first.bytes ∙ is))
    ∙ ap (λ b. b || request_was_answered bytes later) (knows a.outcome c.sent (first.sent whole) other)
came bytes (c ∷ cs) (a ∷ later) (first, are) (inr got) =
    ap (λ b. (bytes_eq a.bytes bytes && is_answered a) || b) (came bytes cs later are got) ∙ or_true (bytes_eq a.bytes bytes && is_answered a)

module _ (rules : Rules) (limits : Limits) (id : List ℕ) (number : ℕ) (bytes : List ℕ) where
  abbrev Such : List ℕ → Type 0
  Such other = AsksOf rules limits id other → IsAgainOrBeside rules limits id number bytes other

  beside : (s : Lives) (conversations : List Conversation) (attempts : List Attempt) (t : Lives) → AreAttemptsOf conversations attempts → OfEachClient Such conversations → History (Carried rules limits) s attempts t → History (CarriedBeside rules limits id number bytes) s attempts t
  beside s [] [] t are each history = history
  beside s [] (a ∷ later) t are each history = absurd are
  beside s (c ∷ cs) [] t are each history = absurd are
  beside s (c ∷ cs) (a ∷ later) t (first, are) each (u, left, history) =
      (u, leaves_beside rules limits id number bytes s u a.bytes a.outcome (subst Such (sym first.bytes) each.0) left, beside u cs later t are each.1 history)

pub once : (rules : Rules) (limits : Limits) (old : Lives) (episodes : List (List Conversation)) (new : Lives) (id bytes : List ℕ) → IsLives old → (asked : AsksOf rules limits id bytes) → AreEpisodes rules limits 1 old episodes new
    → OfEachClient (λ other. AsksOf rules limits id other → IsAgainOrBeside rules limits id (next_number old id) bytes other) (all_conversations episodes)
    → SomeGotAnswer bytes (all_conversations episodes) → IsOnce (life_of (lives_after rules old asked.q) id) (life_of new id)
once rules limits old episodes new id bytes whole asked all each got =
    let (attempts, are, history) = are_histories rules limits old episodes new all in
    once_beside rules limits old attempts new id bytes whole asked (beside rules limits id (next_number old id) bytes old (all_conversations episodes) attempts new are each history) (came bytes (all_conversations episodes) attempts are got)

pub most : (rules : Rules) (limits : Limits) (old : Lives) (episodes : List (List Conversation)) (new : Lives) (id bytes : List ℕ) → IsLives old → (asked : AsksOf rules limits id bytes) → AreEpisodes rules limits 1 old episodes new
    → OfEachClient (λ other. AsksOf rules limits id other → IsAgainOrBeside rules limits id (next_number old id) bytes other) (all_conversations episodes)
    → (life_of new id ≡ life_of old id) ⊎ IsOnce (life_of (lives_after rules old asked.q) id) (life_of new id)
most rules limits old episodes new id bytes whole asked all each =
    let (attempts, are, history) = are_histories rules limits old episodes new all in
    at_most_once_beside rules limits old attempts new id bytes whole asked (beside rules limits id (next_number old id) bytes old (all_conversations episodes) attempts new are each history)
