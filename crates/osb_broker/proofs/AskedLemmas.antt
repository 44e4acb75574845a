-- What is asked again and again acts once, whichever connections carry it.
use Rattle.std.proofs.Common.{◌≡◌, ◌∙◌, ◌⊎◌, ℕ, inl, inr, Bool, true, false, List, [], ◌∷◌, length, Option, None, Some, Result, Ok, Err, sym, refl, ap, subst}
use Rattle.std.specs.Prelude.{bytes_eq}
use Rattle.std.proofs.lemmas.List.{append-nil}
use Rattle.std.proofs.lemmas.Slice.Eq.{bytes_eq-Decides}
use Rattle.osb_frames.specs.declared.limits.Limits.{Limits}
use Rattle.osb_frames.specs.Calls.{all_bytes}
use Rattle.osb_frames.specs.Cuts.{Message, whole, IsFront}
use Rattle.osb_frames.proofs.FrontLemmas.{front_unique}
use Rattle.osb_replies.specs.declared.write.WriteFault.{WriteFault}
use Rattle.osb_catalog.specs.Rules.{Rules}
use Rattle.osb_asks.specs.declared.ask.Ask.{Ask}
use Rattle.osb_asks.specs.declared.ask_fault.AskFault.{AskFault}
use Rattle.osb_asks.specs.Asks.{ask_of}
use Rattle.osb_asks.specs.Subjects.{instance_id_of}
use Rattle.osb_orders.specs.Lives.{Lives, life_of}
use Rattle.osb_orders.specs.IsLife.{IsLives}
use Rattle.osb_orders.specs.declared.order.Change.{Change}
use Rattle.osb_machine.specs.Machine.{answer_to, after_step}
use Rattle.osb_laws.specs.Reported.{next_number, IsOnce}
use Rattle.osb_laws.proofs.MapLemmas.{others_stay, unnamed_stay}
use Rattle.osb_laws.proofs.ReportedLemmas as laws
use Rattle.osb_broker.specs.Steps.{step_for, lives_after}
use Rattle.osb_broker.specs.Attempts.{AttemptOutcome, answered, failed, lost, answers}
use Rattle.osb_broker.specs.Histories.{Leaves}
use Rattle.osb_broker.specs.ActsOnce.{Carried}
use Rattle.osb_broker.specs.Conversations.{Conversation}
use Rattle.osb_broker.specs.Replied.{GotAnswer}
use Rattle.osb_broker.specs.Exchanges.{Exchange, IsAnswered, IsSaid, IsExchange, AreExchanges, all_exchanges}
use Rattle.osb_broker.specs.Asked.{Asks, IsAskedIn, OfEachAsk, SomeWasAnswered, IsAgainOrBesideIt, AskedAgainActsOnce, AskedAgainActsAtMostOnce}
use Rattle.osb_broker.proofs.RequestLemmas.{Kind, silent, broken, asks, agree, after_one}
use Rattle.osb_broker.proofs.ActsOnceLemmas.{shown}
use Rattle.osb_broker.proofs.ConversationLemmas.{attempted}
use Rattle.osb_broker.proofs.LastLemmas.{conversation_of}
use Rattle.osb_broker.proofs.RepliedLemmas.{knows}
use Rattle.osb_broker.proofs.ReportedLemmas.{reading_stays}
use Rattle.osb_broker.proofs.ExchangeLemmas.{runs_go_on}

-- ---- what an exchange does to the lives

module _ (rules : Rules) (limits : Limits) where
  -- nothing, or the step of the request that was read
  abbrev Moves : Lives → List ℕ → Lives → Type 0
  Moves old bytes new = (new ≡ old) ⊎ ((q : Message) × (n : ℕ) × IsFront limits bytes (whole q n) × (new ≡ lives_after rules old q))

  carried_moves : (old new : Lives) (bytes : List ℕ) (texts : List (List ℕ)) → Carried rules limits old bytes texts new → Moves old bytes new
  carried_moves old new bytes texts c = let p = shown rules limits old bytes texts new c in by p.kind p.is
    where
      by : (kind : Kind limits bytes) → new ≡ after_one rules limits bytes kind old → Moves old bytes new
      by (silent none) is = inl is
      by (broken f at) is = inl is
      by (asks q n at) is = inr (q, n, at, is)

  outcome_moves : (old new : Lives) (bytes : List ℕ) (outcome : AttemptOutcome) → Leaves (Carried rules limits) old bytes outcome new → Moves old bytes new
  outcome_moves old new bytes (answered texts) c = carried_moves old new bytes texts c
  outcome_moves old new bytes failed same = inl same
  outcome_moves old new bytes lost (texts, c) = carried_moves old new bytes texts c

  front_of : (old new : Lives) (said : Conversation) (result : Result (Unit {0}) WriteFault) (it : IsAnswered rules limits old said result new) → IsFront limits (all_bytes said.calls) (whole it.q (length (all_bytes said.calls)))
  front_of old new said result it = subst (λ l. IsFront limits l (whole it.q (length (all_bytes said.calls)))) (append-nil (all_bytes said.calls)) (it.exact [])

  answered_moves : (old new : Lives) (said : Conversation) (result : Result (Unit {0}) WriteFault) → IsAnswered rules limits old said result new → Moves old (all_bytes said.calls) new
  answered_moves old new said result it = inr (it.q, length (all_bytes said.calls), front_of old new said result it, it.leaves)

  said_moves : (more : ℕ) (stays : Bool) (old new : Lives) (said : Conversation) → IsSaid rules limits more stays old said new → Moves old (all_bytes said.calls) new
  said_moves more true old new said (some, it) = answered_moves old new said (Ok tt) it
  said_moves more false old new said (inl it) = let one = attempted rules limits old said new (conversation_of rules limits old said new it) in outcome_moves old new (all_bytes said.calls) one.0 one.1
  said_moves more false old new said (inr (some, fault, it)) = answered_moves old new said (Err fault) it

  -- nothing, or the step of what it asks
  abbrev AsksOne : Lives → List ℕ → Lives → Type 0
  AsksOne old bytes new = (new ≡ old) ⊎ ((other : Ask) × Asks rules limits bytes other × (new ≡ after_step rules old other))

  asks_one : (old new : Lives) (bytes : List ℕ) → Moves old bytes new → AsksOne old bytes new
  asks_one old new bytes (inl same) = inl same
  asks_one old new bytes (inr (q, n, front, is)) = by (ask_of rules q) refl
    where
      by : (read : Result Ask AskFault) → ask_of rules q ≡ read → AsksOne old bytes new
      by (Ok other) e = inr (other, record { q = q; n = n; front = front; asks = e }, is ∙ ap (λ r. (step_for rules old r).1) e)
      by (Err fault) e = inl (is ∙ ap (λ r. (step_for rules old r).1) e)

  pub does : (k : ℕ) (x : Exchange) (old new : Lives) → IsExchange rules limits k old x new → AsksOne old (all_bytes x.said.calls) new
  does k x old new (more, count, is) = asks_one old new (all_bytes x.said.calls) (said_moves more x.stays old new x.said is)

  -- ---- one that got an answer took its request's step

  carried_acts : (old new : Lives) (bytes : List ℕ) (texts : List (List ℕ)) (q : Message) (n : ℕ) → IsFront limits bytes (whole q n) → Carried rules limits old bytes texts new → new ≡ lives_after rules old q
  carried_acts old new bytes texts q n front c =
      let p = shown rules limits old bytes texts new c in
      p.is ∙ agree rules limits bytes p.kind (asks q n front) old

  outcome_acts : (old new : Lives) (bytes : List ℕ) (outcome : AttemptOutcome) (q : Message) (n : ℕ) → IsFront limits bytes (whole q n) → answers outcome ≡ true → Leaves (Carried rules limits) old bytes outcome new → new ≡ lives_after rules old q
  outcome_acts old new bytes (answered texts) q n front e c = carried_acts old new bytes texts q n front c
  outcome_acts old new bytes failed q n front e c = cc
  outcome_acts old new bytes lost q n front e c = cc

  answered_acts : (old new : Lives) (said : Conversation) (result : Result (Unit {0}) WriteFault) (q : Message) (n : ℕ) → IsFront limits (all_bytes said.calls) (whole q n) → IsAnswered rules limits old said result new → new ≡ lives_after rules old q
  answered_acts old new said result q n front it =
      let one_front = front_unique limits (all_bytes said.calls) (whole it.q (length (all_bytes said.calls))) (whole q n) (front_of old new said result it) front in
      let one : it.q ≡ q = cc in
      it.leaves ∙ ap (λ p. lives_after rules old p) one

  said_acts : (more : ℕ) (stays : Bool) (old new : Lives) (said : Conversation) (q : Message) (n : ℕ) → IsFront limits (all_bytes said.calls) (whole q n) → GotAnswer said → IsSaid rules limits more stays old said new → new ≡ lives_after rules old q
  said_acts more true old new said q n front got (some, it) = answered_acts old new said (Ok tt) q n front it
  said_acts more false old new said q n front got (inl it) =
      let one = attempted rules limits old said new (conversation_of rules limits old said new it) in
      outcome_acts old new (all_bytes said.calls) one.0 q n front (knows one.0 said.sent (one.2 got.0) got.1) one.1
  said_acts more false old new said q n front got (inr (some, fault, it)) = answered_acts old new said (Err fault) q n front it

  acts : (k : ℕ) (x : Exchange) (ask : Ask) (old new : Lives) → IsExchange rules limits k old x new → IsAskedIn rules limits ask x → GotAnswer x.said → new ≡ after_step rules old ask
  acts k x ask old new (more, count, is) this got =
      said_acts more x.stays old new x.said this.q this.n this.front got is ∙ ap (λ r. (step_for rules old r).1) this.asks

-- ---- an ask that leaves an instance its life, or is about it

-- an ask is about the instance, or leaves it its life
pub about : (rules : Rules) (id : List ℕ) (old new : Lives) (other : Ask) → new ≡ after_step rules old other → (life_of new id ≡ life_of old id) ⊎ (instance_id_of other ≡ Some id)
about rules id old new other is = by (instance_id_of other) refl
  where
    by : (found : Option (List ℕ)) → instance_id_of other ≡ found → (life_of new id ≡ life_of old id) ⊎ (instance_id_of other ≡ Some id)
    by None e = inl (ap (λ lives. life_of lives id) (is ∙ unnamed_stay rules old other e))
    by (Some it) e = at (bytes_eq it id) refl
      where
        at : (b : Bool) → bytes_eq it id ≡ b → (life_of new id ≡ life_of old id) ⊎ (instance_id_of other ≡ Some id)
        at true t = inr (e ∙ ap Some ((bytes_eq-Decides it id).0 t))
        at false t = inl (ap (λ lives. life_of lives id) is ∙ others_stay rules old other it id e (λ same.
            let sure : bytes_eq it id ≡ true = (bytes_eq-Decides it id).1 (sym same) in
            let bad : true ≡ false = sym sure ∙ t in
            cc))

-- ---- again and again

module _ (rules : Rules) (limits : Limits) (first : Lives) (id : List ℕ) (ask : Ask) (kept : IsLives first) (named : instance_id_of ask ≡ Some id) where
  abbrev made : Change
  made = (answer_to rules first ask).change

  -- the life is that of before, or the one that the ask leaves, but for reports
  abbrev IsBefore : Lives → Type 0
  IsBefore lives = life_of lives id ≡ life_of first id

  abbrev HasActed : Lives → Type 0
  HasActed lives = laws.Acted rules first ask id kept named made (life_of lives id)

  abbrev IsEither : Lives → Type 0
  IsEither lives = IsBefore lives ⊎ HasActed lives

  acted_stays : (old new : Lives) → life_of new id ≡ life_of old id → HasActed old → HasActed new
  acted_stays old new same acted = subst (λ life. laws.Acted rules first ask id kept named made life) (sym same) acted

  either_stays : (old new : Lives) → life_of new id ≡ life_of old id → IsEither old → IsEither new
  either_stays old new same (inl is) = inl (same ∙ is)
  either_stays old new same (inr acted) = inr (acted_stays old new same acted)

  asked : (old new : Lives) → new ≡ after_step rules old ask → IsEither old → HasActed new
  asked old new is (inl same) = subst HasActed (sym is) (laws.first rules first ask id kept named old same)
  asked old new is (inr acted) = acted_stays old new (ap (λ lives. life_of lives id) is ∙ laws.again rules first ask id kept named old acted) acted

  abbrev MayBe : Ask → Type 0
  MayBe = IsAgainOrBesideIt id (next_number first id) ask

  may_be_either : (old new : Lives) (other : Ask) → new ≡ after_step rules old other → MayBe other → IsEither old → IsEither new
  may_be_either old new other is (inl same) at = inr (asked old new (is ∙ ap (λ a. after_step rules old a) same) at)
  may_be_either old new other is (inr (inl reports)) (inl same) = inl (ap (λ lives. life_of lives id) is ∙ laws.reported_before rules first ask id kept named old other reports same)
  may_be_either old new other is (inr (inl reports)) (inr acted) = inr (subst HasActed (sym is) (laws.reported_after rules first ask id kept named old other reports acted))
  may_be_either old new other is (inr (inr reads)) at = either_stays old new (ap (λ lives. life_of lives id) (is ∙ reading_stays rules old other reads)) at

  may_be_acted : (old new : Lives) (other : Ask) → new ≡ after_step rules old other → MayBe other → HasActed old → HasActed new
  may_be_acted old new other is (inl same) acted = asked old new (is ∙ ap (λ a. after_step rules old a) same) (inr acted)
  may_be_acted old new other is (inr (inl reports)) acted = subst HasActed (sym is) (laws.reported_after rules first ask id kept named old other reports acted)
  may_be_acted old new other is (inr (inr reads)) acted = acted_stays old new (ap (λ lives. life_of lives id) (is ∙ reading_stays rules old other reads)) acted

  abbrev Such : Exchange → Type 0
  Such x = (other : Ask) → IsAskedIn rules limits other x → instance_id_of other ≡ Some id → MayBe other

  -- what holds of the lives before an exchange and stays with what may be asked holds behind it
  one : (P : Lives → Type 0) → ((old new : Lives) → life_of new id ≡ life_of old id → P old → P new) → ((old new : Lives) (other : Ask) → new ≡ after_step rules old other → MayBe other → P old → P new) → (k : ℕ) (x : Exchange) (old new : Lives) → IsExchange rules limits k old x new → Such x → P old → P new
  one P stays steps k x old new is such at = by (does rules limits k x old new is)
    where
      by : AsksOne rules limits old (all_bytes x.said.calls) new → P new
      by (inl same) = stays old new (ap (λ lives. life_of lives id) same) at
      by (inr (other, this, leaves)) = of (about rules id old new other leaves)
        where
          of : (life_of new id ≡ life_of old id) ⊎ (instance_id_of other ≡ Some id) → P new
          of (inl same) = stays old new same at
          of (inr its) = steps old new other leaves (such other this its) at

  all : (P : Lives → Type 0) → ((old new : Lives) → life_of new id ≡ life_of old id → P old → P new) → ((old new : Lives) (other : Ask) → new ≡ after_step rules old other → MayBe other → P old → P new) → (k : ℕ) (old : Lives) (exchanges : List Exchange) (new : Lives) → AreExchanges rules limits k old exchanges new → OfEachAsk rules limits id MayBe exchanges → P old → P new
  all P stays steps k old [] new none each at = stays old new (ap (λ lives. life_of lives id) none) at
  all P stays steps k old (x ∷ later) new (lives, is, rest) each at =
      all P stays steps k lives later new rest each.1 (one P stays steps k x old lives is each.0 at)

  all_either : (k : ℕ) (old : Lives) (exchanges : List Exchange) (new : Lives) → AreExchanges rules limits k old exchanges new → OfEachAsk rules limits id MayBe exchanges → IsEither old → IsEither new
  all_either = all IsEither either_stays may_be_either

  all_acted : (k : ℕ) (old : Lives) (exchanges : List Exchange) (new : Lives) → AreExchanges rules limits k old exchanges new → OfEachAsk rules limits id MayBe exchanges → HasActed old → HasActed new
  all_acted = all HasActed acted_stays may_be_acted

  some_answered : (k : ℕ) (old : Lives) (exchanges : List Exchange) (new : Lives) → AreExchanges rules limits k old exchanges new → OfEachAsk rules limits id MayBe exchanges → SomeWasAnswered rules limits ask exchanges → IsEither old → HasActed new
  some_answered k old [] new none each came at = absurd came
  some_answered k old (x ∷ later) new (lives, is, rest) each (inl (this, got)) at =
      all_acted k lives later new rest each.1 (asked old lives (acts rules limits k x ask old lives is this got) at)
  some_answered k old (x ∷ later) new (lives, is, rest) each (inr came) at =
      some_answered k lives later new rest each.1 came (one IsEither either_stays may_be_either k x old lives is each.0 at)

  once : (lives : Lives) → HasActed lives → IsOnce (life_of (after_step rules first ask) id) (life_of lives id)
  once lives acted = laws.at_least rules first ask id kept named made (life_of lives id) acted

pub acts_once : AskedAgainActsOnce
acts_once rules limits k old runs new id ask kept named are each came =
    once rules limits old id ask kept named new
    (some_answered rules limits old id ask kept named k old (all_exchanges runs) new (runs_go_on rules limits k old runs new are) each came (inl refl))

pub acts_at_most_once : AskedAgainActsAtMostOnce
acts_at_most_once rules limits k old runs new id ask kept named are each =
    by (all_either rules limits old id ask kept named k old (all_exchanges runs) new (runs_go_on rules limits k old runs new are) each (inl refl))
  where
    by : IsEither rules limits old id ask kept named new → (life_of new id ≡ life_of old id) ⊎ IsOnce (life_of (after_step rules old ask) id) (life_of new id)
    by (inl same) = inl same
    by (inr acted) = inr (once rules limits old id ask kept named new acted)
