-- A request that is made until it is answered acts once, also where the backend reports its order in between.
use Rattle.std.proofs.Common.{◌≡◌, ℕ, ◌⊎◌, inl, inr, Bool, true, false, ◌&&◌, ◌||◌, List, [], ◌∷◌, Ok, refl, sym, ap, subst, ◌∙◌}
use Rattle.std.specs.Prelude.{bytes_eq}
use Rattle.std.proofs.lemmas.Slice.Eq.{bytes_eq-Decides}
use Rattle.osb_frames.specs.declared.limits.Limits.{Limits}
use Rattle.osb_frames.specs.Cuts.{Message, whole, IsFront}
use Rattle.osb_catalog.specs.Rules.{Rules}
use Rattle.osb_asks.specs.declared.ask.Ask.{Ask}
use Rattle.osb_asks.specs.declared.ask.Ask.TheVariants as the
use Rattle.osb_asks.specs.Asks.{ask_of}
use Rattle.osb_orders.specs.declared.order.Change.{Change}
use Rattle.osb_orders.specs.declared.order.Change.TheVariants.{Nothing}
use Rattle.osb_orders.specs.declared.order.OrderKind.TheVariants as kind
use Rattle.osb_orders.specs.ViewData.{view_of}
use Rattle.osb_asks.specs.Subjects.{instance_id_of}
use Rattle.osb_orders.specs.Lives.{Lives, life_of}
use Rattle.osb_orders.specs.IsLife.{IsLives}
use Rattle.osb_machine.specs.Machine.{answer_to, after_step}
use Rattle.osb_laws.specs.Reported.{next_number, IsOnce}
use Rattle.osb_laws.proofs.MapLemmas.{quiet_step}
use Rattle.osb_laws.proofs.ReportedLemmas as laws
use Rattle.osb_laws.proofs.StepLemmas.{fetch_quiet, fetch_binding_quiet, poll_quiet}
use Rattle.osb_broker.specs.Steps.{step_for, lives_after}
use Rattle.osb_broker.specs.Apart.{AsksOf}
use Rattle.osb_broker.specs.Attempts.{AttemptOutcome, answered, failed, lost, Attempt, answers, is_answered}
use Rattle.osb_broker.specs.Histories.{Leaves, History, Picks}
use Rattle.osb_broker.specs.ActsOnce.{Carried}
use Rattle.osb_broker.specs.Reported.{Reports, is_reading, IsAgainOrBeside, CarriedBeside, request_was_answered, AreOfOneAndReports}
use Rattle.osb_broker.proofs.RequestLemmas.{asks, agree}
use Rattle.osb_broker.proofs.RepeatLemmas.{late}
use Rattle.osb_broker.proofs.ApartLemmas.{decide, stays}
use Rattle.osb_broker.proofs.ActsOnceLemmas.{shown}

module _ (rules : Rules) (limits : Limits) where
  -- what was carried out, of bytes whose first request is known
  carried_is : (s t : Lives) (bytes : List ℕ) (x : List (List ℕ)) (q : Message) (n : ℕ) → IsFront limits bytes (whole q n) → Carried rules limits s bytes x t → t ≡ lives_after rules s q
  carried_is s t bytes x q n front c =
      let p = shown rules limits s bytes x t c in
      p.is ∙ agree rules limits bytes p.kind (asks q n front) s

  pub asked_is : (s t : Lives) (bytes : List ℕ) (x : List (List ℕ)) (q : Message) (n : ℕ) (ask : Ask) → IsFront limits bytes (whole q n) → ask_of rules q ≡ Ok ask → Carried rules limits s bytes x t → t ≡ after_step rules s ask
  asked_is s t bytes x q n ask front is c = carried_is s t bytes x q n front c ∙ ap (λ r. (step_for rules s r).1) is

  pub unnamed : (id : List ℕ) (s u : Lives) (other : List ℕ) (x : List (List ℕ)) → (AsksOf rules limits id other → ⊥) → Carried rules limits s other x u → life_of u id ≡ life_of s id
  unnamed id s u other x differs c =
      let p = shown rules limits s other x u c in
      stays rules limits (late rules) id other p.kind s p.marks x u p.seen differs

  module _ (lives : Lives) (id bytes : List ℕ) (h : IsLives lives) (own : AsksOf rules limits id bytes) where
    abbrev Own : Lives → Type 0
    Own s = life_of s id ≡ life_of lives id

    abbrev made : Change
    made = (answer_to rules lives own.ask).change

    abbrev Acted : Lives → Type 0
    Acted s = laws.Acted rules lives own.ask id h own.names made (life_of s id)

    abbrev Either : Lives → Type 0
    Either s = Own s ⊎ Acted s

    abbrev Beside : Lives → List ℕ → List (List ℕ) → Lives → Type 0
    Beside = CarriedBeside rules limits id (next_number lives id) bytes

    -- the request
    makes : (s u : Lives) (x : List (List ℕ)) → Carried rules limits s bytes x u → Either s → Acted u
    makes s u x c (inl same) =
        subst Acted (sym (asked_is s u bytes x own.q own.n own.ask own.front own.asks c)) (laws.first rules lives own.ask id h own.names s same)
    makes s u x c (inr acted) =
        subst (λ l. laws.Acted rules lives own.ask id h own.names made l)
        (sym (ap (λ l. life_of l id) (asked_is s u bytes x own.q own.n own.ask own.front own.asks c) ∙ laws.again rules lives own.ask id h own.names s acted)) acted

    stays_acted : (s u : Lives) → life_of u id ≡ life_of s id → Acted s → Acted u
    stays_acted s u same acted = subst (λ l. laws.Acted rules lives own.ask id h own.names made l) (sym same) acted

    stays_either : (s u : Lives) → life_of u id ≡ life_of s id → Either s → Either u
    stays_either s u same (inl own_is) = inl (same ∙ own_is)
    stays_either s u same (inr acted) = inr (stays_acted s u same acted)

    reports : (s u : Lives) (other : List ℕ) (x : List (List ℕ)) → Reports rules limits id (next_number lives id) other → Carried rules limits s other x u → Either s → Either u
    reports s u other x r c (inl same) = inl (ap (λ l. life_of l id) (asked_is s u other x r.q r.n r.ask r.front r.asks c) ∙ laws.reported_before rules lives own.ask id h own.names s r.ask r.reports same)
    reports s u other x r c (inr acted) = inr (subst Acted (sym (asked_is s u other x r.q r.n r.ask r.front r.asks c)) (laws.reported_after rules lives own.ask id h own.names s r.ask r.reports acted))

    one_step : (s u : Lives) (other : List ℕ) (x : List (List ℕ)) → Beside s other x u → Either s → Either u
    one_step s u other x (c, beside) at = by (decide rules limits id other (shown rules limits s other x u c).kind)
      where
        such : (other ≡ bytes) ⊎ (Reports rules limits id (next_number lives id) other ⊎ (life_of u id ≡ life_of s id)) → Either u
        such (inl same) = inr (makes s u x (subst (λ b. Carried rules limits s b x u) same c) at)
        such (inr (inl r)) = reports s u other x r c at
        such (inr (inr same)) = stays_either s u same at

        by : AsksOf rules limits id other ⊎ (AsksOf rules limits id other → ⊥) → Either u
        by (inl names) = such (beside names)
        by (inr differs) = stays_either s u (unnamed id s u other x differs c) at

    -- what acted has acted
    acted_step : (s u : Lives) (other : List ℕ) (x : List (List ℕ)) → Beside s other x u → Acted s → Acted u
    acted_step s u other x (c, beside) at = by (decide rules limits id other (shown rules limits s other x u c).kind)
      where
        such : (other ≡ bytes) ⊎ (Reports rules limits id (next_number lives id) other ⊎ (life_of u id ≡ life_of s id)) → Acted u
        such (inl same) = makes s u x (subst (λ b. Carried rules limits s b x u) same c) (inr at)
        such (inr (inl r)) = subst Acted (sym (asked_is s u other x r.q r.n r.ask r.front r.asks c)) (laws.reported_after rules lives own.ask id h own.names s r.ask r.reports at)
        such (inr (inr same)) = stays_acted s u same at

        by : AsksOf rules limits id other ⊎ (AsksOf rules limits id other → ⊥) → Acted u
        by (inl names) = such (beside names)
        by (inr differs) = stays_acted s u (unnamed id s u other x differs c) at

    step_either : (s u : Lives) (other : List ℕ) (o : AttemptOutcome) → Leaves Beside s other o u → Either s → Either u
    step_either s u other (answered texts) l at = one_step s u other texts l at
    step_either s u other failed l at = stays_either s u (ap (λ (v : Lives). life_of v id) l) at
    step_either s u other lost (texts, l) at = one_step s u other texts l at

    step_acted : (s u : Lives) (other : List ℕ) (o : AttemptOutcome) → Leaves Beside s other o u → Acted s → Acted u
    step_acted s u other (answered texts) l at = acted_step s u other texts l at
    step_acted s u other failed l at = stays_acted s u (ap (λ (v : Lives). life_of v id) l) at
    step_acted s u other lost (texts, l) at = acted_step s u other texts l at

    pub all_either : (s : Lives) (attempts : List Attempt) (t : Lives) → History Beside s attempts t → Either s → Either t
    all_either s [] t e at = stays_either s t (ap (λ (v : Lives). life_of v id) e) at
    all_either s (a ∷ later) t (u, l, more) at = all_either u later t more (step_either s u a.bytes a.outcome l at)

    all_acted : (s : Lives) (attempts : List Attempt) (t : Lives) → History Beside s attempts t → Acted s → Acted t
    all_acted s [] t e at = stays_acted s t (ap (λ (v : Lives). life_of v id) e) at
    all_acted s (a ∷ later) t (u, l, more) at = all_acted u later t more (step_acted s u a.bytes a.outcome l at)

    -- the request was answered
    answer_acts : (s u : Lives) (other : List ℕ) (o : AttemptOutcome) → other ≡ bytes → answers o ≡ true → Leaves Beside s other o u → Either s → Acted u
    answer_acts s u other (answered texts) same e l at = makes s u texts (subst (λ b. Carried rules limits s b texts u) same l.0) at
    answer_acts s u other failed same e l at = cc
    answer_acts s u other lost same e l at = cc

    pub all_answered : (s : Lives) (attempts : List Attempt) (t : Lives) → History Beside s attempts t → request_was_answered bytes attempts ≡ true → Either s → Acted t
    all_answered s [] t e came at = cc
    all_answered s (a ∷ later) t (u, l, more) came at =
        by (λ came. all_answered u later t more came (step_either s u a.bytes a.outcome l at)) (bytes_eq a.bytes bytes) (is_answered a) refl refl
      where
        later_on : (request_was_answered bytes later ≡ true → Acted t) → (bytes_eq a.bytes bytes && is_answered a) ≡ false → Acted t
        later_on next e = next (sym (ap (λ b. b || request_was_answered bytes later) e) ∙ came)

        by : (request_was_answered bytes later ≡ true → Acted t) → (b c : Bool) → bytes_eq a.bytes bytes ≡ b → is_answered a ≡ c → Acted t
        by next true true e f = all_acted u later t more (answer_acts s u a.bytes a.outcome ((bytes_eq-Decides a.bytes bytes).0 e) f l at)
        by next true false e f = later_on next (ap (λ b. b && is_answered a) e ∙ f)
        by next false c e f = later_on next (ap (λ b. b && is_answered a) e)

pub once_beside : (rules : Rules) (limits : Limits) (lives : Lives) (attempts : List Attempt) (after : Lives) (id bytes : List ℕ) → IsLives lives → (own : AsksOf rules limits id bytes) →
    History (CarriedBeside rules limits id (next_number lives id) bytes) lives attempts after → request_was_answered bytes attempts ≡ true → IsOnce (life_of (lives_after rules lives own.q) id) (life_of after id)
once_beside rules limits lives attempts after id bytes h own more came =
    subst (λ l. IsOnce l (life_of after id)) (sym (ap (λ r. life_of (step_for rules lives r).1 id) own.asks))
    (laws.at_least rules lives own.ask id h own.names (answer_to rules lives own.ask).change (life_of after id)
    (all_answered rules limits lives id bytes h own lives attempts after more came (inl refl)))

pub at_most_once_beside : (rules : Rules) (limits : Limits) (lives : Lives) (attempts : List Attempt) (after : Lives) (id bytes : List ℕ) → IsLives lives → (own : AsksOf rules limits id bytes) →
    History (CarriedBeside rules limits id (next_number lives id) bytes) lives attempts after → (life_of after id ≡ life_of lives id) ⊎ IsOnce (life_of (lives_after rules lives own.q) id) (life_of after id)
at_most_once_beside rules limits lives attempts after id bytes h own more = by (all_either rules limits lives id bytes h own lives attempts after more (inl refl))
  where
    by : (life_of after id ≡ life_of lives id) ⊎ laws.Acted rules lives own.ask id h own.names (answer_to rules lives own.ask).change (life_of after id) → (life_of after id ≡ life_of lives id) ⊎ IsOnce (life_of (lives_after rules lives own.q) id) (life_of after id)
    by (inl same) = inl same
    by (inr acted) = inr (
        subst (λ l. IsOnce l (life_of after id)) (sym (ap (λ r. life_of (step_for rules lives r).1 id) own.asks))
        (laws.at_least rules lives own.ask id h own.names (answer_to rules lives own.ask).change (life_of after id) acted))

-- ---- known by their bytes

reading_quiet : (rules : Rules) (lives : Lives) (ask : Ask) → is_reading ask ≡ true → (answer_to rules lives ask).change ≡ Nothing
reading_quiet rules lives the.Catalog reads = refl
reading_quiet rules lives (the.Orders a) reads = refl
reading_quiet rules lives (the.Fetch a) reads = fetch_quiet _
reading_quiet rules lives (the.InstanceOp a) reads = poll_quiet kind.Delete a.operation (view_of lives (the.InstanceOp a))
reading_quiet rules lives (the.FetchBinding a) reads = fetch_binding_quiet _
reading_quiet rules lives (the.BindingOp a) reads = poll_quiet kind.Unbind a.operation (view_of lives (the.BindingOp a))
reading_quiet rules lives (the.Provision a) reads = cc
reading_quiet rules lives (the.Update a) reads = cc
reading_quiet rules lives (the.Deprovision a) reads = cc
reading_quiet rules lives (the.Bind a) reads = cc
reading_quiet rules lives (the.Unbind a) reads = cc
reading_quiet rules lives (the.Report a) reads = cc

pub reading_stays : (rules : Rules) (lives : Lives) (ask : Ask) → is_reading ask ≡ true → after_step rules lives ask ≡ lives
reading_stays rules lives ask reads = quiet_step _ lives (instance_id_of ask) (reading_quiet rules lives ask reads)

module _ (rules : Rules) (limits : Limits) (id : List ℕ) (number : ℕ) (bytes : List ℕ) where
  beside_stays : (s u : Lives) (other : List ℕ) (x : List (List ℕ)) → Carried rules limits s other x u → IsAgainOrBeside rules limits id number bytes other → (other ≡ bytes) ⊎ (Reports rules limits id number other ⊎ (life_of u id ≡ life_of s id))
  beside_stays s u other x c (inl same) = inl same
  beside_stays s u other x c (inr (inl r)) = inr (inl r)
  beside_stays s u other x c (inr (inr r)) = inr (inr (ap (λ (v : Lives). life_of v id) (asked_is rules limits s u other x r.q r.n r.ask r.front r.asks c ∙ reading_stays rules s r.ask r.reads)))

  pub leaves_beside : (s u : Lives) (other : List ℕ) (o : AttemptOutcome) → (AsksOf rules limits id other → IsAgainOrBeside rules limits id number bytes other) → Leaves (Carried rules limits) s other o u → Leaves (CarriedBeside rules limits id number bytes) s other o u
  leaves_beside s u other (answered texts) own l = (l, λ names. beside_stays s u other texts l (own names))
  leaves_beside s u other failed own l = l
  leaves_beside s u other lost own (texts, l) = (texts, (l, λ names. beside_stays s u other texts l (own names)))

  beside : (s : Lives) (attempts own : List Attempt) (t : Lives) → History (Carried rules limits) s attempts t → Picks (AsksOf rules limits id) attempts own → AreOfOneAndReports rules limits id number bytes own → History (CarriedBeside rules limits id number bytes) s attempts t
  beside s [] own t e picks all = e
  beside s (a ∷ later) own t (u, l, more) (inl (such, rest, e, picks)) all =
      let here = subst (AreOfOneAndReports rules limits id number bytes) e all in
      (u, leaves_beside s u a.bytes a.outcome (λ _. here.0) l, beside u later rest t more picks here.1)
  beside s (a ∷ later) own t (u, l, more) (inr (other, picks)) all =
      (u, leaves_beside s u a.bytes a.outcome (λ names. absurd (other names)) l, beside u later own t more picks all)

pub reported_once : (rules : Rules) (limits : Limits) (lives : Lives) (attempts own : List Attempt) (after : Lives) (id bytes : List ℕ) → IsLives lives → (asked : AsksOf rules limits id bytes) →
    History (Carried rules limits) lives attempts after → Picks (AsksOf rules limits id) attempts own → AreOfOneAndReports rules limits id (next_number lives id) bytes own →
    request_was_answered bytes attempts ≡ true → IsOnce (life_of (lives_after rules lives asked.q) id) (life_of after id)
reported_once rules limits lives attempts own after id bytes h asked history picks all came =
    once_beside rules limits lives attempts after id bytes h asked (beside rules limits id (next_number lives id) bytes lives attempts own after history picks all) came

pub reported_at_most_once : (rules : Rules) (limits : Limits) (lives : Lives) (attempts own : List Attempt) (after : Lives) (id bytes : List ℕ) → IsLives lives → (asked : AsksOf rules limits id bytes) →
    History (Carried rules limits) lives attempts after → Picks (AsksOf rules limits id) attempts own → AreOfOneAndReports rules limits id (next_number lives id) bytes own →
    (life_of after id ≡ life_of lives id) ⊎ IsOnce (life_of (lives_after rules lives asked.q) id) (life_of after id)
reported_at_most_once rules limits lives attempts own after id bytes h asked history picks all =
    at_most_once_beside rules limits lives attempts after id bytes h asked (beside rules limits id (next_number lives id) bytes lives attempts own after history picks all)
