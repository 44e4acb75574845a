-- Exchanges, one after the other.
use Rattle.std.proofs.Common.{◌≡◌, ◌∙◌, ◌⊎◌, ℕ, zero, suc, ◌+◌, ◌-◌, ◌*◌, ◌<◌, ◌≤◌, cond, Bool, true, false, true≢false, List, [], ◌∷◌, ◌++◌, length, Some, None, Result, Ok, Err, OnOk, OnErr, IfErr, IsErr, inl, inr, refl, sym, subst, ap, arith, append_assoc, append-nil, length-append}
use Rattle.std.proofs.lemmas.List.{map-append}
use Rattle.sqlite.specs.State.{State, HasCleanDisk}
use Rattle.osb_frames.specs.declared.limits.Limits.{Limits}
use Rattle.osb_frames.specs.declared.limits.TheConstants.{MOST_HEAD, MOST_FIELDS, MOST_BODY}
use Rattle.osb_frames.specs.Calls.{Call, failure_count}
use Rattle.osb_catalog.specs.Rules.{Rules}
use Rattle.osb_orders.specs.Lives.{Lives}
use Rattle.osb_orders.specs.IsLife.{IsLives}
use Rattle.osb_records.specs.CrashLeaves.{KeepsLives}
use Rattle.osb_statements.specs.Steps.{stored}
use Rattle.osb_broker.specs.declared.fault.ServeFault.{ServeFault}
use Rattle.osb_broker.specs.declared.fault.ServeFault.TheVariants.{Read, Write}
use Rattle.osb_broker.specs.BrokerState.{LivesGo, Works}
use Rattle.osb_broker.specs.declared.begun.Begun.{Begun}
use Rattle.osb_broker.specs.declared.begun.Begun.TheVariants as begun
use Rattle.osb_broker.specs.Begun.{AnswersOpen, EndsOrBreaks, EndsOrBreaksOrLost, MatchBegun}
use Rattle.osb_broker.specs.Crashes.{LeavesLives}
use Rattle.osb_broker.specs.Exchanges.{Exchange, IsExchange, AreExchanges}
use Rattle.osb_broker.specs.Inside.{Worked}
use Rattle.osb_broker.specs.Serving.{EachGaveBytes, ReadsOf, EachWasNeeded, WritesOf}
use Rattle.osb_broker.specs.Served.{AreStandard}
use Rattle.osb_broker.proofs.CrashLemmas.{leaves_next, leaves_stored, leaves_weaker}
use Rattle.osb_broker.proofs.LastLemmas.{last_of}
use Rattle.osb_broker.proofs.LostLemmas.{shown}
use Rattle.osb_broker.proofs.ShutLemmas.{go_through, lives_stay}
use Rattle.osb_listen.specs.declared.fault.ListenFault.{ListenFault}
use Rattle.osb_listen.specs.declared.fault.ListenFault.TheVariants.{Database, PlanInUse, Memory, CannotListen, CannotWrite, CannotAccept, FileTaken}
use Rattle.osb_listen.specs.Exchanges.{AreAsMany, HasServedAll, ended_by, ended_in, exchange_of, lines_of, LeadTo, Serves}
use Rattle.osb_listen.specs.Lines.{line_of, Says, SaysWithRefused}
use Rattle.osb_listen.specs.Listen.{IsOfServing}
use Rattle.osb_listen.proofs.PartLemmas.{says_nothing}
use Rattle.osb_listen.proofs.RefusedLemmas.{says_more_with, says_none_of_refused, says_only, then_refused}

none_failed : (calls : List Call) → EachGaveBytes calls → failure_count calls ≡ 0
none_failed [] each = refl
none_failed (Some (byte ∷ bytes) ∷ calls) each = none_failed calls each.1
none_failed (Some [] ∷ calls) each = absurd (true≢false each.0)
none_failed (None ∷ calls) each = absurd (true≢false each.0)

none_failed_yet : (before : List Call) → EachGaveBytes before → failure_count (before ++ Some [] ∷ []) ≡ 0
none_failed_yet [] each = refl
none_failed_yet (Some (byte ∷ bytes) ∷ before) each = none_failed_yet before each.1
none_failed_yet (Some [] ∷ before) each = absurd (true≢false each.0)
none_failed_yet (None ∷ before) each = absurd (true≢false each.0)

one_failed : (before : List Call) → EachGaveBytes before → failure_count (before ++ None ∷ []) ≡ 1
one_failed [] each = refl
one_failed (Some (byte ∷ bytes) ∷ before) each = one_failed before each.1
one_failed (Some [] ∷ before) each = absurd (true≢false each.0)
one_failed (None ∷ before) each = absurd (true≢false each.0)

-- how serving ended is seen by what failed
pub ended_so : (ended : Result (Unit {0}) ServeFault) (calls : List Call) (failed : ℕ) → ReadsOf ended calls → WritesOf ended 0 failed → ended_by failed (failure_count calls) ≡ ended
ended_so (Ok x) calls zero (inl each) none = rw (none_failed calls each) refl
ended_so (Ok x) calls zero (inr ends) none = rw (ap failure_count ends.is ∙ none_failed_yet ends.before ends.gave_bytes) refl
ended_so (Ok x) calls (suc n) reads none = absurd (omega (arith, none))
ended_so (Err Read) calls zero ends none = rw (ap failure_count ends.is ∙ one_failed ends.before ends.gave_bytes) refl
ended_so (Err Read) calls (suc n) ends none = absurd (omega (arith, none))
ended_so (Err Write) calls zero reads some = absurd (omega (arith, some))
ended_so (Err Write) calls (suc n) reads some = refl

-- of a client of whom nothing was read before
pub ended_by_both : (ended : Result (Unit {0}) ServeFault) (calls made : List Call) (failed_old failed : ℕ) → ReadsOf ended made → WritesOf ended failed_old failed → calls ≡ made → failed_old ≡ 0
    → ended ≡ ended_by failed (failure_count calls)
ended_by_both ended calls made failed_old failed reads wrote same unfailed =
    subst (λ (c : List Call). ended ≡ ended_by failed (failure_count c)) (sym same)
    (sym (ended_so ended made failed reads (subst (λ (n : ℕ). WritesOf ended n failed) unfailed wrote)))

-- a client that was answered at once and hasn't ended stays
pub stays_then : (it : Begun) (P : Result (Unit {0}) ServeFault → Type 0) (Q : Type 0) → (it ≡ begun.Stays) ⊎ ((it ≡ begun.Waits) ⊎ (it ≡ begun.MayStay)) → MatchBegun it P Q ⊥ ⊥ → Q
stays_then it P Q (inl is) told = subst (λ (b : Begun). MatchBegun b P Q ⊥ ⊥) is told
stays_then it P Q (inr (inl is)) told = absurd (subst (λ (b : Begun). MatchBegun b P Q ⊥ ⊥) is told)
stays_then it P Q (inr (inr is)) told = absurd (subst (λ (b : Begun). MatchBegun b P Q ⊥ ⊥) is told)

-- ---- how many clients ended

count_more : (ended : Bool) (n m : ℕ) → cond ended (n + m) (suc (n + m)) ≡ cond ended n (suc n) + m
count_more true n m = refl
count_more false n m = omega arith

pub ended_more : (some later : List Exchange) → ended_in (some ++ later) ≡ ended_in some + ended_in later
ended_more [] later = omega arith
ended_more (x ∷ some) later = ap (λ n. cond x.stays n (suc n)) (ended_more some later) ∙ count_more x.stays (ended_in some) (ended_in later)

at_most_one : (ended : Bool) (n m : ℕ) → n ≤ m → cond ended n (suc n) ≤ suc m
at_most_one true n m few = omega (arith, few)
at_most_one false n m few = omega (arith, few)

-- no more than there are exchanges
pub ended_few : (exchanges : List Exchange) → ended_in exchanges ≤ length exchanges
ended_few [] = omega arith
ended_few (x ∷ later) = at_most_one x.stays (ended_in later) (length later) (ended_few later)

-- ---- how many requests may come still, of so many in all

no_less : (n : ℕ) → n ≤ 0 + n
no_less n = omega arith

pub all_to_come : (all k a b : ℕ) → a ≡ all → b ≡ k → all * k ≤ 0 + a * b
all_to_come all k a b is_all is_k = rw (is_all, is_k) (no_less (all * k))

pub fewer_to_come : (all had later more left next : ℕ) → all ≤ had + left → more ≡ had + later → next ≡ left - later → all ≤ more + next
fewer_to_come all had later more left next so_far is_more is_next = omega (arith, so_far, is_more, is_next)

pub none_to_come : (all had left : ℕ) → all ≤ had + left → left ≤ 0 → all ≤ had
none_to_come all had left so_far none = omega (arith, so_far, none)

module _ (rules : Rules) (limits : Limits) (k : ℕ) where
  -- exchanges, and others behind them
  are_more : (old : Lives) (said : List Exchange) (lives : Lives) (later : List Exchange) (new : Lives) → AreExchanges rules limits k old said lives → AreExchanges rules limits k lives later new
      → AreExchanges rules limits k old (said ++ later) new
  are_more old [] lives later new before then = subst (λ (s : Lives). AreExchanges rules limits k s later new) before then
  are_more old (first ∷ said) lives later new (between, one, before) then = (between, one, are_more between said lives later new before then)

  -- ---- one exchange

  -- the last one of a client
  ends_as : (old new : Lives) (number before left : ℕ) (made : List Call) (sent : List ℕ) (failed : ℕ) (met : Bool) (ended : Result (Unit {0}) ServeFault) → before + left ≡ k → 0 < left → ReadsOf ended made → EachWasNeeded limits 1 (limits.head + limits.body) made
      → WritesOf ended 0 failed → EndsOrBreaksOrLost ended rules limits left old made met [] 0 sent failed new → IsExchange rules limits k old (exchange_of number before false made sent failed met) new
  ends_as old new number before zero made sent failed met ended count some reads needed wrote ends = absurd (omega (arith, some))
  ends_as old new number before (suc more) made sent failed met ended count some reads needed wrote (inl outcome) =
      (more, count, inl (last_of rules limits old _ new (record { ended = ended; reads = reads; needed = needed; wrote = wrote; outcome = outcome })))
  ends_as old new number before (suc more) made sent failed met ended count some reads needed wrote (inr (is, no_fault, fault, it)) = (
    more,
    count,
    inr (omega (arith, it.some), fault, record { q = it.q; exact = it.exact; goes_on = it.goes_on; gave_bytes = it.gave_bytes; needed = needed; no_fault = no_fault; wrote = it.wrote; leaves = it.leaves }),
  )

  -- one behind which another may come
  stays_as : (old new : Lives) (number before left : ℕ) (made : List Call) (sent : List ℕ) (failed : ℕ) → before + left ≡ k → EachWasNeeded limits 1 (limits.head + limits.body) made
      → AnswersOpen rules limits left old made [] 0 sent failed (Ok tt) new → IsExchange rules limits k old (exchange_of number before true made sent failed false) new
  stays_as old new number before zero made sent failed count needed it = absurd (omega (arith, it.some))
  stays_as old new number before (suc more) made sent failed count needed it = (
    more,
    count,
    (omega (arith, it.some), record { q = it.q; exact = it.exact; goes_on = it.goes_on; gave_bytes = it.gave_bytes; needed = needed; no_fault = refl; wrote = it.wrote; leaves = it.leaves }),
  )

  -- a store with which nothing was done has the lives that no exchange leads to
  none_lead : (old : State) → (Works old → IsLives (stored old)) → (Works old → KeepsLives old (stored old)) → LeadTo rules limits k old old []
  none_lead old whole kept =
      record { lives = λ before after go. lives_stay go; left = λ works clean. leaves_stored (whole works) (kept works) refl }

  lead_on : (old mid new : State) (said later : List Exchange) → Worked old mid → Worked mid new
      → LeadTo rules limits k old mid said → LeadTo rules limits k mid new later → LeadTo rules limits k old new (said ++ later)
  lead_on old mid new said later before next one two = record {
    lives = λ was is go.
        let through = go_through before next was is go in
        are_more was said through.0 later is (one.lives was through.0 through.1) (two.lives through.0 is through.2);
    left = leaves_next (λ u t. AreExchanges rules limits k u later t) before next one.left (λ works. one.lives (stored old) (stored mid) (inl (works, refl, refl))) two.left
        (λ t clean shut. two.lives t t (inr (clean, shut, refl))) (λ u t reached then. are_more (stored old) said u later t reached then);
  }

  module _ (old : State) (journal_old : List Exchange) (said_old : List ℕ) (failed_old : ℕ) where
    -- these so far
    abbrev pub ServesSome : List Exchange → State → List Exchange → List ℕ → ℕ → Type 0
    ServesSome exchanges now journal said failed = Serves rules limits k exchanges old now journal_old journal said_old said failed_old failed

    pub none_served : (Works old → IsLives (stored old)) → (Works old → KeepsLives old (stored old)) → ServesSome [] old journal_old said_old failed_old
    none_served whole kept = record { journal = sym (append-nil journal_old); lead = none_lead old whole kept; lines = says_none_of_refused said_old failed_old }

    pub some_more : (mid new : State) (journal_mid journal_new : List Exchange) (said_mid said_new : List ℕ) (failed_mid failed_new : ℕ) (exchanges later : List Exchange) → Worked old mid → Worked mid new
        → ServesSome exchanges mid journal_mid said_mid failed_mid → Serves rules limits k later mid new journal_mid journal_new said_mid said_new failed_mid failed_new
        → ServesSome (exchanges ++ later) new journal_new said_new failed_new
    some_more mid new journal_mid journal_new said_mid said_new failed_mid failed_new exchanges later before next so_far serves = record {
      journal = serves.journal ∙ ap (λ (j : List Exchange). j ++ later) so_far.journal ∙ append_assoc journal_old exchanges later;
      lead = lead_on old mid new exchanges later before next so_far.lead serves.lead;
      lines = subst (λ (lines : List (List ℕ)). SaysWithRefused lines said_old said_new failed_old failed_new) (sym (map-append _ exchanges later))
          (says_more_with (lines_of exchanges) (lines_of later) said_old said_mid said_new failed_old failed_mid failed_new so_far.lines serves.lines);
    }

    -- and behind their lines those of requests that were refused
    pub some_reported : (now : State) (journal : List Exchange) (said said_new : List ℕ) (failed failed_new : ℕ) (exchanges : List Exchange) → ServesSome exchanges now journal said failed → SaysWithRefused [] said said_new failed failed_new
        → ServesSome exchanges now journal said_new failed_new
    some_reported now journal said said_new failed failed_new exchanges serves lines =
        record { journal = serves.journal; lead = serves.lead; lines = then_refused (lines_of exchanges) said_old said said_new failed_old failed failed_new serves.lines lines }

  -- ---- a client of whom nothing was read before, and to whom nothing was sent

  module _ (old new : State) (number before left : ℕ) (calls made : List Call) (sent_old sent : List ℕ) (writes_old writes : ℕ) (count : before + left ≡ k) (needed : EachWasNeeded limits 1 (limits.head + limits.body) made)
      (same : calls ≡ made) (none : sent_old ≡ []) (unfailed : writes_old ≡ 0) (journal_old journal_new : List Exchange) (said_old said_new : List ℕ) (failed_old failed_new : ℕ) where
    -- it was let go
    pub ends_served : (met told : Bool) (ended : Result (Unit {0}) ServeFault) → 0 < left → ReadsOf ended made → WritesOf ended writes_old writes → told ≡ met
        → ((was is : Lives) → LivesGo old new was is → EndsOrBreaks ended rules limits left was made met sent_old writes_old sent writes is)
        → (Works old → HasCleanDisk new → LeavesLives new (λ lives. EndsOrBreaksOrLost ended rules limits left (stored old) made met sent_old writes_old sent writes lives))
        → journal_new ≡ journal_old ++ exchange_of number before false calls sent writes told ∷ [] → Says (line_of ended ∷ []) said_old said_new failed_old failed_new
        → Serves rules limits k (exchange_of number before false calls sent writes told ∷ []) old new journal_old journal_new said_old said_new failed_old failed_new
    ends_served met told ended some reads wrote is_met ends leaves journal line = record {
      journal = journal;
      lead = record {
        lives = λ was is go. (is, one was is (shown_too (ends was is go)), refl);
        left = λ works clean. leaves_weaker (λ lives lost. (lives, one (stored old) lives lost, refl)) (leaves works clean);
      };
      lines = says_only _ said_old said_new failed_old failed_new (subst (λ by. Says (line_of by ∷ []) said_old said_new failed_old failed_new) (ended_by_both ended calls made writes_old writes reads wrote same unfailed) line);
    }
      where
        shown_too : {was is : Lives} → EndsOrBreaks ended rules limits left was made met sent_old writes_old sent writes is → EndsOrBreaksOrLost ended rules limits left was made met sent_old writes_old sent writes is
        shown_too (inl it) = inl (shown it)
        shown_too (inr it) = inr it

        one : (was is : Lives) → EndsOrBreaksOrLost ended rules limits left was made met sent_old writes_old sent writes is → IsExchange rules limits k was (exchange_of number before false calls sent writes told) is
        one was is it = rw (same, is_met) (ends_as was is number before left made sent writes met ended count some reads needed (rw unfailed at wrote) (rw (none, unfailed) at it))

    -- it stays
    pub stays_served : ReadsOf (Ok tt) made → WritesOf (Ok tt) writes_old writes
        → ((was is : Lives) → LivesGo old new was is → AnswersOpen rules limits left was made sent_old writes_old sent writes (Ok tt) is)
        → (Works old → HasCleanDisk new → LeavesLives new (λ lives. AnswersOpen rules limits left (stored old) made sent_old writes_old sent writes (Ok tt) lives))
        → journal_new ≡ journal_old ++ exchange_of number before true calls sent writes false ∷ [] → said_new ≡ said_old → failed_new ≡ failed_old
        → Serves rules limits k (exchange_of number before true calls sent writes false ∷ []) old new journal_old journal_new said_old said_new failed_old failed_new
    stays_served reads wrote answers leaves journal said failed = record {
      journal = journal;
      lead = record {
        lives = λ was is go. (is, one was is (answers was is go), refl);
        left = λ works clean. leaves_weaker (λ lives it. (lives, one (stored old) lives it, refl)) (leaves works clean);
      };
      lines = says_only _ said_old said_new failed_old failed_new
          (subst (λ by. Says (line_of by ∷ []) said_old said_new failed_old failed_new) (ended_by_both (Ok tt) calls made writes_old writes reads wrote same unfailed) (rw (said, failed) (says_nothing said_old failed_old)));
    }
      where
        one : (was is : Lives) → AnswersOpen rules limits left was made sent_old writes_old sent writes (Ok tt) is → IsExchange rules limits k was (exchange_of number before true calls sent writes false) is
        one was is it = rw same (stays_as was is number before left made sent writes count needed (rw (none, unfailed) at it))

-- the standard limits
pub standard : (limits : Limits) × AreStandard limits
standard = (
  record { head = MOST_HEAD; fields = MOST_FIELDS; body = MOST_BODY; has_head = omega arith; head_is_standard = omega arith; fields_are_standard = omega arith; body_is_standard = omega arith },
  (refl, refl, refl),
)

-- where nothing was done, no exchange was had
pub none_serves_by : (rules : Rules) (limits : Limits) (k : ℕ) (old : State) (journal_old journal_new : List Exchange) (said_old : List ℕ) (failed_old : ℕ) → journal_new ≡ journal_old → (Works old → IsLives (stored old)) → (Works old → KeepsLives old (stored old))
    → Serves rules limits k [] old old journal_old journal_new said_old said_old failed_old failed_old
none_serves_by rules limits k old journal_old journal_new said_old failed_old same whole kept =
    record { journal = same ∙ sym (append-nil journal_old); lead = none_lead rules limits k old whole kept; lines = says_none_of_refused said_old failed_old }

-- a fault that comes before the first one
pub none_yet : (result : Result (Unit {0}) ListenFault) (fault : ListenFault) (all k : ℕ) → AreAsMany (Err fault) all k [] → IsErr result → IfErr result (λ other. other ≡ fault) → AreAsMany result all k []
none_yet (Ok x) fault all k none err is = cc
none_yet (Err other) fault all k none err is = subst (λ (f : ListenFault). AreAsMany (Err f) all k []) (sym is) none

-- as many as were asked for, or fewer where taking them failed
pub many_served : (result : Result (Unit {0}) ListenFault) (all k : ℕ) (exchanges : List Exchange) → OnOk result (HasServedAll all k exchanges) → OnErr result (ended_in exchanges < all) → IfErr result IsOfServing → AreAsMany result all k exchanges
many_served (Ok x) all k exchanges whole fewer is = whole
many_served (Err (Database fault)) all k exchanges whole fewer is = absurd is
many_served (Err (PlanInUse service plan)) all k exchanges whole fewer is = absurd is
many_served (Err Memory) all k exchanges whole fewer is = absurd is
many_served (Err CannotListen) all k exchanges whole fewer is = absurd is
many_served (Err CannotWrite) all k exchanges whole fewer is = absurd is
many_served (Err CannotAccept) all k exchanges whole fewer is = fewer
many_served (Err FileTaken) all k exchanges whole fewer is = fewer
