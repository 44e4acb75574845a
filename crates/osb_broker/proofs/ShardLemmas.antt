-- Instances that are spread over several brokers.
use Rattle.std.proofs.Common.{◌≡◌, ℕ, ◌==◌, Bool, true, false, cond, List, [], ◌∷◌, length, map, Option, None, Some, Result, Ok, Err, refl, sym, ap, subst, ◌∙◌}
use Rattle.std.specs.Prelude.{bytes_eq, not, ◌||◌}
use Rattle.std.specs.List.{AllByRecursion}
use Rattle.std.proofs.lemmas.Bool.{eqb-true, eq-eqb}
use Rattle.std.proofs.lemmas.Slice.Eq.{bytes_eq-Decides}
use Rattle.osb_frames.specs.declared.limits.Limits.{Limits}
use Rattle.osb_frames.specs.Cuts.{Message}
use Rattle.osb_catalog.specs.Rules.{Rules}
use Rattle.osb_asks.specs.declared.ask.Ask.{Ask}
use Rattle.osb_asks.specs.declared.ask.Ask.TheVariants as the
use Rattle.osb_asks.specs.declared.ask_fault.AskFault.{AskFault}
use Rattle.osb_asks.specs.Asks.{ask_of, is_catalog}
use Rattle.osb_orders.specs.Lives.{Lives, life_of}
use Rattle.osb_asks.specs.Subjects.{instance_id_of}
use Rattle.osb_machine.specs.Machine.{after_step}
use Rattle.osb_laws.proofs.MapLemmas.{one_life, others_stay, unnamed_stay}
use Rattle.osb_broker.specs.Machine.{reply_of}
use Rattle.osb_broker.specs.Steps.{step_for, lives_after}
use Rattle.osb_broker.specs.Connection.{ConnectionText, Run}
use Rattle.osb_broker.specs.Resend.{refusing}
use Rattle.osb_broker.specs.Apart.{AsksOf, picked}
use Rattle.osb_broker.specs.Attempts.{AttemptOutcome, answered, failed, lost, Attempt}
use Rattle.osb_broker.specs.Histories.{Leaves, History}
use Rattle.osb_broker.specs.ActsOnce.{Carried}
use Rattle.osb_broker.specs.Shards.{names_one, asks_here, is_answerable, FirstIs, Sends, HaveSame, ServedApart, LeavesOut, is_at, Routes, went_to, AreOfShards}
use Rattle.osb_broker.proofs.OneByOneLemmas.{text_of_nothing, text_of_stop, text_of_request}
use Rattle.osb_broker.proofs.RequestLemmas.{Kind, silent, broken, asks, Seen, view}
use Rattle.osb_broker.proofs.RepeatLemmas.{late}
use Rattle.osb_broker.proofs.ApartLemmas.{same_told, stays}

-- ---- one ask

-- an ask of an instance isn't for the catalog
not_catalog : (ask : Ask) (id : List ℕ) → instance_id_of ask ≡ Some id → is_catalog ask ≡ false
not_catalog the.Catalog id e = cc
not_catalog (the.Provision a) id e = refl
not_catalog (the.Fetch a) id e = refl
not_catalog (the.Update a) id e = refl
not_catalog (the.Deprovision a) id e = refl
not_catalog (the.InstanceOp a) id e = refl
not_catalog (the.Bind a) id e = refl
not_catalog (the.FetchBinding a) id e = refl
not_catalog (the.Unbind a) id e = refl
not_catalog (the.BindingOp a) id e = refl
not_catalog (the.Orders a) id e = refl
not_catalog (the.Report a) id e = refl

-- whether it may be answered, by the instance that it names
pub answerable_by : (has : List ℕ → Bool) (ask : Ask) (id : List ℕ) → instance_id_of ask ≡ Some id → is_answerable has (Ok ask) ≡ has id
answerable_by has ask id is = ap (λ b. not (not b) || names_one has (instance_id_of ask)) (not_catalog ask id is) ∙ ap (names_one has) is

module _ (rules : Rules) (limits : Limits) (has : List ℕ → Bool) where
  -- an ask is answered alike from both, and leaves these instances the same lives
  pub record Alike (s v : Lives) (r : Result Ask AskFault) : Type 0 where
    pub told : (step_for rules s r).0 ≡ (step_for rules v r).0
    pub same : HaveSame has (step_for rules s r).1 (step_for rules v r).1

  named : (s v : Lives) → HaveSame has s v → (ask : Ask) (at : Option (List ℕ)) → instance_id_of ask ≡ at → names_one has at ≡ true → Alike s v (Ok ask)
  named s v same ask None is e = cc
  named s v same ask (Some id) is e = record {
    told = same_told rules s v ask id is (same id e);
    same = λ other here. by other here (bytes_eq other id) refl;
  }
    where
      by : (other : List ℕ) → has other ≡ true → (b : Bool) → bytes_eq other id ≡ b → life_of (after_step rules s ask) other ≡ life_of (after_step rules v ask) other
      by other here true t = subst (λ (i : List ℕ). life_of (after_step rules s ask) i ≡ life_of (after_step rules v ask) i) (sym ((bytes_eq-Decides other id).0 t)) (one_life rules s v ask id is (same id e))
      by other here false t =
          let differ : other ≡ id → ⊥ = λ x. let sure : bytes_eq other id ≡ true = (bytes_eq-Decides other id).1 x in let bad : true ≡ false = sym sure ∙ t in cc in
          others_stay rules s ask id other is differ ∙ same other here ∙ sym (others_stay rules v ask id other is differ)

  pub answered_alike : (s v : Lives) → HaveSame has s v → (r : Result Ask AskFault) → is_answerable has r ≡ true → Alike s v r
  answered_alike s v same (Err f) e = record { told = refl; same = same }
  answered_alike s v same (Ok the.Catalog) e = record { told = refl; same = λ id here. same id here }
  answered_alike s v same (Ok (the.Orders a)) e = cc
  answered_alike s v same (Ok (the.Provision a)) e = named s v same (the.Provision a) (Some a.instance) refl e
  answered_alike s v same (Ok (the.Fetch a)) e = named s v same (the.Fetch a) (Some a.instance) refl e
  answered_alike s v same (Ok (the.Update a)) e = named s v same (the.Update a) (Some a.instance) refl e
  answered_alike s v same (Ok (the.Deprovision a)) e = named s v same (the.Deprovision a) (Some a.instance) refl e
  answered_alike s v same (Ok (the.InstanceOp a)) e = named s v same (the.InstanceOp a) (Some a.instance) refl e
  answered_alike s v same (Ok (the.Bind a)) e = named s v same (the.Bind a) (Some a.instance) refl e
  answered_alike s v same (Ok (the.FetchBinding a)) e = named s v same (the.FetchBinding a) (Some a.instance) refl e
  answered_alike s v same (Ok (the.Unbind a)) e = named s v same (the.Unbind a) (Some a.instance) refl e
  answered_alike s v same (Ok (the.BindingOp a)) e = named s v same (the.BindingOp a) (Some a.instance) refl e
  answered_alike s v same (Ok (the.Report a)) e = named s v same (the.Report a) (Some a.instance) refl e

  -- ---- what stands first

  -- these bytes ask nothing of an instance that is here
  asks_none : (bytes id : List ℕ) → FirstIs rules limits (λ asked. not (asks_here has asked)) bytes → has id ≡ true → AsksOf rules limits id bytes → ⊥
  asks_none bytes id none here names =
      let asked : asks_here has (ask_of rules names.q) ≡ true = ap (asks_here has) names.asks ∙ ap (names_one has) names.names ∙ here in
      let bad : false ≡ true = sym (ap not asked) ∙ none names.q names.n names.front in
      cc

  -- and these nothing of one that isn't
  asks_no_other : (bytes id : List ℕ) → FirstIs rules limits (is_answerable has) bytes → has id ≡ false → AsksOf rules limits id bytes → ⊥
  asks_no_other bytes id can gone names =
      let found : is_answerable has (ask_of rules names.q) ≡ has id = ap (is_answerable has) names.asks ∙ answerable_by has names.ask id names.names in
      let bad : true ≡ false = sym (can names.q names.n names.front) ∙ found ∙ gone in
      cc

  -- ---- one connection

  module _ (takes : Message → Bool) (bytes : List ℕ) where
    pub record Answers (v : Lives) (marks : List Bool) (texts : List (List ℕ)) (u : Lives) : Type 0 where
      pub next : Lives
      pub is : ConnectionText (refusing takes rules) limits 1 v bytes marks texts next
      pub same : HaveSame has u next

    texts_alike : (kind : Kind limits bytes) (s v : Lives) (marks : List Bool) (texts : List (List ℕ)) (u : Lives) → Seen rules takes limits bytes kind s marks texts u → FirstIs rules limits (is_answerable has) bytes → HaveSame has s v → Answers v marks texts u
    texts_alike (silent e) s v marks texts u (a, b, c) can same = record {
      next = v;
      is = rw (a, b) (text_of_nothing (refusing takes rules) limits 0 v bytes e);
      same = λ id here. ap (λ l. life_of l id) c ∙ same id here;
    }
    texts_alike (broken f at) s v marks texts u (a, b, c) can same = record {
      next = v;
      is = rw (a, b) (text_of_stop (refusing takes rules) limits 0 v bytes f at);
      same = λ id here. ap (λ l. life_of l id) c ∙ same id here;
    }
    texts_alike (asks q n at) s v marks texts u (true, reply, a, b, met) can same = record {
      next = v;
      is = rw (a, b) (text_of_request (refusing takes rules) limits v bytes q n true reply v at (met.0, met.1, refl));
      same = λ id here. ap (λ l. life_of l id) met.2 ∙ same id here;
    }
    texts_alike (asks q n at) s v marks texts u (false, reply, a, b, met) can same =
        let alike = answered_alike s v same (ask_of rules q) (can q n at) in
        record {
          next = lives_after rules v q;
          is = rw (a, b) (text_of_request (refusing takes rules) limits v bytes q n false reply (lives_after rules v q) at (met.0 ∙ ap (reply_of q true) alike.told, refl));
          same = λ id here. ap (λ l. life_of l id) met.1 ∙ alike.same id here;
        }

    pub text_alike : (s v : Lives) (marks : List Bool) (texts : List (List ℕ)) (u : Lives) → ConnectionText (refusing takes rules) limits 1 s bytes marks texts u → FirstIs rules limits (is_answerable has) bytes → HaveSame has s v → Answers v marks texts u
    text_alike s v marks texts u text can same =
        let seen = view rules takes limits s bytes marks texts u text in
        texts_alike seen.0 s v marks texts u seen.1 can same

    -- what asks nothing of an instance leaves its life
    pub leaves_life : (id : List ℕ) (s : Lives) (marks : List Bool) (texts : List (List ℕ)) (u : Lives) → ConnectionText (refusing takes rules) limits 1 s bytes marks texts u → (AsksOf rules limits id bytes → ⊥) → life_of u id ≡ life_of s id
    leaves_life id s marks texts u text none =
        let seen = view rules takes limits s bytes marks texts u text in
        stays rules limits takes id bytes seen.0 s marks texts u seen.1 none

-- ---- those of one broker

pub shards_apart : (rules : Rules) (limits : Limits) (takes : Message → Bool) (has : List ℕ → Bool) (sent : List Bool) (s v : Lives) (cs : List (List ℕ)) (ms : List (List Bool)) (xs : List (List (List ℕ))) (t : Lives) →
    Run (refusing takes rules) limits 1 s cs ms xs t → Sends rules limits has sent cs → HaveSame has s v → ServedApart rules limits takes has sent v cs ms xs t
shards_apart rules limits takes has [] s v [] [] [] t run sends same = record { alone = v; is = refl; same = λ id here. ap (λ l. life_of l id) run ∙ same id here }
shards_apart rules limits takes has [] s v (c ∷ cs) ms xs t run sends same = absurd sends
shards_apart rules limits takes has (b ∷ sent) s v [] ms xs t run sends same = absurd sends
shards_apart rules limits takes has [] s v [] [] (x ∷ xs) t run sends same = absurd run
shards_apart rules limits takes has [] s v [] (m ∷ ms) xs t run sends same = absurd run
shards_apart rules limits takes has (b ∷ sent) s v (c ∷ cs) [] xs t run sends same = absurd run
shards_apart rules limits takes has (b ∷ sent) s v (c ∷ cs) (m ∷ ms) [] t run sends same = absurd run
shards_apart rules limits takes has (true ∷ sent) s v (c ∷ cs) (m ∷ ms) (x ∷ xs) t (u, first, run) sends same =
    let here = text_alike rules limits has takes c s v m x u first sends.0 same in
    let later = shards_apart rules limits takes has sent u here.next cs ms xs t run sends.1 here.same in
    record { alone = later.alone; is = (here.next, here.is, later.is); same = later.same }
shards_apart rules limits takes has (false ∷ sent) s v (c ∷ cs) (m ∷ ms) (x ∷ xs) t (u, first, run) sends same =
    let kept : HaveSame has u v = λ id here. leaves_life rules limits has takes c id s m x u first (asks_none rules limits has c id sends.0 here) ∙ same id here in
    let later = shards_apart rules limits takes has sent u v cs ms xs t run sends.1 kept in
    record { alone = later.alone; is = later.is; same = later.same }

pub shards_keep_out : (rules : Rules) (limits : Limits) (takes : Message → Bool) (has : List ℕ → Bool) (s : Lives) (cs : List (List ℕ)) (ms : List (List Bool)) (xs : List (List (List ℕ))) (t : Lives) (id : List ℕ) →
    Run (refusing takes rules) limits 1 s cs ms xs t → AllByRecursion (FirstIs rules limits (is_answerable has)) cs → has id ≡ false → life_of t id ≡ life_of s id
shards_keep_out rules limits takes has s [] [] [] t id run all gone = ap (λ l. life_of l id) run
shards_keep_out rules limits takes has s [] [] (x ∷ xs) t id run all gone = absurd run
shards_keep_out rules limits takes has s [] (m ∷ ms) xs t id run all gone = absurd run
shards_keep_out rules limits takes has s (c ∷ cs) [] xs t id run all gone = absurd run
shards_keep_out rules limits takes has s (c ∷ cs) (m ∷ ms) [] t id run all gone = absurd run
shards_keep_out rules limits takes has s (c ∷ cs) (m ∷ ms) (x ∷ xs) t id (u, first, run) all gone =
    shards_keep_out rules limits takes has u cs ms xs t id run all.1 gone ∙ leaves_life rules limits has takes c id s m x u first (asks_no_other rules limits has c id all.0 gone)

-- ---- those that name no instance

none_named : (at : Option (List ℕ)) → not (names_one (λ id. true) at) ≡ true → at ≡ None
none_named None e = refl
none_named (Some id) e = cc

unnamed_step : (rules : Rules) (s : Lives) (r : Result Ask AskFault) → not (asks_here (λ id. true) r) ≡ true → (step_for rules s r).1 ≡ s
unnamed_step rules s (Err f) e = refl
unnamed_step rules s (Ok ask) e = unnamed_stay rules s ask (none_named (instance_id_of ask) e)

module _ (rules : Rules) (limits : Limits) (takes : Message → Bool) where
  seen_same : (bytes : List ℕ) (kind : Kind limits bytes) (s : Lives) (marks : List Bool) (texts : List (List ℕ)) (u : Lives) → Seen rules takes limits bytes kind s marks texts u → FirstIs rules limits (λ asked. not (asks_here (λ id. true) asked)) bytes → u ≡ s
  seen_same bytes (silent e) s marks texts u (a, b, c) none = c
  seen_same bytes (broken f at) s marks texts u (a, b, c) none = c
  seen_same bytes (asks q n at) s marks texts u (true, reply, a, b, met) none = met.2
  seen_same bytes (asks q n at) s marks texts u (false, reply, a, b, met) none = met.1 ∙ unnamed_step rules s (ask_of rules q) (none q n at)

  pub left_out : (kept : List Bool) (s : Lives) (cs : List (List ℕ)) (ms : List (List Bool)) (xs : List (List (List ℕ))) (t : Lives) → Run (refusing takes rules) limits 1 s cs ms xs t → LeavesOut rules limits kept cs → Run (refusing takes rules) limits 1 s (picked kept cs) (picked kept ms) (picked kept xs) t
  left_out [] s [] [] [] t run out = run
  left_out [] s (c ∷ cs) ms xs t run out = absurd out
  left_out (b ∷ kept) s [] ms xs t run out = absurd out
  left_out [] s [] [] (x ∷ xs) t run out = absurd run
  left_out [] s [] (m ∷ ms) xs t run out = absurd run
  left_out (b ∷ kept) s (c ∷ cs) [] xs t run out = absurd run
  left_out (b ∷ kept) s (c ∷ cs) (m ∷ ms) [] t run out = absurd run
  left_out (true ∷ kept) s (c ∷ cs) (m ∷ ms) (x ∷ xs) t (u, first, run) out = (u, first, left_out kept u cs ms xs t run out)
  left_out (false ∷ kept) s (c ∷ cs) (m ∷ ms) (x ∷ xs) t (u, first, run) out =
      let seen = view rules takes limits s c m x u first in
      subst (λ w. Run (refusing takes rules) limits 1 w (picked kept cs) (picked kept ms) (picked kept xs) t) (seen_same c seen.0 s m x u seen.1 out.0) (left_out kept u cs ms xs t run out.1)

-- ---- all of them

-- one broker's lives have become others
abbrev pub stepped : ℕ → Lives → (ℕ → Lives) → ℕ → Lives
stepped m u before n = cond (m == n) u (before n)

module _ (rules : Rules) (limits : Limits) (takes : Message → Bool) (shard : List ℕ → ℕ) where
  -- a connection that its broker served has the same texts from the lives of all
  pub record Joins (m : ℕ) (u : Lives) (before : ℕ → Lives) (s : Lives) (bytes : List ℕ) (marks : List Bool) (texts : List (List ℕ)) : Type 0 where
    pub next : Lives
    pub is : ConnectionText (refusing takes rules) limits 1 s bytes marks texts next
    pub same : AreOfShards shard (stepped m u before) next

  pub joins : (m : ℕ) (u : Lives) (before : ℕ → Lives) (s : Lives) (bytes : List ℕ) (marks : List Bool) (texts : List (List ℕ)) → ConnectionText (refusing takes rules) limits 1 (before m) bytes marks texts u → FirstIs rules limits (is_answerable (is_at shard m)) bytes → AreOfShards shard before s → Joins m u before s bytes marks texts
  joins m u before s bytes marks texts text can are =
      let here = text_alike rules limits (is_at shard m) takes bytes (before m) s marks texts u text can
      (λ id at. ap (λ n. life_of (before n) id) (sym (eqb-true (shard id) m at)) ∙ sym (are id)) in
      record { next = here.next; is = here.is; same = λ id. by here.next here.is here.same id (m == shard id) refl }
    where
      by : (next : Lives) → ConnectionText (refusing takes rules) limits 1 s bytes marks texts next → HaveSame (is_at shard m) u next → (id : List ℕ) (b : Bool) → (m == shard id) ≡ b → life_of next id ≡ life_of (cond b u (before (shard id))) id
      by next is same id true e = sym (same id (eq-eqb (shard id) m (sym (eqb-true m (shard id) e))))
      by next is same id false e = leaves_life rules limits (is_at shard m) takes bytes id s marks texts next is (asks_no_other rules limits (is_at shard m) bytes id can (elsewhere (shard id == m) refl)) ∙ are id
        where
          elsewhere : (b : Bool) → (shard id == m) ≡ b → (shard id == m) ≡ false
          elsewhere true t = let bad : true ≡ false = sym (eq-eqb m (shard id) (sym (eqb-true (shard id) m t))) ∙ e in cc
          elsewhere false t = t

  pub runs_one : (before after : ℕ → Lives) (s : Lives) (at : List ℕ) (cs : List (List ℕ)) (ms : List (List Bool)) (xs : List (List (List ℕ))) →
      length ms ≡ length cs → length xs ≡ length cs → Routes rules limits shard at cs →
      ((n : ℕ) → Run (refusing takes rules) limits 1 (before n) (picked (went_to n at) cs) (picked (went_to n at) ms) (picked (went_to n at) xs) (after n)) →
      AreOfShards shard before s →
      (all : Lives) × Run (refusing takes rules) limits 1 s cs ms xs all × AreOfShards shard after all
  runs_one before after s [] [] [] [] p r routes runs are = (s, refl, λ id. are id ∙ ap (λ l. life_of l id) (sym (runs (shard id))))
  runs_one before after s [] [] (m ∷ ms) xs p r routes runs are = cc
  runs_one before after s [] [] [] (x ∷ xs) p r routes runs are = cc
  runs_one before after s [] (c ∷ cs) ms xs p r routes runs are = absurd routes
  runs_one before after s (n ∷ at) [] ms xs p r routes runs are = absurd routes
  runs_one before after s (n ∷ at) (c ∷ cs) [] xs p r routes runs are = cc
  runs_one before after s (n ∷ at) (c ∷ cs) (m ∷ ms) [] p r routes runs are = cc
  runs_one before after s (n ∷ at) (c ∷ cs) (m ∷ ms) (x ∷ xs) p r routes runs are =
      let mine = subst (λ b. Run (refusing takes rules) limits 1 (before n) (picked (b ∷ went_to n at) (c ∷ cs)) (picked (b ∷ went_to n at) (m ∷ ms)) (picked (b ∷ went_to n at) (x ∷ xs)) (after n)) (eq-eqb n n refl) (runs n) in
      let here = joins n mine.0 before s c m x mine.1 routes.0 are in
      let fewer : length ms ≡ length cs = cc in
      let less : length xs ≡ length cs = cc in
      let later = runs_one (stepped n mine.0 before) after here.next at cs ms xs fewer less routes.1 (λ k. by mine.0 mine.2 k (n == k) refl (runs k)) here.same in
      (later.0, (here.next, here.is, later.1), later.2)
    where
      by : (u : Lives) → Run (refusing takes rules) limits 1 u (picked (went_to n at) cs) (picked (went_to n at) ms) (picked (went_to n at) xs) (after n) → (k : ℕ) (b : Bool) → (n == k) ≡ b
          → Run (refusing takes rules) limits 1 (before k) (picked (b ∷ went_to k at) (c ∷ cs)) (picked (b ∷ went_to k at) (m ∷ ms)) (picked (b ∷ went_to k at) (x ∷ xs)) (after k)
          → Run (refusing takes rules) limits 1 (cond b u (before k)) (picked (went_to k at) cs) (picked (went_to k at) ms) (picked (went_to k at) xs) (after k)
      by u run k true e given = subst (λ i. Run (refusing takes rules) limits 1 u (picked (went_to i at) cs) (picked (went_to i at) ms) (picked (went_to i at) xs) (after i)) (eqb-true n k e) run
      by u run k false e given = given

-- ---- histories

module _ (rules : Rules) (limits : Limits) (shard : List ℕ → ℕ) where
  pub record Continues (m : ℕ) (u : Lives) (before : ℕ → Lives) (s : Lives) (bytes : List ℕ) (outcome : AttemptOutcome) : Type 0 where
    pub next : Lives
    pub is : Leaves (Carried rules limits) s bytes outcome next
    pub same : AreOfShards shard (stepped m u before) next

  carried : (m : ℕ) (u : Lives) (before : ℕ → Lives) (s : Lives) (bytes : List ℕ) (texts : List (List ℕ)) → FirstIs rules limits (is_answerable (is_at shard m)) bytes → AreOfShards shard before s → Carried rules limits (before m) bytes texts u → (next : Lives) × Carried rules limits s bytes texts next × AreOfShards shard (stepped m u before) next
  carried m u before s bytes texts can are c =
      let it = joins rules limits (late rules) shard m u before s bytes c.marks texts c.is can are in
      (it.next, record { marks = c.marks; is = it.is; unmarked = c.unmarked }, it.same)

  -- where nothing was carried out
  pub stayed : (m : ℕ) (u : Lives) (before : ℕ → Lives) (s : Lives) → u ≡ before m → AreOfShards shard before s → AreOfShards shard (stepped m u before) s
  stayed m u before s e are id = by (m == shard id) refl
    where
      by : (b : Bool) → (m == shard id) ≡ b → life_of s id ≡ life_of (cond b u (before (shard id))) id
      by true t = are id ∙ ap (λ n. life_of (before n) id) (sym (eqb-true m (shard id) t)) ∙ ap (λ l. life_of l id) (sym e)
      by false t = are id

  continues : (m : ℕ) (u : Lives) (before : ℕ → Lives) (s : Lives) (bytes : List ℕ) (outcome : AttemptOutcome) → FirstIs rules limits (is_answerable (is_at shard m)) bytes → AreOfShards shard before s → Leaves (Carried rules limits) (before m) bytes outcome u → Continues m u before s bytes outcome
  continues m u before s bytes (answered texts) can are c = let it = carried m u before s bytes texts can are c in record { next = it.0; is = it.1; same = it.2 }
  continues m u before s bytes failed can are e = record { next = s; is = refl; same = stayed m u before s e are }
  continues m u before s bytes lost can are (texts, c) = let it = carried m u before s bytes texts can are c in record { next = it.0; is = (texts, it.1); same = it.2 }

  pub go_on : (before after : ℕ → Lives) (s : Lives) (at : List ℕ) (attempts : List Attempt) → Routes rules limits shard at (map (λ attempt. attempt.bytes) attempts) →
      ((n : ℕ) → History (Carried rules limits) (before n) (picked (went_to n at) attempts) (after n)) → AreOfShards shard before s →
      (all : Lives) × History (Carried rules limits) s attempts all × AreOfShards shard after all
  go_on before after s [] [] routes runs are = (s, refl, λ id. are id ∙ ap (λ l. life_of l id) (sym (runs (shard id))))
  go_on before after s [] (a ∷ later) routes runs are = absurd routes
  go_on before after s (n ∷ at) [] routes runs are = absurd routes
  go_on before after s (n ∷ at) (a ∷ later) routes runs are =
      let mine = subst (λ b. History (Carried rules limits) (before n) (picked (b ∷ went_to n at) (a ∷ later)) (after n)) (eq-eqb n n refl) (runs n) in
      let here = continues n mine.0 before s a.bytes a.outcome routes.0 are mine.1 in
      let rest = go_on (stepped n mine.0 before) after here.next at later routes.1 (λ k. by mine.0 mine.2 k (n == k) refl (runs k)) here.same in
      (rest.0, (here.next, here.is, rest.1), rest.2)
    where
      by : (u : Lives) → History (Carried rules limits) u (picked (went_to n at) later) (after n) → (k : ℕ) (b : Bool) → (n == k) ≡ b
          → History (Carried rules limits) (before k) (picked (b ∷ went_to k at) (a ∷ later)) (after k)
          → History (Carried rules limits) (cond b u (before k)) (picked (went_to k at) later) (after k)
      by u run k true e given = subst (λ i. History (Carried rules limits) u (picked (went_to i at) later) (after i)) (eqb-true n k e) run
      by u run k false e given = given
