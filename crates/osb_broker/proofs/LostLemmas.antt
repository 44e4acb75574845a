-- A request that was carried out, and whose answer was lost.
use Rattle.std.proofs.Common.{◌≡◌, ◌≢◌, ◌∙◌, ◌⊎◌, ℕ, ◌<◌, ◌-◌, ◌==◌, inl, inr, Bool, true, false, List, [], ◌∷◌, ◌++◌, length, map, take, drop, Result, Ok, Err, MatchResult, OnOk, sym, refl, ap, subst, arith}
use Rattle.std.specs.Result.{IsErr}
use Rattle.std.specs.List.{concat}
use Rattle.std.proofs.lemmas.Bool.{true≢false}
use Rattle.std.proofs.lemmas.List.{append-nil, append_assoc, take_all}
use Rattle.sqlite.specs.Held.{Held, state}
use Rattle.sqlite.specs.State.{HasCleanDisk}
use Rattle.sqlite_trees.specs.declared.store.Store.{Ghosts}
use Rattle.osb_frames.specs.declared.limits.Limits.{Limits}
use Rattle.osb_frames.specs.Calls.{Call, all_bytes}
use Rattle.osb_frames.specs.Cuts.{Message}
use Rattle.osb_replies.specs.declared.write.WriteFault.{WriteFault}
use Rattle.osb_replies.specs.Parts.{refused}
use Rattle.osb_replies.specs.Text.{ReplyParts, reply_text}
use Rattle.osb_replies.specs.Written.{WroteFirst}
use Rattle.osb_catalog.specs.Rules.{Rules}
use Rattle.osb_asks.specs.Asks.{ask_of}
use Rattle.osb_orders.specs.Lives.{Lives}
use Rattle.osb_orders.specs.IsLife.{IsLives}
use Rattle.osb_laws.specs.Failures.{is_500}
use Rattle.osb_records.specs.CrashLeaves.{KeepsLives}
use Rattle.osb_statements.specs.Steps.{HoldsLives, stored}
use Rattle.osb_broker.specs.declared.fault.ServeFault.{ServeFault}
use Rattle.osb_broker.specs.declared.fault.ServeFault.TheVariants.{Write}
use Rattle.osb_broker.specs.Answering.{Answers, AnswersOrLost, AnswersWhole, AnswersWholeOrLost, LostReply, WritesReply}
use Rattle.osb_broker.specs.BrokerState.{Works}
use Rattle.osb_broker.specs.Crashes.{EndsAsOrLost, LeavesLives, LostAnswer, RunOrLost, ServedOrLost}
use Rattle.osb_broker.specs.Inside.{Handles}
use Rattle.osb_broker.specs.Machine.{Answer, Handled, Machine, reply_of}
use Rattle.osb_broker.specs.Refusals.{NeverFails}
use Rattle.osb_broker.specs.Connection.{Run}
use Rattle.osb_broker.specs.Served.{RunServed, Served}
use Rattle.osb_broker.specs.Serving.{EndsAs}
use Rattle.osb_broker.specs.Steps.{lives_after, needs_lives, step_for}
use Rattle.osb_broker.proofs.HoldLemmas.{at_request, breaking_held, closing_held, holding_more, HoldsRequest, ReadSoFar}
use Rattle.osb_broker.proofs.LoopLemmas.{AtRequest, closing}
use Rattle.osb_broker.proofs.OneByOne.{WrittenSoFar}
use Rattle.osb_broker.proofs.OneByOneLemmas.{passed}
use Rattle.osb_broker.proofs.WholeLemmas.{going_on}

-- ---- one request

-- a request was handled and left t, or the reply is the fixed 500 and it left t all the same
abbrev pub HandledOrLost : Machine Lives → Message → Bool → Lives → ReplyParts → Lives → Type 0
HandledOrLost m q last s reply t =
    Handled m q last s reply t ⊎ ((reply ≡ refused) × (m.takes_memory q ≡ true) × (t ≡ (m.step s q).1))

-- a machine that takes the steps of these rules, of which what needs the lives may be refused memory
module _ {S : Type 0} {g : Ghosts S} {m : Machine Lives} {rules : Rules} {q : Message} {last : Bool} {old new : Held S} {reply : ReplyParts}
    (steps : (lives : Lives) → m.step lives q ≡ step_for rules lives (ask_of rules q)) (takes : needs_lives (ask_of rules q) ≡ true → m.takes_memory q ≡ true)
    (never : NeverFails m) (whole : Works (state g old) → IsLives (stored (state g old))) (kept : Works (state g old) → KeepsLives (state g old) (stored (state g old)))
    (handles : Handles g m rules q last old new reply) (works : Works (state g old)) (clean : HasCleanDisk (state g new)) where
  abbrev s : Lives
  s = stored (state g old)

  abbrev Leaves : Type 0
  Leaves = LeavesLives (state g new) (λ t. HandledOrLost m q last s reply t)

  stepped : lives_after rules s q ≡ (m.step s q).1
  stepped = ap (λ (step : Answer × Lives). step.1) (sym (steps s))

  isnt_500 : reply ≡ reply_of q last (m.step s q).0 → reply ≢ refused
  isnt_500 is same =
      true≢false (sym (ap (λ (r : ReplyParts). is_500 r.status) same) ∙ ap (λ (r : ReplyParts). is_500 r.status) is ∙ never s q)

  of_plain : needs_lives (ask_of rules q) ≡ false → Leaves
  of_plain plain = record {
    some = (s, inl (handles.plain plain s));
    left = λ db may. (s, whole works, kept works db (subst (λ (h : Held S). (state g h).may_leave db) (handles.untouched plain) may), inl (handles.plain plain s));
  }

  of_500 : m.takes_memory q ≡ true → reply ≡ refused → Leaves
  of_500 may_take is = record {
    some = (s, inl (true, (may_take, is, refl)));
    left = λ db may. elim (handles.crash.crash clean db may) [
      | inl was ↦ (s, whole works, kept works db was, inl (true, (may_take, is, refl)))
      | inr commits ↦ (lives_after rules s q, commits.whole, commits.holds, inr (is, may_take, stepped))
    ];
  }

  of_step : reply ≡ reply_of q last (m.step s q).0 → Leaves
  of_step is = record {
    some = (lives_after rules s q, inl (false, (is, stepped)));
    left = λ db may.
        let both : IsLives (lives_after rules s q) × HoldsLives (lives_after rules s q) db = elim (handles.crash.crash clean db may) [
          | inl was ↦
              let holds : HoldsLives s db = kept works db was in
              let same : s ≡ lives_after rules s q = sym holds.lives_are ∙ handles.durable works clean (isnt_500 is) db may in
              (subst IsLives same (whole works), subst (λ lives. HoldsLives lives db) same holds)
          | inr commits ↦ (commits.whole, commits.holds)
        ] in
        (lives_after rules s q, both.0, both.1, inl (false, (is, stepped)));
  }

  of_need : (needs : Bool) → needs_lives (ask_of rules q) ≡ needs → Leaves
  of_need false plain = of_plain plain
  of_need true needs = elim (handles.told works clean) [
    | inl is ↦ of_500 (takes needs) is
    | inr is ↦ of_step is
  ]

  pub handled_or_lost : Leaves
  handled_or_lost = of_need (needs_lives (ask_of rules q)) refl

-- the reply was written, or begun
pub replied_or_lost : {m : Machine Lives} {q : Message} {last : Bool} {s t : Lives} {base : List ℕ} {before : ℕ} {now : List ℕ} {after : ℕ} {result : Result Bool WriteFault} (reply : ReplyParts) → WritesReply base before now after result reply → HandledOrLost m q last s reply t → AnswersOrLost m q last s t base before now after result
replied_or_lost reply wrote (inl (mark, answered)) = record { is = inl (mark, reply, answered, wrote) }
replied_or_lost {base = base} {result = Ok close} reply wrote (inr (is, may_take, leaves)) =
    let all : take (length (reply_text refused)) (reply_text refused) ≡ reply_text refused = take_all (length (reply_text refused)) (reply_text refused) (omega arith) in
    record {
      is = inr (
        (true, reply, (may_take, is, refl), wrote),
        record {
          takes_memory = may_take;
          count = length (reply_text refused);
          whole = refl;
          written = wrote.0 ∙ ap (λ (r : ReplyParts). base ++ reply_text r) is ∙ ap (λ text. base ++ text) (sym all);
          leaves = leaves;
          closes = wrote.2 ∙ ap (λ (r : ReplyParts). r.close) is;
        },
      );
    }
replied_or_lost {base = base} {result = Err fault} reply wrote (inr (is, may_take, leaves)) =
    record {
      is = inr (
        (true, reply, (may_take, is, refl), wrote),
        record {
          takes_memory = may_take;
          count = wrote.0;
          whole = tt;
          written = wrote.2 ∙ ap (λ (r : ReplyParts). base ++ take wrote.0 (reply_text r)) is;
          leaves = leaves;
          closes = tt;
        },
      );
    }

-- a reply that was begun
pub begun : {base : List ℕ} {before : ℕ} {now : List ℕ} {after : ℕ} (result : Result Bool WriteFault) (reply : ReplyParts) (written : ℕ) → IsErr result → WroteFirst base now (reply_text reply) written → before < after → WritesReply base before now after result reply
begun (Ok close) reply written err first more = absurd (cc)
begun (Err fault) reply written err first more = (first.count, first.inside, first.bytes, more)

-- a reply that was written whole
pub of_answer : {m : Machine Lives} {q : Message} {last : Bool} {s t : Lives} {base now : List ℕ} {close : Bool} → AnswersWhole m q last s t base now close → AnswersWholeOrLost m q last s t base now close
of_answer (mark, reply, answered, wrote, closes) = record { is = inl (mark, reply, answered, (wrote, refl, closes)) }

-- ---- a request of a connection

-- the last request of those that were looked for
module _ {S : Type 0} (machine : Machine S) (limits : Limits) (k : ℕ) (s : S) (bytes old : List ℕ) (left : ℕ) (now : List ℕ) (u : S) (rest : List ℕ) (q : Message) (n j : ℕ) (at : AtRequest machine limits k s bytes old left now u rest q n j)
    (t : S) (new : List ℕ) where
  pub lost : (ended : Result (Unit {0}) ServeFault) (result : Result Bool WriteFault) → ((X : Type 0) → OnOk result X → OnOk ended X) → LostReply machine q u t now new result → LostAnswer ended machine limits k s bytes old new u t
  lost ended result so reply =
      let texts = at.reached.texts in
      let it = passed machine limits k s bytes texts left u rest at.reached.is in
      let part = take reply.count (reply_text refused) in
      record {
        requests = it.0;
        held = rest;
        past = it.1;
        fewer = omega (arith, it.2, at.fewer);
        q = q;
        n = n;
        front = at.front;
        takes_memory = reply.takes_memory;
        count = reply.count;
        whole = so _ reply.whole;
        written = reply.written ∙ ap (λ l. l ++ part) at.reached.written ∙ append_assoc old (concat texts) part ∙ ap (λ l. old ++ (concat l ++ part)) it.3;
        answered = it.4;
        leaves = reply.leaves;
      }

  -- its reply closes
  pub closing_whole_or_lost : (close : Bool) → AnswersWholeOrLost machine q (j == 0) u t now new close → close ≡ true → ServedOrLost machine limits k s bytes old new t
  closing_whole_or_lost close answers closes = elim answers.is [
    | inl answers ↦ record { shown = t; served = (closing machine limits k s bytes old left now u rest q n j t 0 new 0 close at answers closes).0; is = inl refl }
    | inr both ↦ record {
      shown = u;
      served = (closing machine limits k s bytes old left now u rest q n j u 0 new 0 close at both.0 closes).0;
      is = inr (lost (Ok tt) (Ok close) (λ X whole. whole) both.1);
    }
  ]

  -- its reply leaves the connection open, so it isn't the 500
  pub not_lost_whole : (close : Bool) → AnswersWholeOrLost machine q (j == 0) u t now new close → close ≡ false → WrittenSoFar machine limits k s bytes old j new t (take (length rest - n) (drop n rest))
  not_lost_whole close answers stays = elim answers.is [
    | inl (mark, reply, answered, wrote) ↦ going_on machine limits k s bytes old left now u rest q n j t new close at (mark, reply, answered, wrote.0, wrote.2) stays
    | inr both ↦ let no : true ≡ false = sym both.1.closes ∙ stays in absurd (true≢false no)
  ]

pub shown_whole : {S : Type 0} {machine : Machine S} {limits : Limits} {k : ℕ} {s : S} {bytes old new : List ℕ} {t : S} → Served machine limits k s bytes old new t → ServedOrLost machine limits k s bytes old new t
shown_whole {t = t} served = record { shown = t; served = served; is = inl refl }

-- ---- one connection after another

run_shown : {S : Type 0} (machine : Machine S) (limits : Limits) (k : ℕ) (s : S) (cs : List (List ℕ)) (ms : List (List Bool)) (xs : List (List (List ℕ))) (t : S) → Run machine limits k s cs ms xs t → RunOrLost machine limits k s cs (map concat xs) t
run_shown machine limits k s [] [] [] t run = run
run_shown machine limits k s [] [] (x ∷ xs) t run = absurd run
run_shown machine limits k s [] (m ∷ ms) xs t run = absurd run
run_shown machine limits k s (c ∷ cs) [] xs t run = absurd run
run_shown machine limits k s (c ∷ cs) (m ∷ ms) [] t run = absurd run
run_shown machine limits k s (c ∷ cs) (m ∷ ms) (x ∷ xs) t (u, is, run) =
    (u, shown_whole (record { marks = m; texts = x; is = is; written = refl }), run_shown machine limits k u cs ms xs t run)

pub shown_run : {S : Type 0} {machine : Machine S} {limits : Limits} {k : ℕ} {s : S} {connections outputs : List (List ℕ)} {t : S} → RunServed machine limits k s connections outputs t → RunOrLost machine limits k s connections outputs t
shown_run {machine = machine} {limits = limits} {k = k} {s = s} {connections = connections} {t = t} run =
    subst (λ outputs. RunOrLost machine limits k s connections outputs t) (sym run.written) (run_shown machine limits k s connections run.marks run.texts t run.is)

-- one connection more
pub run_or_lost : {S : Type 0} (machine : Machine S) (limits : Limits) (k : ℕ) (s : S) (connections outputs : List (List ℕ)) (u : S) (bytes output : List ℕ) (t : S) → RunOrLost machine limits k s connections outputs u → ServedOrLost machine limits k u bytes [] output t → RunOrLost machine limits k s (connections ++ bytes ∷ []) (outputs ++ output ∷ []) t
run_or_lost machine limits k s [] [] u bytes output t run served = (t, subst (λ v. ServedOrLost machine limits k v bytes [] output t) run served, refl)
run_or_lost machine limits k s (first ∷ connections) (one ∷ outputs) u bytes output t (v, was, run) served =
    (v, was, run_or_lost machine limits k v connections outputs u bytes output t run served)
run_or_lost machine limits k s [] (one ∷ outputs) u bytes output t run served = absurd run
run_or_lost machine limits k s (first ∷ connections) [] u bytes output t run served = absurd run

pub of_fault : {X Y : Type 0} (result : Result X Y) (P : X → Type 0) (Q : Type 0) → IsErr result → Q → MatchResult result P (λ _. Q)
of_fault (Ok x) P Q err is = absurd (cc)
of_fault (Err y) P Q err is = is

pub result_weaker : {X Y : Type 0} (result : Result X Y) (P Q : X → Type 0) (E : Y → Type 0) → ((x : X) → P x → Q x) → MatchResult result P E → MatchResult result Q E
result_weaker (Ok x) P Q E weaker is = weaker x is
result_weaker (Err y) P Q E weaker is = is

-- ---- the same over a buffer

pub shown : {S : Type 0} {result : Result (Unit {0}) ServeFault} {machine : Machine S} {limits : Limits} {k : ℕ} {s : S} {calls : List Call} {met_fault : Bool} {old new : List ℕ} {t : S} → EndsAs result machine limits k s calls met_fault old new t → EndsAsOrLost result machine limits k s calls met_fault old new t
shown {t = t} ends = record { shown = t; ends = ends; is = inl refl }

module _ {S : Type 0} (machine : Machine S) (limits : Limits) (k : ℕ) (s : S) (calls : List Call) (old : List ℕ) (left : ℕ) (now : List ℕ) (u : S) (held : List ℕ) (q : Message) (n j : ℕ) (at : HoldsRequest machine limits k s (all_bytes calls) old left now u held q n j)
    (t : S) (before : ℕ) (new : List ℕ) (after : ℕ) where
  -- what follows from an answer, or from one that was lost
  either : (result : Result Bool WriteFault) (P : Type 0) → (Answers machine q (j == 0) u t now before new after result → P)
      → (Answers machine q (j == 0) u u now before new after result → LostReply machine q u t now new result → P)
      → AnswersOrLost machine q (j == 0) u t now before new after result → P
  either result P of_answer of_lost answers = elim answers.is [
    | inl answers ↦ of_answer answers
    | inr both ↦ of_lost both.0 both.1
  ]

  -- serving ends with it
  last_or_lost : (met_fault : Bool) (ended : Result (Unit {0}) ServeFault) (result : Result Bool WriteFault) → ((X : Type 0) → OnOk result X → OnOk ended X)
      → ((v : S) → Answers machine q (j == 0) u v now before new after result → EndsAs ended machine limits k s calls met_fault old new v)
      → AnswersOrLost machine q (j == 0) u t now before new after result → EndsAsOrLost ended machine limits k s calls met_fault old new t
  last_or_lost met_fault ended result so ends = either result _ (λ answers. shown (ends t answers))
      (λ answers reply. record {
        shown = u;
        ends = ends u answers;
        is = inr (subst (λ bytes. LostAnswer ended machine limits k s bytes old new u t) (append-nil (all_bytes calls))
            (lost machine limits k s (all_bytes calls ++ []) old left now u (held ++ []) q n j (at_request machine limits k s (all_bytes calls) old left now u held q n j at []) t new ended result so reply));
      })

  -- its reply closes
  pub closing_or_lost : (met_fault close : Bool) → AnswersOrLost machine q (j == 0) u t now before new after (Ok close) → close ≡ true → met_fault ≡ false → EndsAsOrLost (Ok tt) machine limits k s calls met_fault old new t
  closing_or_lost met_fault close answers closes met =
      last_or_lost met_fault (Ok tt) (Ok close) (λ X whole. whole)
      (λ v says. inl (closing_held machine limits k s (all_bytes calls) old left now u held q n j v before new after close met_fault at says closes met)) answers

  -- its reply was begun
  pub breaking_or_lost : (met_fault : Bool) (fault : WriteFault) → AnswersOrLost machine q (j == 0) u t now before new after (Err fault) → EndsAsOrLost (Err Write) machine limits k s calls met_fault old new t
  breaking_or_lost met_fault fault answers =
      last_or_lost met_fault (Err Write) (Err fault) (λ X whole. tt)
      (λ v says. inl (breaking_held machine limits k s (all_bytes calls) old left now u held q n j v before new after fault at says)) answers

  -- its reply leaves the connection open, so it isn't the 500
  pub not_lost : (close : Bool) → AnswersOrLost machine q (j == 0) u t now before new after (Ok close) → close ≡ false → ReadSoFar machine limits k s (all_bytes calls) old j new t (drop n held)
  not_lost close answers stays =
      either (Ok close) _ (λ answers. holding_more machine limits k s (all_bytes calls) old left now u held q n j t before new after close at answers stays)
      (λ answers reply. let both : true ≡ false = sym reply.closes ∙ stays in absurd (true≢false both)) answers
