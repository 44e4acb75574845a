-- Conversations of one request each are attempts, and episodes are one history.
use Rattle.std.proofs.Common.{◌≡◌, ◌∙◌, ◌⊎◌, ℕ, zero, suc, ◌<◌, ◌≤◌, inl, inr, Bool, true, false, List, [], ◌∷◌, ◌++◌, length, map, take, Result, Ok, Err, sym, refl, ap, subst, arith}
use Rattle.std.specs.List.{concat}
use Rattle.std.proofs.lemmas.List.{append-nil, length-append, take_all}
use Rattle.osb_frames.specs.declared.limits.Limits.{Limits}
use Rattle.osb_frames.specs.Calls.{Call, all_bytes}
use Rattle.osb_frames.specs.Cuts.{Message, whole, IsFront, Cuts}
use Rattle.osb_replies.specs.Parts.{refused}
use Rattle.osb_replies.specs.Text.{reply_text}
use Rattle.osb_catalog.specs.Rules.{Rules}
use Rattle.osb_orders.specs.Lives.{Lives}
use Rattle.osb_broker.specs.declared.fault.ServeFault.{ServeFault}
use Rattle.osb_broker.specs.declared.fault.ServeFault.TheVariants.{Read, Write}
use Rattle.osb_broker.specs.Machine.{Answered}
use Rattle.osb_broker.specs.Steps.{machine}
use Rattle.osb_broker.specs.Connection.{ConnectionText, looked_for, replies_of}
use Rattle.osb_broker.specs.Served.{Served, ServedTo, BrokenOff, FirstTexts}
use Rattle.osb_broker.specs.Serving.{EndsAs, OfConnection, Past, ReadBroken, WritesOf, replies_unmarked}
use Rattle.osb_broker.specs.Repeats.{is_unmarked}
use Rattle.osb_broker.specs.Attempts.{AttemptOutcome, answered, failed, lost, Attempt}
use Rattle.osb_broker.specs.Histories.{History, Leaves}
use Rattle.osb_broker.specs.ActsOnce.{Carried}
use Rattle.osb_broker.specs.Crashes.{LostAnswer}
use Rattle.osb_broker.specs.Conversations.{Conversation, IsConversation, AreConversations, AreEpisodes, all_conversations, IsNoAnswer, WasSent, AreAttemptsOf}
use Rattle.osb_broker.proofs.RequestLemmas.{Kind, silent, broken, asks, Seen, view, seen_marked}
use Rattle.osb_broker.proofs.RepeatLemmas.{late}
use Rattle.osb_broker.proofs.ActsOnceLemmas.{carries}

-- ---- episodes

module _ (rules : Rules) (limits : Limits) (k : ℕ) where
  then_later : (s : Lives) (conversations later : List Conversation) (u t : Lives) → AreConversations rules limits k s conversations u → AreConversations rules limits k u later t → AreConversations rules limits k s (conversations ++ later) t
  then_later s [] later u t none more = subst (λ v. AreConversations rules limits k v later t) none more
  then_later s (first ∷ conversations) later u t (v, one, rest) more = (v, one, then_later v conversations later u t rest more)

  together : (s : Lives) (episodes : List (List Conversation)) (t : Lives) → AreEpisodes rules limits k s episodes t → AreConversations rules limits k s (all_conversations episodes) t
  together s [] t none = none
  together s (conversations ∷ episodes) t (u, first, rest) = then_later s conversations (all_conversations episodes) u t first (together u episodes t rest)

pub go_on : (rules : Rules) (limits : Limits) (k : ℕ) (old : Lives) (episodes : List (List Conversation)) (new : Lives) → AreEpisodes rules limits k old episodes new → AreConversations rules limits k old (all_conversations episodes) new
go_on rules limits k s episodes t all = together rules limits k s episodes t all

-- ---- one request

no_requests : (requests : List Message) → length requests < 1 → requests ≡ []
no_requests [] few = refl
no_requests (q ∷ qs) few = absurd (omega (arith, few))

module _ (rules : Rules) (limits : Limits) where
  -- the texts of a connection that met a refusal
  refused_texts : (s : Lives) (bytes : List ℕ) (kind : Kind limits bytes) (marks : List Bool) (texts : List (List ℕ)) (t : Lives) → Seen rules (late rules) limits bytes kind s marks texts t → is_unmarked marks ≡ false → texts ≡ reply_text refused ∷ []
  refused_texts s bytes (silent e) marks texts t (none, says, stays) marked = let clear = ap is_unmarked none in cc
  refused_texts s bytes (broken f at) marks texts t (none, says, stays) marked = let clear = ap is_unmarked none in cc
  refused_texts s bytes (asks q n at) marks texts t (mark, reply, one, says, met) marked = by mark (sym (ap is_unmarked one) ∙ marked) met
    where
      by : (mark : Bool) → is_unmarked (mark ∷ []) ≡ false → Answered (machine rules) q true mark s reply t → texts ≡ reply_text refused ∷ []
      by true e (takes, is, stays) = says ∙ ap (λ r. reply_text r ∷ []) is
      by false e (is, leaves) = cc

  -- it was carried out, or met a refusal
  abbrev CarriedOrRefused : Lives → List ℕ → List (List ℕ) → Lives → Type 0
  CarriedOrRefused s bytes texts t = Carried rules limits s bytes texts t ⊎ ((texts ≡ reply_text refused ∷ []) × (t ≡ s))

  either : (s : Lives) (bytes : List ℕ) (marks : List Bool) (texts : List (List ℕ)) (t : Lives) → ConnectionText (machine rules) limits 1 s bytes marks texts t → CarriedOrRefused s bytes texts t
  either s bytes marks texts t text = by (is_unmarked marks) refl
    where
      by : (b : Bool) → is_unmarked marks ≡ b → CarriedOrRefused s bytes texts t
      by true e = inl (record { marks = marks; is = text; unmarked = e })
      by false e =
          let seen = view rules (late rules) limits s bytes marks texts t text in
          inr (refused_texts s bytes seen.0 marks texts t seen.1 e, seen_marked rules (late rules) limits bytes seen.0 s marks texts t seen.1 e)

  -- the first texts of a connection are all of them
  all_texts : (s : Lives) (bytes : List ℕ) (texts : List (List ℕ)) (text : List ℕ) (t : Lives) → FirstTexts (machine rules) limits 1 s bytes (texts ++ text ∷ []) t → CarriedOrRefused s bytes (texts ++ text ∷ []) t
  all_texts s bytes texts text t first = by first.most first.fewer first.cut
    where
      by : (most : ℕ) → most ≤ 1 → Cuts limits (looked_for most first.marks) bytes first.requests first.end → CarriedOrRefused s bytes (texts ++ text ∷ []) t
      by zero few cut =
          let none = first.printed ∙ ap (λ qs. map reply_text (replies_of (machine rules) 1 s qs first.end first.marks).0) cut.0 ∙ ap (λ end. map reply_text (replies_of (machine rules) 1 s [] end first.marks).0) cut.1 in
          absurd (omega (arith, length-append texts (text ∷ []), ap length none))
      by (suc zero) few cut =
          either s bytes first.marks (texts ++ text ∷ []) t (record { requests = first.requests; end = first.end; cut = cut; marked = first.marked; printed = first.printed; leaves = first.leaves })
      by (suc (suc most)) few cut = absurd (omega (arith, few))

  -- ---- one client

  -- what became of it, and what it was sent where so many writes failed
  abbrev Attempted : Lives → List ℕ → List ℕ → ℕ → Lives → Type 0
  Attempted s bytes sent count t = (outcome : AttemptOutcome) × Leaves (Carried rules limits) s bytes outcome t × (count ≡ 0 → WasSent outcome sent)

  if_served : (s : Lives) (got sent : List ℕ) (count : ℕ) (t : Lives) → Served (machine rules) limits 1 s got [] sent t → Attempted s got sent count t
  if_served s got sent count t served = elim (either s got served.marks served.texts t served.is) [
    | inl carried ↦ (answered served.texts, carried, λ none. served.written)
    | inr (texts, stays) ↦ (failed, stays, λ none. inl (served.written ∙ ap concat texts ∙ append-nil (reply_text refused)))
  ]

  if_broken_off : (s : Lives) (got sent : List ℕ) (count : ℕ) (t : Lives) → 0 < count → BrokenOff (machine rules) limits 1 s got [] sent t → Attempted s got sent count t
  if_broken_off s got sent count t some off = elim (all_texts s got off.texts off.text t off.is) [
    | inl carried ↦ (lost, (off.texts ++ off.text ∷ [], carried), λ none. absurd (omega (arith, some, none)))
    | inr (texts, stays) ↦ (failed, stays, λ none. absurd (omega (arith, some, none)))
  ]

  none_sent : (s : Lives) (got sent : List ℕ) (t : Lives) → ReadBroken (machine rules) limits 1 s got [] sent t → (sent ≡ []) × (t ≡ s)
  none_sent s got sent t off =
      let none = no_requests off.requests off.fewer in (
        off.written ∙ ap (λ qs. concat (map reply_text (replies_unmarked (machine rules) 1 s qs).0)) none,
        off.leaves ∙ ap (λ qs. (replies_unmarked (machine rules) 1 s qs).1) none,
      )

  -- of the bytes that were read, whatever may follow
  of_read : (P : List ℕ → Type 0) (calls : List Call) → OfConnection P calls → P (all_bytes calls)
  of_read P calls (inl each) = subst P (append-nil (all_bytes calls)) (each [])
  of_read P calls (inr is) = is.0

  if_shown : (ended : Result (Unit {0}) ServeFault) (s : Lives) (calls : List Call) (met_fault : Bool) (sent : List ℕ) (count : ℕ) (t : Lives) → WritesOf ended 0 count → EndsAs ended (machine rules) limits 1 s calls met_fault [] sent t → Attempted s (all_bytes calls) sent count t
  if_shown (Ok x) s calls met_fault sent count t wrote is = if_served s (all_bytes calls) sent count t (of_read (λ bytes. ServedTo (machine rules) limits 1 s bytes met_fault [] sent t) calls is).0
  if_shown (Err Write) s calls met_fault sent count t wrote is = if_broken_off s (all_bytes calls) sent count t wrote (of_read (λ bytes. BrokenOff (machine rules) limits 1 s bytes [] sent t) calls is)
  if_shown (Err Read) s calls met_fault sent count t wrote is = let none = none_sent s (all_bytes calls) sent t is in (failed, none.1, λ whole. inr none.0)

  -- the answer to the only request was lost
  no_answer : (ended : Result (Unit {0}) ServeFault) (s : Lives) (calls : List Call) (met_fault : Bool) (sent : List ℕ) (count : ℕ) (u t : Lives) → WritesOf ended 0 count → EndsAs ended (machine rules) limits 1 s calls met_fault [] sent u
      → LostAnswer ended (machine rules) limits 1 s (all_bytes calls) [] sent u t → count ≡ 0 → IsNoAnswer sent
  no_answer (Ok x) s calls met_fault sent count u t wrote shown gone none =
      let text = reply_text refused in
      inl (gone.written ∙ ap (λ qs. concat (map reply_text (replies_unmarked (machine rules) 1 s qs).0) ++ take gone.count text) (no_requests gone.requests gone.fewer) ∙ take_all gone.count text (omega (arith, gone.whole)))
  no_answer (Err Write) s calls met_fault sent count u t wrote shown gone none = absurd (omega (arith, wrote, none))
  no_answer (Err Read) s calls met_fault sent count u t wrote shown gone none = inr (none_sent s (all_bytes calls) sent u shown).0

  if_lost : (ended : Result (Unit {0}) ServeFault) (s : Lives) (calls : List Call) (met_fault : Bool) (sent : List ℕ) (count : ℕ) (u t : Lives) → WritesOf ended 0 count → EndsAs ended (machine rules) limits 1 s calls met_fault [] sent u
      → LostAnswer ended (machine rules) limits 1 s (all_bytes calls) [] sent u t → Attempted s (all_bytes calls) sent count t
  if_lost ended s calls met_fault sent count u t wrote shown gone =
      let got = all_bytes calls in
      let none = no_requests gone.requests gone.fewer in
      let held : gone.held ≡ got = subst (λ qs. Past limits qs got gone.held) none gone.past in
      let front : IsFront limits got (whole gone.q gone.n) = subst (λ l. IsFront limits l (whole gone.q gone.n)) held gone.front in
      let first : u ≡ s = gone.answered ∙ ap (λ qs. (replies_unmarked (machine rules) 1 s qs).1) none in
      let after = gone.leaves ∙ ap (λ v. ((machine rules).step v gone.q).1) first in
      let carried = carries rules limits s got (asks gone.q gone.n front) in
      (lost, (carried.0, subst (λ v. Carried rules limits s got carried.0 v) (sym after) carried.1), no_answer ended s calls met_fault sent count u t wrote shown gone)

  pub attempted : (s : Lives) (it : Conversation) (t : Lives) → IsConversation rules limits 1 s it t → Attempted s (all_bytes it.calls) it.sent it.failed t
  attempted s it t is = by is.outcome.is
    where
      by : (t ≡ is.outcome.shown) ⊎ LostAnswer is.ended (machine rules) limits 1 s (all_bytes it.calls) [] it.sent is.outcome.shown t → Attempted s (all_bytes it.calls) it.sent it.failed t
      by (inl same) = if_shown is.ended s it.calls it.met_fault it.sent it.failed t is.wrote (subst (λ v. EndsAs is.ended (machine rules) limits 1 s it.calls it.met_fault [] it.sent v) (sym same) is.outcome.ends)
      by (inr gone) = if_lost is.ended s it.calls it.met_fault it.sent it.failed is.outcome.shown t is.wrote is.outcome.ends gone

  -- ---- one client after the other

  attempts_of : (s : Lives) (conversations : List Conversation) (t : Lives) → AreConversations rules limits 1 s conversations t → (attempts : List Attempt) × AreAttemptsOf conversations attempts × History (Carried rules limits) s attempts t
  attempts_of s [] t none = ([], tt, none)
  attempts_of s (it ∷ later) t (u, first, rest) =
      let one = attempted s it u first in
      let more = attempts_of u later t rest in
      (record { bytes = all_bytes it.calls; outcome = one.0 } ∷ more.0, (record { bytes = refl; sent = one.2 }, more.1), (u, one.1, more.2))

pub are_histories : (rules : Rules) (limits : Limits) (old : Lives) (episodes : List (List Conversation)) (new : Lives) → AreEpisodes rules limits 1 old episodes new
    → (attempts : List Attempt) × AreAttemptsOf (all_conversations episodes) attempts × History (Carried rules limits) old attempts new
are_histories rules limits s episodes t all = attempts_of rules limits s (all_conversations episodes) t (together rules limits 1 s episodes t all)
