-- The last exchange of a client is a conversation of one request, and the other way round.
use Rattle.std.proofs.Common.{◌≡◌, ◌∙◌, ◌⊎◌, ℕ, zero, suc, ◌+◌, ◌<◌, ◌≤◌, inl, inr, Bool, true, false, ◌||◌, cond, List, [], ◌∷◌, ◌++◌, length, map, take, drop, Option, None, Some, Result, Ok, Err, sym, refl, ap, subst, arith}
use Rattle.std.specs.List.{concat}
use Rattle.std.specs.Option.{option_map_or}
use Rattle.std.proofs.lemmas.List.{append-nil, length-append}
use Rattle.osb_frames.specs.declared.limits.Limits.{Limits}
use Rattle.osb_frames.specs.Calls.{Call, all_bytes}
use Rattle.osb_frames.specs.Cuts.{Message, closes, whole, IsFront, End, ended, closed, stopped, Cuts}
use Rattle.osb_replies.specs.Parts.{refused}
use Rattle.osb_replies.specs.Text.{ReplyParts, reply_text}
use Rattle.osb_catalog.specs.Rules.{Rules}
use Rattle.osb_orders.specs.Lives.{Lives}
use Rattle.osb_broker.specs.declared.fault.ServeFault.{ServeFault}
use Rattle.osb_broker.specs.declared.fault.ServeFault.TheVariants.{Read, Write}
use Rattle.osb_broker.specs.Machine.{Answered, fault_reply, reply_of}
use Rattle.osb_broker.specs.Steps.{machine}
use Rattle.osb_broker.specs.Connection.{AreMarks, ConnectionText, looked_for, replies_of}
use Rattle.osb_broker.specs.Served.{BrokenOff, ServedTo, is_fault}
use Rattle.osb_broker.specs.Serving.{EndsAs, NothingWaits, OfConnection, Past, ReadBroken, replies_unmarked}
use Rattle.osb_broker.specs.Crashes.{EndsAsOrLost, LostAnswer}
use Rattle.osb_broker.specs.Conversations.{Conversation, IsConversation}
use Rattle.osb_broker.specs.Last.{EndsLast, IsLast, IsLastReply, WasLost}
use Rattle.osb_broker.proofs.OneByOne.{TextTo}
use Rattle.osb_broker.proofs.OneByOneLemmas.{alone, at_nothing, at_stop, met}

-- ---- lists of one

one_text : (texts : List (List ℕ)) (text only : List ℕ) → texts ++ text ∷ [] ≡ only ∷ [] → (texts ≡ []) × (text ≡ only)
one_text [] text only same = (refl, cc)
one_text (first ∷ texts) text only same = absurd (omega (arith, ap length same, length-append texts (text ∷ [])))

no_requests : (requests : List Message) → length requests < 1 → requests ≡ []
no_requests [] few = refl
no_requests (q ∷ later) few = absurd (omega (arith, few))

looked_one : (marks : List Bool) → looked_for 1 marks ≡ 1
looked_one [] = refl
looked_one (true ∷ marks) = refl
looked_one (false ∷ marks) = refl

or_true : (b : Bool) → (b || true) ≡ true
or_true true = refl
or_true false = refl

-- the texts of a reply, where there is one
abbrev texts_of : Option ReplyParts → List (List ℕ)
texts_of None = []
texts_of (Some reply) = reply_text reply ∷ []

text_of : (reply : Option ReplyParts) → concat (texts_of reply) ≡ option_map_or reply_text reply []
text_of None = refl
text_of (Some reply) = append-nil (reply_text reply)

-- P and Q of the bytes of a connection
pointwise : (P Q : List ℕ → Type 0) (calls : List Call) → ((bytes : List ℕ) → P bytes → Q bytes) → OfConnection P calls → OfConnection Q calls
pointwise P Q calls each (inl all) = inl (λ more. each (all_bytes calls ++ more) (all more))
pointwise P Q calls each (inr (one, at_end)) = inr (each (all_bytes calls) one, at_end)

module _ (rules : Rules) (limits : Limits) (old : Lives) where
  -- what answers these bytes, and whether they begin with a fault
  abbrev Has : List ℕ → Bool → List (List ℕ) → Lives → Type 0
  Has bytes met_fault texts new = (reply : Option ReplyParts) × IsLastReply rules limits old bytes met_fault reply new × (texts ≡ texts_of reply)

  -- ---- from a conversation

  shut : (c : Bool) (bytes : List ℕ) (later : List Message) (end : End) → Cuts limits (cond c 0 0) bytes later end → end ≡ closed
  shut true bytes later end cut = cut.1
  shut false bytes later end cut = cut.1

  of_cut : (bytes : List ℕ) (requests : List Message) (end : End) (marks : List Bool) (texts : List (List ℕ)) (new : Lives) → Cuts limits 1 bytes requests end → AreMarks (machine rules) requests marks
      → texts ≡ map reply_text (replies_of (machine rules) 1 old requests end marks).0 → new ≡ (replies_of (machine rules) 1 old requests end marks).1 → Has bytes (is_fault end) texts new
  of_cut bytes [] ended marks texts new cut marked printed leaves = (None, (cut, refl, leaves), printed)
  of_cut bytes [] (stopped f) marks texts new cut marked printed leaves = (Some (fault_reply f), (f, cut, refl, leaves), printed)
  of_cut bytes [] closed marks texts new cut marked printed leaves = absurd cut
  of_cut bytes (q ∷ later) end [] texts new cut marked printed leaves = absurd marked
  of_cut bytes (q ∷ later) end (true ∷ marks) texts new (n, front, rest) marked printed leaves =
      subst (λ e. Has bytes (is_fault e) texts new) (sym (shut (closes q) (drop n bytes) later end rest)) (Some refused, (q, n, front, (true, (marked.0 refl, refl, leaves))), printed)
  of_cut bytes (q ∷ later) end (false ∷ marks) texts new (n, front, rest) marked printed leaves =
      subst (λ e. Has bytes (is_fault e) texts new) (sym (shut (closes q) (drop n bytes) later end rest)) (Some (reply_of q true ((machine rules).step old q).0), (q, n, front, (false, (refl, leaves))), printed)

  -- it was served
  of_served : (met_fault : Bool) (sent : List ℕ) (new : Lives) (bytes : List ℕ) → ServedTo (machine rules) limits 1 old bytes met_fault [] sent new → (reply : Option ReplyParts) × IsLastReply rules limits old bytes met_fault reply new × (sent ≡ option_map_or reply_text reply [])
  of_served met_fault sent new bytes (served, is) =
      let text = served.is in
      let cut = subst (λ j. Cuts limits j bytes text.requests text.end) (looked_one served.marks) text.cut in
      let has = of_cut bytes text.requests text.end served.marks served.texts new cut text.marked text.printed text.leaves in
      (has.0, subst (λ b. IsLastReply rules limits old bytes b has.0 new) (sym is) has.1, served.written ∙ ap concat has.2 ∙ text_of has.0)

  -- the first bytes of what answers these
  abbrev Begun : List ℕ → Lives → List ℕ → Type 0
  Begun sent new bytes = (met_fault : Bool) × (reply : ReplyParts) × IsLastReply rules limits old bytes met_fault (Some reply) new × (count : ℕ) × (count ≤ length (reply_text reply)) × (sent ≡ take count (reply_text reply))

  -- a write failed
  of_broken : (sent : List ℕ) (new : Lives) (bytes : List ℕ) → BrokenOff (machine rules) limits 1 old bytes [] sent new → Begun sent new bytes
  of_broken sent new bytes off = by off.is.most off.is.fewer off.is.cut
    where
      one : (reply : Option ReplyParts) → IsLastReply rules limits old bytes (is_fault off.is.end) reply new → off.texts ++ off.text ∷ [] ≡ texts_of reply → Begun sent new bytes
      one None is same = absurd (omega (arith, length-append off.texts (off.text ∷ []), ap length same))
      one (Some reply) is same =
          let only = one_text off.texts off.text (reply_text reply) same in
          (is_fault off.is.end, reply, is, off.count, subst (λ l. off.count ≤ length l) only.1 off.inside, off.written ∙ ap (λ l. concat l ++ take off.count off.text) only.0 ∙ ap (take off.count) only.1)

      by : (most : ℕ) → most ≤ 1 → Cuts limits (looked_for most off.is.marks) bytes off.is.requests off.is.end → Begun sent new bytes
      by zero few cut =
          let none = off.is.printed ∙ ap (λ qs. map reply_text (replies_of (machine rules) 1 old qs off.is.end off.is.marks).0) cut.0 ∙ ap (λ end. map reply_text (replies_of (machine rules) 1 old [] end off.is.marks).0) cut.1 in
          absurd (omega (arith, length-append off.texts (off.text ∷ []), ap length none))
      by (suc zero) few cut =
          let first = subst (λ j. Cuts limits j bytes off.is.requests off.is.end) (looked_one off.is.marks) cut in
          let has = of_cut bytes off.is.requests off.is.end off.is.marks (off.texts ++ off.text ∷ []) new first off.is.marked off.is.printed off.is.leaves in
          one has.0 has.1 has.2
      by (suc (suc most)) few cut = absurd (omega (arith, few))

  -- a read failed
  of_unread : (got sent : List ℕ) (new : Lives) → ReadBroken (machine rules) limits 1 old got [] sent new → NothingWaits limits got × (sent ≡ []) × (new ≡ old)
  of_unread got sent new off =
      let none = no_requests off.requests off.fewer in
      let held : off.held ≡ got = subst (λ qs. Past limits qs got off.held) none off.past in (
        subst (NothingWaits limits) held off.waits,
        off.written ∙ ap (λ qs. concat (map reply_text (replies_unmarked (machine rules) 1 old qs).0)) none,
        off.leaves ∙ ap (λ qs. (replies_unmarked (machine rules) 1 old qs).1) none,
      )

  of_ends : (result : Result (Unit {0}) ServeFault) (said : Conversation) (new : Lives) → EndsAs result (machine rules) limits 1 old said.calls said.met_fault [] said.sent new → EndsLast result rules limits old said new
  of_ends (Ok x) said new e = pointwise _ _ said.calls (of_served said.met_fault said.sent new) e
  of_ends (Err Read) said new e = of_unread (all_bytes said.calls) said.sent new e
  of_ends (Err Write) said new e = pointwise _ _ said.calls (of_broken said.sent new) e

  of_lost : (result : Result (Unit {0}) ServeFault) (said : Conversation) (shown new : Lives) → LostAnswer result (machine rules) limits 1 old (all_bytes said.calls) [] said.sent shown new → (shown ≡ old) × WasLost result rules limits old said new
  of_lost result said shown new lost =
      let got = all_bytes said.calls in
      let none = no_requests lost.requests lost.fewer in
      let held : lost.held ≡ got = subst (λ qs. Past limits qs got lost.held) none lost.past in
      let first : shown ≡ old = lost.answered ∙ ap (λ qs. (replies_unmarked (machine rules) 1 old qs).1) none in (
        first,
        record {
          q = lost.q;
          n = lost.n;
          front = subst (λ l. IsFront limits l (whole lost.q lost.n)) held lost.front;
          takes_memory = lost.takes_memory;
          count = lost.count;
          whole = lost.whole;
          sent = lost.written ∙ ap (λ qs. concat (map reply_text (replies_unmarked (machine rules) 1 old qs).0) ++ take lost.count (reply_text refused)) none;
          leaves = lost.leaves ∙ ap (λ s. ((machine rules).step s lost.q).1) first;
        },
      )

  pub last_of : (said : Conversation) (new : Lives) → IsConversation rules limits 1 old said new → IsLast rules limits old said new
  last_of said new it = record {
    ended = it.ended;
    reads = it.reads;
    needed = it.needed;
    wrote = it.wrote;
    shown = it.outcome.shown;
    ends = of_ends it.ended said it.outcome.shown it.outcome.ends;
    is = elim it.outcome.is [
      | inl same ↦ inl same
      | inr lost ↦ inr (of_lost it.ended said it.outcome.shown new lost)
    ];
  }

  -- ---- to a conversation

  -- the text of these bytes
  abbrev Text : List ℕ → Bool → Option ReplyParts → Lives → Type 0
  Text bytes met_fault reply new = (marks : List Bool) × (end : End) × TextTo (machine rules) limits 1 old bytes marks (texts_of reply) end new × (met_fault ≡ is_fault end)

  handled_text : (bytes : List ℕ) (reply : ReplyParts) (new : Lives) (q : Message) (n : ℕ) (mark : Bool) → IsFront limits bytes (whole q n) → Answered (machine rules) q true mark old reply new → Text bytes false (Some reply) new
  handled_text bytes reply new q n true front (takes, is, stays) =
      let to = met (machine rules) limits 0 old bytes q n front takes in (
        true ∷ [],
        closed,
        subst (λ s. TextTo (machine rules) limits 1 old bytes (true ∷ []) (reply_text reply ∷ []) closed s) (sym stays)
            (subst (λ (r : ReplyParts). TextTo (machine rules) limits 1 old bytes (true ∷ []) (reply_text r ∷ []) closed old) (sym is) to),
        refl,
      )
  handled_text bytes reply new q n false front (is, leaves) =
      let to = alone (machine rules) limits 0 old bytes q n front (or_true (closes q)) in (
        false ∷ [],
        closed,
        subst (λ s. TextTo (machine rules) limits 1 old bytes (false ∷ []) (reply_text reply ∷ []) closed s) (sym leaves)
            (subst (λ (r : ReplyParts). TextTo (machine rules) limits 1 old bytes (false ∷ []) (reply_text r ∷ []) closed ((machine rules).step old q).1) (sym is) to),
        refl,
      )

  to_text : (bytes : List ℕ) (met_fault : Bool) (reply : Option ReplyParts) (new : Lives) → IsLastReply rules limits old bytes met_fault reply new → Text bytes met_fault reply new
  to_text bytes met_fault None new (front, none, stays) = (
    [],
    ended,
    subst (λ s. TextTo (machine rules) limits 1 old bytes [] [] ended s) (sym stays) (at_nothing (machine rules) limits 0 old bytes front),
    none,
  )
  to_text bytes true (Some reply) new (f, front, is, stays) = (
    [],
    stopped f,
    subst (λ s. TextTo (machine rules) limits 1 old bytes [] (reply_text reply ∷ []) (stopped f) s) (sym stays)
        (subst (λ (r : ReplyParts). TextTo (machine rules) limits 1 old bytes [] (reply_text r ∷ []) (stopped f) old) (sym is) (at_stop (machine rules) limits 0 old bytes f front)),
    refl,
  )
  to_text bytes false (Some reply) new (q, n, front, (mark, answered)) = handled_text bytes reply new q n mark front answered

  to_served : (met_fault : Bool) (sent : List ℕ) (new : Lives) (bytes : List ℕ) → ((reply : Option ReplyParts) × IsLastReply rules limits old bytes met_fault reply new × (sent ≡ option_map_or reply_text reply [])) → ServedTo (machine rules) limits 1 old bytes met_fault [] sent new
  to_served met_fault sent new bytes (reply, is, written) =
      let it = to_text bytes met_fault reply new is in
      (record { marks = it.0; texts = texts_of reply; is = it.2.0; written = written ∙ sym (text_of reply) }, it.3 ∙ ap is_fault (sym it.2.1))

  to_broken : (sent : List ℕ) (new : Lives) (bytes : List ℕ) → Begun sent new bytes → BrokenOff (machine rules) limits 1 old bytes [] sent new
  to_broken sent new bytes (met_fault, reply, is, count, inside, written) =
      let it = to_text bytes met_fault (Some reply) new is in
      let text : ConnectionText (machine rules) limits 1 old bytes it.0 (reply_text reply ∷ []) new = it.2.0 in
      record {
        texts = [];
        text = reply_text reply;
        is = record {
          most = 1;
          fewer = omega (arith);
          marks = it.0;
          requests = text.requests;
          end = text.end;
          cut = text.cut;
          marked = text.marked;
          printed = text.printed;
          leaves = text.leaves;
        };
        count = count;
        inside = inside;
        written = written;
      }

  to_ends : (result : Result (Unit {0}) ServeFault) (said : Conversation) (new : Lives) → EndsLast result rules limits old said new → EndsAs result (machine rules) limits 1 old said.calls said.met_fault [] said.sent new
  to_ends (Ok x) said new e = pointwise _ _ said.calls (to_served said.met_fault said.sent new) e
  to_ends (Err Read) said new (waits, unsent, stays) =
      record { requests = []; held = all_bytes said.calls; past = refl; fewer = omega (arith); waits = waits; written = unsent; leaves = stays }
  to_ends (Err Write) said new e = pointwise _ _ said.calls (to_broken said.sent new) e

  to_lost : (result : Result (Unit {0}) ServeFault) (said : Conversation) (shown new : Lives) → shown ≡ old → WasLost result rules limits old said new → LostAnswer result (machine rules) limits 1 old (all_bytes said.calls) [] said.sent shown new
  to_lost result said shown new same lost = record {
    requests = [];
    held = all_bytes said.calls;
    past = refl;
    fewer = omega (arith);
    q = lost.q;
    n = lost.n;
    front = lost.front;
    takes_memory = lost.takes_memory;
    count = lost.count;
    whole = lost.whole;
    written = lost.sent;
    answered = same;
    leaves = lost.leaves ∙ ap (λ s. ((machine rules).step s lost.q).1) (sym same);
  }

  pub conversation_of : (said : Conversation) (new : Lives) → IsLast rules limits old said new → IsConversation rules limits 1 old said new
  conversation_of said new it = record {
    ended = it.ended;
    reads = it.reads;
    needed = it.needed;
    wrote = it.wrote;
    outcome = record {
      shown = it.shown;
      ends = to_ends it.ended said it.shown it.ends;
      is = elim it.is [
        | inl same ↦ inl same
        | inr (same, lost) ↦ inr (to_lost it.ended said it.shown new same lost)
      ];
    };
  }
