-- A request that waited, and was answered with others.
use Rattle.std.proofs.Common.{◌≡◌, ◌∙◌, ℕ, ◌≤◌, ◌+◌, ◌==◌, zero, suc, Some, inl, inr, Bool, true, false, not, ◌||◌, List, [], ◌∷◌, ◌++◌, length, map, take, Result, Ok, Err, sym, refl, ap, subst, arith}
use Rattle.std.specs.List.{concat}
use Rattle.std.proofs.lemmas.Bool.{ne_eqb}
use Rattle.std.proofs.lemmas.List.{append-nil, nil_from_length, take_all}
use Rattle.osb_frames.specs.declared.limits.Limits.{Limits}
use Rattle.osb_frames.specs.Calls.{Call, all_bytes}
use Rattle.osb_frames.specs.Cuts.{closes, Message, whole, IsFront}
use Rattle.osb_frames.proofs.FrontLemmas.{front_unique}
use Rattle.osb_replies.specs.declared.write.WriteFault.{WriteFault}
use Rattle.osb_replies.specs.Parts.{refused}
use Rattle.osb_replies.specs.Text.{ReplyParts, reply_text}
use Rattle.osb_catalog.specs.Rules.{Rules}
use Rattle.osb_orders.specs.Lives.{Lives}
use Rattle.osb_broker.specs.declared.fault.ServeFault.TheVariants.{Write}
use Rattle.osb_broker.specs.Answering.{Answers, AnswersOrLost, WritesReply}
use Rattle.osb_broker.specs.Begun.{GroupsAreConversations, IsWaiting, SentText}
use Rattle.osb_broker.specs.Conversations.{Conversation, IsConversation}
use Rattle.osb_broker.specs.Crashes.{LostAnswer, ServedOrLost}
use Rattle.osb_broker.specs.Machine.{Answered, Machine, reply_of}
use Rattle.osb_broker.specs.Served.{Served}
use Rattle.osb_broker.specs.Serving.{EachGaveBytes, EachWasNeeded, Past, replies_unmarked, RequestsPassed, WritesText}
use Rattle.osb_broker.specs.Steps.{capped, machine}
use Rattle.osb_broker.proofs.HoldLemmas.{HoldsRequest, ReadSoFar}
use Rattle.osb_broker.proofs.LostLemmas.{breaking_or_lost, closing_or_lost, HandledOrLost, replied_or_lost}
use Rattle.osb_broker.proofs.ReadLemmas.{ended_here, fruitful_more, SoFar}
use Rattle.osb_broker.proofs.RequestLemmas.{asks, broken, Kind, Seen, silent, view}

-- the reply that a text is, and what it was given for
record Replied (rules : Rules) (q : Message) (s t : Lives) (text : List ℕ) : Type 0 where
  pub reply : ReplyParts
  pub says : text ≡ reply_text reply
  pub handled : HandledOrLost (machine rules) q true s reply t
  pub closes : reply.close ≡ true

or_true : (c : Bool) → (c || true) ≡ true
or_true true = refl
or_true false = refl

module _ (rules : Rules) (limits : Limits) (s t : Lives) (bytes text : List ℕ) (q : Message) (n : ℕ) (front : IsFront limits bytes (whole q n)) (takes : (machine rules).takes_memory q ≡ true) where
  answered_closes : (mark : Bool) (reply : ReplyParts) (u : Lives) → Answered (machine rules) q true mark s reply u → reply.close ≡ true
  answered_closes true reply u (may, is, stays) = ap (λ (r : ReplyParts). r.close) is
  answered_closes false reply u (is, leads) = ap (λ (r : ReplyParts). r.close) is ∙ or_true (closes q)

  of_machine : (mark : Bool) (r : Message) (reply : ReplyParts) (u : Lives) → r ≡ q → Answered (capped rules) r true mark s reply u → Answered (machine rules) q true mark s reply u
  of_machine true r reply u same (may, is, stays) = (takes, is, stays)
  of_machine false r reply u same (is, leads) = (
    is ∙ ap (λ p. reply_of p true ((machine rules).step s p).0) same,
    leads ∙ ap (λ p. ((machine rules).step s p).1) same,
  )

  -- as the texts of the connection have it
  of_served : (u : Lives) (served : Served (capped rules) limits 1 s bytes [] text u) → (mark : Bool) × (reply : ReplyParts) × (text ≡ reply_text reply) × Answered (machine rules) q true mark s reply u
  of_served u served = by (view rules (λ r. true) limits s bytes served.marks served.texts u served.is)
    where
      by : ((kind : Kind limits bytes) × Seen rules (λ r. true) limits bytes kind s served.marks served.texts u) → (mark : Bool) × (reply : ReplyParts) × (text ≡ reply_text reply) × Answered (machine rules) q true mark s reply u
      by (silent none, seen) = let same = front_unique limits bytes _ (whole q n) none front in cc
      by (broken f at, seen) = let same = front_unique limits bytes _ (whole q n) at front in cc
      by (asks r m at, (mark, reply, marks, texts, answered)) =
          let same = front_unique limits bytes (whole r m) (whole q n) at front in
          let one : r ≡ q = cc in
          (mark, reply, served.written ∙ ap concat texts ∙ append-nil (reply_text reply), of_machine mark r reply u one answered)

  -- as an answer that was lost
  of_lost : (u : Lives) → LostAnswer (Ok tt) (capped rules) limits 1 s bytes [] text u t → Replied rules q s t text
  of_lost u lost = by lost.requests refl
    where
      by : (requests : List Message) → lost.requests ≡ requests → Replied rules q s t text
      by (first ∷ later) e = absurd (omega (arith, lost.fewer, ap length e))
      by [] e =
          let held : lost.held ≡ bytes = subst (λ l. Past limits l bytes lost.held) e lost.past in
          let at : IsFront limits bytes (whole lost.q lost.n) = subst (λ l. IsFront limits l (whole lost.q lost.n)) held lost.front in
          let same = front_unique limits bytes (whole lost.q lost.n) (whole q n) at front in
          let one : lost.q ≡ q = cc in
          let before : u ≡ s = lost.answered ∙ ap (λ l. (replies_unmarked (capped rules) 1 s l).1) e in
          record {
            reply = refused;
            says = lost.written ∙ ap (λ l. concat (map reply_text (replies_unmarked (capped rules) 1 s l).0) ++ take lost.count (reply_text refused)) e ∙ take_all lost.count (reply_text refused) (omega (arith, lost.whole));
            handled = inr (refl, takes, lost.leaves ∙ ap (λ v. ((machine rules).step v lost.q).1) before ∙ ap (λ p. ((machine rules).step s p).1) one);
            closes = refl;
          }

  replied : ServedOrLost (capped rules) limits 1 s bytes [] text t → Replied rules q s t text
  replied served = elim served.is [
    | inl same ↦
        let it = of_served served.shown served.served in
        record {
          reply = it.1;
          says = it.2;
          handled = inl (it.0, subst (Answered (machine rules) q true it.0 s it.1) (sym same) it.3);
          closes = answered_closes it.0 it.1 served.shown it.3;
        }
    | inr lost ↦ of_lost served.shown lost
  ]

-- one client
one_conversation : (rules : Rules) (limits : Limits) (s t : Lives) (bytes text : List ℕ) (c : Conversation) → EachWasNeeded limits 1 (limits.head + limits.body) c.calls → IsWaiting rules limits c.calls bytes → SentText text c → ServedOrLost (capped rules) limits 1 s bytes [] text t → IsConversation rules limits 1 s c t
one_conversation rules limits s t bytes text c needed waits sent served = by sent.result sent.writes
  where
    takes : (machine rules).takes_memory waits.q ≡ true
    takes = ap not waits.late

    it : Replied rules waits.q s t text
    it = replied rules limits s t bytes text waits.q waits.n (subst (λ l. IsFront limits l (whole waits.q waits.n)) (append-nil bytes) (waits.front [])) takes served

    at : HoldsRequest (machine rules) limits 1 s (all_bytes c.calls) [] 1 [] s (all_bytes c.calls) waits.q waits.n 0
    at = record {
      holding = record { texts = []; is = λ more. (refl, refl, refl); written = refl };
      front = subst (λ l. (more : List ℕ) → IsFront limits (l ++ more) (whole waits.q waits.n)) waits.are waits.front;
      inside = omega (arith, waits.inside, ap length waits.are);
      fewer = refl;
    }

    by : (result : Result (Unit {0}) WriteFault) → WritesText [] 0 c.sent c.failed result text → IsConversation rules limits 1 s c t
    by (Ok x) wrote =
        let reply = it.reply in
        let writes : WritesReply [] 0 c.sent c.failed (Ok reply.close) reply = (wrote.0 ∙ it.says, wrote.1, refl) in
        record {
          ended = Ok tt;
          reads = waits.reads;
          needed = needed;
          wrote = wrote.1;
          outcome = closing_or_lost (machine rules) limits 1 s c.calls [] 1 [] s (all_bytes c.calls) waits.q waits.n 0 at t 0 c.sent c.failed c.met_fault reply.close (replied_or_lost reply writes it.handled) it.closes sent.no_fault;
        }
    by (Err f) wrote =
        let reply = it.reply in
        let writes : WritesReply [] 0 c.sent c.failed (Err f) reply = subst (λ l. WritesText [] 0 c.sent c.failed (Err f) l) it.says wrote in
        record {
          ended = Err Write;
          reads = waits.reads;
          needed = needed;
          wrote = wrote.3;
          outcome = breaking_or_lost (machine rules) limits 1 s c.calls [] 1 [] s (all_bytes c.calls) waits.q waits.n 0 at t 0 c.sent c.failed c.met_fault f (replied_or_lost reply writes it.handled);
        }

pub groups_are : GroupsAreConversations
groups_are rules limits old new [] [] [] were run = run
groups_are rules limits old new (bytes ∷ connections) (text ∷ texts) (c ∷ conversations) (needed, waits, sent, were) (u, one, run) =
    (u, one_conversation rules limits old u bytes text c needed waits sent one, groups_are rules limits u new connections texts conversations were run)
groups_are rules limits old new [] [] (c ∷ conversations) were run = absurd were
groups_are rules limits old new [] (text ∷ texts) conversations were run = absurd were
groups_are rules limits old new (bytes ∷ connections) [] conversations were run = absurd were
groups_are rules limits old new (bytes ∷ connections) (text ∷ texts) [] were run = absurd were

-- ---- reading

-- nothing was answered of what was read
pub reads_all : {S : Type 0} (machine : Machine S) (limits : Limits) (s : S) (got held old : List ℕ) → held ≡ got → ReadSoFar machine limits 1 s got old 1 old s held
reads_all machine limits s got held old is = record { texts = []; is = λ more. (refl, refl, ap (λ l. l ++ more) is); written = sym (append-nil old) }

-- one read more
pub so_far_more : (calls : List Call) (piece : List ℕ) (n : ℕ) → length piece ≡ n → EachGaveBytes calls → SoFar (n == 0) (calls ++ Some piece ∷ [])
so_far_more calls piece zero size gave = ended_here calls piece gave (nil_from_length piece size)
so_far_more calls piece (suc n) size gave = subst (λ over. SoFar over (calls ++ Some piece ∷ [])) (sym (ne_eqb (suc n) 0 (omega arith))) (fruitful_more calls piece gave (omega (arith, size)))

-- no request was passed
pub none_passed : (limits : Limits) (got held : List ℕ) → held ≡ got → RequestsPassed limits 1 got 1 held
none_passed limits got held is = record { requests = []; is = λ more. ap (λ l. l ++ more) is; fewer = omega arith }

-- a whole request is at the front of what was read
pub holds_all : {S : Type 0} (machine : Machine S) (limits : Limits) (s : S) (got held old : List ℕ) (q : Message) (n : ℕ) → held ≡ got → ((more : List ℕ) → IsFront limits (held ++ more) (whole q n)) → n ≤ length held → HoldsRequest machine limits 1 s got old 1 old s held q n 0
holds_all machine limits s got held old q n is front inside = record { holding = reads_all machine limits s got held old is; front = front; inside = inside; fewer = refl }

-- ---- the last request that may come

-- its reply closes
pub last_closes : (rules : Rules) (q : Message) (s t : Lives) (base : List ℕ) (before : ℕ) (now : List ℕ) (after : ℕ) (close : Bool) → Answers (machine rules) q true s t base before now after (Ok close) → close ≡ true
last_closes rules q s t base before now after close (true, reply, (may, is, stays), wrote) = wrote.2 ∙ ap (λ (r : ReplyParts). r.close) is
last_closes rules q s t base before now after close (false, reply, (is, leads), wrote) = wrote.2 ∙ ap (λ (r : ReplyParts). r.close) is ∙ or_true (closes q)

pub last_closes_or_lost : (rules : Rules) (q : Message) (s t : Lives) (base : List ℕ) (before : ℕ) (now : List ℕ) (after : ℕ) (close : Bool) → AnswersOrLost (machine rules) q true s t base before now after (Ok close) → close ≡ true
last_closes_or_lost rules q s t base before now after close answers = elim answers.is [
  | inl whole_answer ↦ last_closes rules q s t base before now after close whole_answer
  | inr both ↦ both.1.closes
]
