-- Clients that were answered together, and behind whose requests others may come.
use Rattle.std.proofs.Common.{◌≡◌, ◌≢◌, ◌∙◌, ◌⊎◌, ℕ, zero, suc, ◌+◌, ◌<◌, ◌≤◌, ◌||◌, inl, inr, not, bytes_eq, Bool, true, false, List, [], ◌∷◌, ◌++◌, length, map, take, drop, Ok, sym, refl, ap, subst, arith}
use Rattle.std.specs.List.{concat}
use Rattle.std.proofs.lemmas.Slice.Eq.{bytes_eq-Decides}
use Rattle.std.proofs.lemmas.List.{append-nil, take_all}
use Rattle.osb_frames.specs.declared.limits.Limits.{Limits}
use Rattle.osb_frames.specs.Cuts as cut
use Rattle.osb_frames.specs.Cuts.{Message, closes, whole, IsFront, empty}
use Rattle.osb_frames.proofs.FrontLemmas.{front_unique}
use Rattle.osb_replies.specs.Parts.{refused}
use Rattle.osb_replies.specs.Text.{ReplyParts, reply_text}
use Rattle.osb_catalog.specs.Rules.{Rules}
use Rattle.osb_orders.specs.Lives.{Lives}
use Rattle.osb_broker.specs.Machine.{Answered, reply_of}
use Rattle.osb_broker.specs.Steps.{capped, machine}
use Rattle.osb_broker.specs.Serving.{Past, replies_unmarked}
use Rattle.osb_broker.specs.Crashes.{LostAnswer, ServedOrLost}
use Rattle.osb_broker.specs.Begun.{MayStay}
use Rattle.osb_broker.specs.Exchanges.{Exchange, HandledOrLost, IsExchange, WasAnswered, WasSentOpen, OpenGroupsAreExchanges}
use Rattle.osb_broker.proofs.OneByOneLemmas.{one_by_one}
use Rattle.osb_broker.proofs.GroupLemmas.{none_behind, one_answer, OneAnswer}
use Rattle.osb_broker.proofs.ExchangeGroupLemmas.{exchange_of}

module _ (rules : Rules) (limits : Limits) (s t : Lives) (bytes text : List ℕ) (q : Message) (n : ℕ) (front : IsFront limits bytes (whole q n)) (all : length bytes ≤ n) (goes_on : closes q ≡ false) (takes : (machine rules).takes_memory q ≡ true) where
  -- the reply that a text is: the fixed 500 closes, and no other
  pub record Told : Type 0 where
    pub reply : ReplyParts
    pub says : text ≡ reply_text reply
    pub handled : HandledOrLost (machine rules) q false s reply t
    pub shut : text ≡ reply_text refused → reply.close ≡ true
    pub still : text ≢ reply_text refused → reply.close ≡ false

  refused_told : text ≡ reply_text refused → HandledOrLost (machine rules) q false s refused t → Told
  refused_told says handled = record { reply = refused; says = says; handled = handled; shut = λ e. refl; still = λ other. absurd (other says) }

  step_told : text ≡ reply_text (reply_of q false ((machine rules).step s q).0) → t ≡ ((machine rules).step s q).1 → Told
  step_told says leads = by (bytes_eq text (reply_text refused)) refl
    where
      by : (b : Bool) → bytes_eq text (reply_text refused) ≡ b → Told
      by true e = refused_told ((bytes_eq-Decides text (reply_text refused)).0 e) (inr (refl, takes, leads))
      by false e = record {
        reply = reply_of q false ((machine rules).step s q).0;
        says = says;
        handled = inl (false, (refl, leads));
        shut = λ same. let bad : true ≡ false = sym ((bytes_eq-Decides text (reply_text refused)).1 same) ∙ e in cc;
        still = λ other. ap (λ c. c || false) goes_on;
      }

  of_answer : (u : Lives) (texts : List (List ℕ)) → text ≡ concat texts → t ≡ u → OneAnswer rules limits 1 s texts q u → Told
  of_answer u texts says same it = by it.mark it.answered
    where
      told : text ≡ reply_text it.reply
      told = says ∙ ap concat it.says ∙ append-nil (reply_text it.reply)

      by : (mark : Bool) → Answered (capped rules) q false mark s it.reply u → Told
      by true (may, is, stays) = refused_told (told ∙ ap reply_text is) (inl (true, (takes, refl, same ∙ stays)))
      by false (is, leads) = step_told (told ∙ ap reply_text is) (same ∙ leads)

  -- nothing is at the front of what is behind a request that is all
  of_lost : (u : Lives) → LostAnswer (Ok tt) (capped rules) limits 2 s bytes [] text u t → Told
  of_lost u lost = by lost.requests refl
    where
      by : (requests : List Message) → lost.requests ≡ requests → Told
      by [] e =
          let held : lost.held ≡ bytes = subst (λ l. Past limits l bytes lost.held) e lost.past in
          let at : IsFront limits bytes (whole lost.q lost.n) = subst (λ l. IsFront limits l (whole lost.q lost.n)) held lost.front in
          let same = front_unique limits bytes (whole lost.q lost.n) (whole q n) at front in
          let one : lost.q ≡ q = cc in
          let before : u ≡ s = lost.answered ∙ ap (λ l. (replies_unmarked (capped rules) 2 s l).1) e in
          refused_told
          (lost.written ∙ ap (λ l. concat (map reply_text (replies_unmarked (capped rules) 2 s l).0) ++ take lost.count (reply_text refused)) e ∙ take_all lost.count (reply_text refused) (omega (arith, lost.whole)))
          (inr (refl, takes, lost.leaves ∙ ap (λ v. ((machine rules).step v lost.q).1) before ∙ ap (λ p. ((machine rules).step s p).1) one))
      by (r ∷ []) e =
          let past : Past limits (r ∷ []) bytes lost.held = subst (λ l. Past limits l bytes lost.held) e lost.past in
          let same = front_unique limits bytes (whole r past.0) (whole q n) past.1 front in
          let so_many : past.0 ≡ n = cc in
          let none : lost.held ≡ [] = past.3 ∙ ap (λ m. drop m bytes) so_many ∙ none_behind n bytes all in
          let nothing_there = front_unique limits lost.held (whole lost.q lost.n) cut.nothing lost.front (empty none refl) in cc
      by (r ∷ next ∷ later) e = absurd (too_many lost.fewer e)
        where
          too_many : length lost.requests < 2 → lost.requests ≡ r ∷ next ∷ later → ⊥
          too_many few same = omega (arith, few, ap length same)

  pub told_of : ServedOrLost (capped rules) limits 2 s bytes [] text t → Told
  told_of served = elim served.is [
    | inl same ↦ of_answer served.shown served.served.texts served.served.written same
        (one_answer rules limits 1 s bytes served.served.marks served.served.texts served.shown q n front (inr (omega arith, all)) (one_by_one (capped rules) limits 2 s bytes served.served.marks served.served.texts served.shown served.served.is))
    | inr lost ↦ of_lost served.shown lost
  ]

-- one client
was_answered : (rules : Rules) (limits : Limits) (k : ℕ) (s t : Lives) (bytes text : List ℕ) (x : Exchange) → WasSentOpen rules limits k bytes text x → ServedOrLost (capped rules) limits 2 s bytes [] text t → WasAnswered rules limits k s x t
was_answered rules limits k s t bytes text x it served = by it.left refl
  where
    waits : MayStay rules limits it.left x.said.calls bytes
    waits = it.waits

    told : Told rules limits s t bytes text waits.waits.q waits.waits.n (subst (λ l. IsFront limits l (whole waits.waits.q waits.waits.n)) (append-nil bytes) (waits.waits.front [])) (omega (arith, waits.exact)) waits.goes_on (ap not waits.waits.late)
    told = told_of rules limits s t bytes text waits.waits.q waits.waits.n (subst (λ l. IsFront limits l (whole waits.waits.q waits.waits.n)) (append-nil bytes) (waits.waits.front [])) (omega (arith, waits.exact)) waits.goes_on (ap not waits.waits.late) served

    by : (left : ℕ) → it.left ≡ left → WasAnswered rules limits k s x t
    by zero none = absurd (omega (arith, waits.some, none))
    by (suc more) many = record {
      more = more;
      count = omega (arith, it.count, many);
      bytes = bytes;
      needed = it.needed;
      waits = waits.waits;
      last = false;
      exact = λ e. (omega (arith, waits.some, many), waits.exact, waits.gave_bytes);
      reply = told.reply;
      handled = told.handled;
      sent = record { result = it.sent.result; writes = rw told.says at it.sent.writes; no_fault = it.sent.no_fault };
      stays = λ e. (told.still (it.stays e).0, (it.stays e).1);
      ends = λ e. elim (it.ends e) [
        | inl same ↦ inl (told.shut same)
        | inr failed ↦ inr failed
      ];
    }

pub open_groups_are : OpenGroupsAreExchanges
open_groups_are rules limits k old new [] [] [] were run = run
open_groups_are rules limits k old new (bytes ∷ connections) (text ∷ texts) (x ∷ exchanges) (it, were) (u, one, run) =
    (u, exchange_of rules limits k old u x (was_answered rules limits k old u bytes text x it one), open_groups_are rules limits k u new connections texts exchanges were run)
open_groups_are rules limits k old new [] [] (x ∷ exchanges) were run = absurd were
open_groups_are rules limits k old new [] (text ∷ texts) exchanges were run = absurd were
open_groups_are rules limits k old new (bytes ∷ connections) [] exchanges were run = absurd were
open_groups_are rules limits k old new (bytes ∷ connections) (text ∷ texts) [] were run = absurd were
