-- Clients that were answered together had exchanges, one after the other.
use Rattle.std.proofs.Common.{◌≡◌, ◌∙◌, ◌⊎◌, ℕ, ◌<◌, inl, inr, Bool, true, false, ◌||◌, List, [], ◌∷◌, ◌++◌, length, Result, Ok, Err, sym, refl, ap, subst, arith}
use Rattle.osb_frames.specs.declared.limits.Limits.{Limits}
use Rattle.osb_frames.specs.Calls.{Call, all_bytes}
use Rattle.osb_frames.specs.Cuts.{Message, closes, whole, IsFront}
use Rattle.osb_replies.specs.declared.write.WriteFault.{WriteFault}
use Rattle.osb_replies.specs.Parts.{refused}
use Rattle.osb_replies.specs.Text.{ReplyParts, reply_text}
use Rattle.osb_catalog.specs.Rules.{Rules}
use Rattle.osb_orders.specs.Lives.{Lives}
use Rattle.osb_broker.specs.Machine.{Answer, identity_of, reply_of}
use Rattle.osb_broker.specs.Answering.{WritesReply}
use Rattle.osb_broker.specs.Serving.{WritesText}
use Rattle.osb_broker.specs.Steps.{machine}
use Rattle.osb_broker.specs.Conversations.{IsConversation}
use Rattle.osb_broker.specs.Exchanges.{Exchange, IsAnswered, IsSaid, IsExchange, HandledOrLost, WasAnswered, GroupsAreExchanges}
use Rattle.osb_broker.specs.declared.fault.ServeFault.TheVariants.{Write}
use Rattle.osb_broker.proofs.HoldLemmas.{HoldsRequest}
use Rattle.osb_broker.proofs.LastLemmas.{last_of}
use Rattle.osb_broker.proofs.LostLemmas.{breaking_or_lost, closing_or_lost, replied_or_lost}

or_true : (b : Bool) → (b || true) ≡ true
or_true true = refl
or_true false = refl

-- the reply to a request, by whether it closes
abbrev closing : Message → Answer → Bool → ReplyParts
closing q answer close = record { status = answer.status; body = answer.body; echo = identity_of q; close = close }

module _ (rules : Rules) (limits : Limits) (k : ℕ) (old new : Lives) (x : Exchange) (it : WasAnswered rules limits k old x new) where
  abbrev q : Message
  q = it.waits.q

  abbrev calls : List Call
  calls = x.said.calls

  abbrev read : List ℕ
  read = all_bytes calls

  abbrev answer : Answer
  answer = ((machine rules).step old q).0

  front : (more : List ℕ) → IsFront limits (read ++ more) (whole q it.waits.n)
  front = subst (λ l. (more : List ℕ) → IsFront limits (l ++ more) (whole q it.waits.n)) it.waits.are it.waits.front

  held : HoldsRequest (machine rules) limits 1 old read [] 1 [] old read q it.waits.n 0
  held = record {
    holding = record { texts = []; is = λ more. (refl, refl, refl); written = refl };
    front = front;
    inside = omega (arith, it.waits.inside, ap length it.waits.are);
    fewer = refl;
  }

  -- ---- the last of its client

  is_last : HandledOrLost (machine rules) q true old it.reply new → it.reply.close ≡ true → IsConversation rules limits 1 old x.said new
  is_last handled shut = by it.sent.result it.sent.writes
    where
      by : (result : Result (Unit {0}) WriteFault) → WritesText [] 0 x.said.sent x.said.failed result (reply_text it.reply) → IsConversation rules limits 1 old x.said new
      by (Ok u) wrote =
          let writes : WritesReply [] 0 x.said.sent x.said.failed (Ok it.reply.close) it.reply = (wrote.0, wrote.1, refl) in
          record {
            ended = Ok tt;
            reads = it.waits.reads;
            needed = it.needed;
            wrote = wrote.1;
            outcome = closing_or_lost (machine rules) limits 1 old calls [] 1 [] old read q it.waits.n 0 held new 0 x.said.sent x.said.failed x.said.met_fault it.reply.close (replied_or_lost it.reply writes handled) shut it.sent.no_fault;
          }
      by (Err fault) wrote =
          let writes : WritesReply [] 0 x.said.sent x.said.failed (Err fault) it.reply = wrote in
          record {
            ended = Err Write;
            reads = it.waits.reads;
            needed = it.needed;
            wrote = wrote.3;
            outcome = breaking_or_lost (machine rules) limits 1 old calls [] 1 [] old read q it.waits.n 0 held new 0 x.said.sent x.said.failed x.said.met_fault fault (replied_or_lost it.reply writes handled);
          }

  ends : HandledOrLost (machine rules) q true old it.reply new → it.reply.close ≡ true → IsSaid rules limits it.more x.stays old x.said new
  ends handled shut = by x.stays refl
    where
      by : (stays : Bool) → x.stays ≡ stays → IsSaid rules limits it.more stays old x.said new
      by true e = let open_still = (it.stays e).0 in let bad : true ≡ false = sym shut ∙ open_still in cc
      by false e = inl (last_of rules limits old x.said new (is_last handled shut))

  -- ---- one behind which another may come

  answered : (result : Result (Unit {0}) WriteFault) → WritesText [] 0 x.said.sent x.said.failed result (reply_text it.reply) → it.last ≡ false → closes q ≡ false → it.reply ≡ reply_of q false answer → new ≡ ((machine rules).step old q).1 → IsAnswered rules limits old x.said result new
  answered result wrote more goes_on is leaves = record {
    q = q;
    exact = subst (λ n. (rest : List ℕ) → IsFront limits (read ++ rest) (whole q n)) ((it.exact more).1 ∙ ap length it.waits.are) front;
    goes_on = goes_on;
    gave_bytes = (it.exact more).2;
    needed = it.needed;
    no_fault = it.sent.no_fault;
    wrote = subst (λ reply. WritesText [] 0 x.said.sent x.said.failed result (reply_text reply)) is wrote;
    leaves = leaves;
  }

  goes_on : it.last ≡ false → closes q ≡ false → it.reply ≡ reply_of q false answer → new ≡ ((machine rules).step old q).1 → IsSaid rules limits it.more x.stays old x.said new
  goes_on more open_still is leaves = by it.sent.result it.sent.writes x.stays refl
    where
      not_shut : it.reply.close ≡ false
      not_shut = ap (λ (reply : ReplyParts). reply.close) is ∙ ap (λ b. b || false) open_still

      none_failed : x.said.failed ≡ 0 → (it.reply.close ≡ true) ⊎ (0 < x.said.failed) → ⊥
      none_failed none (inl shut) = let bad : true ≡ false = sym shut ∙ not_shut in cc
      none_failed none (inr some) = omega (arith, some, none)

      by : (result : Result (Unit {0}) WriteFault) → WritesText [] 0 x.said.sent x.said.failed result (reply_text it.reply) → (stays : Bool) → x.stays ≡ stays → IsSaid rules limits it.more stays old x.said new
      by (Ok tt) wrote true e = ((it.exact more).0, answered (Ok tt) wrote more open_still is leaves)
      by (Err fault) wrote true e = absurd (omega (arith, (it.stays e).1, wrote.3))
      by (Ok tt) wrote false e = absurd (none_failed wrote.1 (it.ends e))
      by (Err fault) wrote false e = inr ((it.exact more).0, fault, answered (Err fault) wrote more open_still is leaves)

  -- ---- either

  shut_if : it.reply ≡ refused → it.reply.close ≡ true
  shut_if is = ap (λ (reply : ReplyParts). reply.close) is

  said : (last : Bool) → it.last ≡ last → HandledOrLost (machine rules) q last old it.reply new → IsSaid rules limits it.more x.stays old x.said new
  said last e (inr (is, takes, leaves)) = ends (inr (is, takes, leaves)) (shut_if is)
  said last e (inl (true, met)) = ends (inl (true, met)) (shut_if met.1)
  said true e (inl (false, took)) = ends (inl (false, took)) (ap (λ (reply : ReplyParts). reply.close) took.0 ∙ or_true (closes q))
  said false e (inl (false, took)) = by (closes q) refl
    where
      by : (shuts : Bool) → closes q ≡ shuts → IsSaid rules limits it.more x.stays old x.said new
      by true shuts =
          let same : reply_of q false answer ≡ reply_of q true answer = ap (closing q answer) (ap (λ b. b || false) shuts ∙ sym (ap (λ b. b || true) shuts)) in
          ends (inl (false, (took.0 ∙ same, took.1))) (ap (λ (reply : ReplyParts). reply.close) took.0 ∙ ap (λ b. b || false) shuts)
      by false open_still = goes_on e open_still took.0 took.1

-- one client
pub exchange_of : (rules : Rules) (limits : Limits) (k : ℕ) (old new : Lives) (x : Exchange) → WasAnswered rules limits k old x new → IsExchange rules limits k old x new
exchange_of rules limits k old new x it = (it.more, it.count, said rules limits k old new x it it.last refl it.handled)

pub groups_are_exchanges : GroupsAreExchanges
groups_are_exchanges rules limits k old [] new none = none
groups_are_exchanges rules limits k old (x ∷ later) new (lives, it, rest) =
    (lives, exchange_of rules limits k old lives x it, groups_are_exchanges rules limits k lives later new rest)
