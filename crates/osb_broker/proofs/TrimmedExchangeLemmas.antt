-- Exchanges with clients, over stops and starts, from lives that match.
use Rattle.std.proofs.Common.{◌≡◌, ℕ, Bool, true, false, List, [], ◌∷◌, Result, Ok, Err, refl, sym, ◌∙◌, ap, subst, inl, inr}
use Rattle.osb_frames.specs.declared.limits.Limits.{Limits}
use Rattle.osb_replies.specs.declared.write.WriteFault.{WriteFault}
use Rattle.osb_replies.specs.Text.{reply_text}
use Rattle.osb_catalog.specs.Rules.{Rules}
use Rattle.osb_asks.specs.Asks.{ask_of}
use Rattle.osb_orders.specs.Lives.{Lives}
use Rattle.osb_broker.specs.Machine.{Answer, reply_of}
use Rattle.osb_broker.specs.Steps.{step_for}
use Rattle.osb_broker.specs.Serving.{WritesText}
use Rattle.osb_broker.specs.Conversations.{Conversation}
use Rattle.osb_broker.specs.Exchanges.{Exchange, IsAnswered, IsSaid, AreExchanges, AreRuns}
use Rattle.osb_trim.specs.Trimmed.{trimmed_lives}
use Rattle.osb_trim.proofs.MatchLemmas.{Fronts, Matches, alike}
use Rattle.osb_broker.proofs.LastLemmas.{conversation_of, last_of}
use Rattle.osb_broker.proofs.TrimmedRunLemmas.{same_answer, left_match}
use Rattle.osb_broker.proofs.TrimmedEpisodeLemmas.{Left, conversation_from}

module _ (fronts : Fronts) (rules : Rules) (limits : Limits) where
  answered_from : (lives others : Lives) (said : Conversation) (result : Result (Unit {0}) WriteFault) (after : Lives) → Matches fronts lives others → IsAnswered rules limits lives said result after → Left fronts rules (IsAnswered rules limits others said result) after
  answered_from lives others said result after h it = (
    (step_for rules others (ask_of rules it.q)).1,
    record {
      q = it.q;
      exact = it.exact;
      goes_on = it.goes_on;
      gave_bytes = it.gave_bytes;
      needed = it.needed;
      no_fault = it.no_fault;
      wrote = subst (λ (answer : Answer). WritesText [] 0 said.sent said.failed result (reply_text (reply_of it.q false answer))) (same_answer fronts rules lives others (ask_of rules it.q) h) it.wrote;
      leaves = refl;
    },
    subst (λ (left : Lives). Matches fronts left (step_for rules others (ask_of rules it.q)).1) (sym it.leaves) (left_match fronts rules lives others (ask_of rules it.q) h),
  )

  said_from : (more : ℕ) (stays : Bool) (lives others : Lives) (said : Conversation) (after : Lives) → Matches fronts lives others → IsSaid rules limits more stays lives said after → Left fronts rules (IsSaid rules limits more stays others said) after
  said_from more true lives others said after h (some, is) =
      let it = answered_from lives others said (Ok tt) after h is in
      (it.0, (some, it.1), it.2)
  said_from more false lives others said after h (inl is) =
      let it = conversation_from fronts rules limits 1 lives others said after h (conversation_of rules limits lives said after is) in
      (it.0, inl (last_of rules limits others said it.0 it.1), it.2)
  said_from more false lives others said after h (inr (some, fault, is)) =
      let it = answered_from lives others said (Err fault) after h is in
      (it.0, inr (some, fault, it.1), it.2)

  module _ (k : ℕ) where
    exchanges_from : (lives others : Lives) (exchanges : List Exchange) (after : Lives) → Matches fronts lives others → AreExchanges rules limits k lives exchanges after → Left fronts rules (AreExchanges rules limits k others exchanges) after
    exchanges_from lives others [] after h are = (others, refl, subst (λ (left : Lives). Matches fronts left others) (sym are) h)
    exchanges_from lives others (x ∷ later) after h (next, (more, count, is), rest) =
        let one = said_from more x.stays lives others x.said next h is in
        let all = exchanges_from next one.0 later after one.2 rest in
        (all.0, (one.0, (more, count, one.1), all.1), all.2)

    pub same_exchanges : (lives others : Lives) (runs : List (List Exchange)) (after : Lives) → Matches fronts lives others → AreRuns rules limits k lives runs after → (later : Lives) × AreRuns rules limits k others runs later × (trimmed_lives later ≡ trimmed_lives after)
    same_exchanges lives others [] after h are = (others, refl, sym (alike fronts lives others h) ∙ ap trimmed_lives (sym are))
    same_exchanges lives others (exchanges ∷ later) after h (next, first, more) =
        let one = exchanges_from lives others exchanges next h first in
        let rest = same_exchanges next one.0 later after one.2 more in
        (rest.0, (one.0, one.1, rest.1), rest.2)
