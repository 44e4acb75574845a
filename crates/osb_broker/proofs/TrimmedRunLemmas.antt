-- Connections, one after the other, from lives that trimming makes the same.
use Rattle.std.proofs.Common.{◌≡◌, ℕ, zero, suc, ◌==◌, Bool, true, false, List, [], ◌∷◌, map, Result, Ok, Err, refl, sym, ◌∙◌, ap, ap₂, subst}
use Rattle.osb_frames.specs.declared.limits.Limits.{Limits}
use Rattle.osb_frames.specs.Cuts.{Message, End}
use Rattle.osb_replies.specs.Text.{ReplyParts, reply_text}
use Rattle.osb_catalog.specs.Rules.{Rules}
use Rattle.osb_asks.specs.declared.ask.Ask.{Ask}
use Rattle.osb_asks.specs.declared.ask_fault.AskFault.{AskFault}
use Rattle.osb_asks.specs.Asks.{ask_of}
use Rattle.osb_orders.specs.Lives.{Lives}
use Rattle.osb_broker.specs.Machine.{Answer, Machine, reply_of}
use Rattle.osb_broker.specs.Steps.{step_for}
use Rattle.osb_broker.specs.Connection.{replies_of, ConnectionText, Run}
use Rattle.osb_broker.specs.Resend.{refusing}
use Rattle.osb_trim.specs.Trimmed.{trimmed_lives}
use Rattle.osb_trim.proofs.MatchLemmas.{Fronts, Matches, alike, answers_match, steps_match}
use Rattle.osb_broker.proofs.StepLemmas.{answer_alone}

module _ (fronts : Fronts) (rules : Rules) where
  -- one request
  pub same_answer : (lives others : Lives) (asked : Result Ask AskFault) → Matches fronts lives others → (step_for rules lives asked).0 ≡ (step_for rules others asked).0
  same_answer lives others (Ok ask) h = ap answer_alone (answers_match fronts rules lives others ask h)
  same_answer lives others (Err fault) h = refl

  pub left_match : (lives others : Lives) (asked : Result Ask AskFault) → Matches fronts lives others → Matches fronts (step_for rules lives asked).1 (step_for rules others asked).1
  left_match lives others (Ok ask) h = steps_match fronts rules lives others ask h
  left_match lives others (Err fault) h = h

  -- the requests of a connection
  module _ (takes : Message → Bool) where
    abbrev pub M : Machine Lives
    M = refusing takes rules

    -- the same replies, and lives that match
    abbrev pub AreSame : List ReplyParts × Lives → List ReplyParts × Lives → Type 0
    AreSame one other = (one.0 ≡ other.0) × Matches fronts one.1 other.1

    pub same_replies : (k : ℕ) (lives others : Lives) (requests : List Message) (end : End) (marks : List Bool) → Matches fronts lives others → AreSame (replies_of M k lives requests end marks) (replies_of M k others requests end marks)
    same_replies zero lives others requests end marks h = (refl, h)
    same_replies (suc k) lives others [] end marks h = (refl, h)
    same_replies (suc k) lives others (q ∷ requests) end [] h = (refl, h)
    same_replies (suc k) lives others (q ∷ requests) end (true ∷ marks) h = (refl, h)
    same_replies (suc k) lives others (q ∷ requests) end (false ∷ marks) h =
        let asked = ask_of rules q in
        let later = same_replies k (step_for rules lives asked).1 (step_for rules others asked).1 requests end marks (left_match lives others asked h) in
        (ap₂ (λ (answer : Answer) (replies : List ReplyParts). reply_of q (k == 0) answer ∷ replies) (same_answer lives others asked h) later.0, later.1)

    module _ (limits : Limits) (k : ℕ) where
      -- the same connection from the other lives
      abbrev pub connection_from : (lives others : Lives) (bytes : List ℕ) (marks : List Bool) (texts : List (List ℕ)) (after : Lives) → Matches fronts lives others → (served : ConnectionText M limits k lives bytes marks texts after) → ConnectionText M limits k others bytes marks texts (replies_of M k others served.requests served.end marks).1
      connection_from lives others bytes marks texts after h served = record {
        requests = served.requests;
        end = served.end;
        cut = served.cut;
        marked = served.marked;
        printed = served.printed ∙ ap (map reply_text) (same_replies k lives others served.requests served.end marks h).0;
        leaves = refl;
      }

      pub connection_left : (lives others : Lives) (bytes : List ℕ) (marks : List Bool) (texts : List (List ℕ)) (after : Lives) → Matches fronts lives others → (served : ConnectionText M limits k lives bytes marks texts after) → Matches fronts after (replies_of M k others served.requests served.end marks).1
      connection_left lives others bytes marks texts after h served =
          subst (λ (left : Lives). Matches fronts left (replies_of M k others served.requests served.end marks).1) (sym served.leaves) (same_replies k lives others served.requests served.end marks h).1

      -- one connection after another
      pub same_runs : (lives others : Lives) (connections : List (List ℕ)) (marks : List (List Bool)) (outputs : List (List (List ℕ))) (after : Lives) → Matches fronts lives others → Run M limits k lives connections marks outputs after
          → (later : Lives) × Run M limits k others connections marks outputs later × (trimmed_lives later ≡ trimmed_lives after)
      same_runs lives others [] [] [] after h run = (others, refl, sym (alike fronts lives others h) ∙ ap trimmed_lives (sym run))
      same_runs lives others [] [] (texts ∷ outputs) after h run = absurd run
      same_runs lives others [] (one ∷ marks) outputs after h run = absurd run
      same_runs lives others (bytes ∷ connections) [] outputs after h run = absurd run
      same_runs lives others (bytes ∷ connections) (one ∷ marks) [] after h run = absurd run
      same_runs lives others (bytes ∷ connections) (one ∷ marks) (texts ∷ outputs) after h (next, first, run) =
          let left : Lives = (replies_of M k others first.requests first.end one).1 in
          let more = same_runs next left connections marks outputs after (connection_left lives others bytes one texts next h first) run in
          (more.0, (left, connection_from lives others bytes one texts next h first, more.1), more.2)
