-- Conversations with clients, over stops and starts, from lives that match.
use Rattle.std.proofs.Common.{◌≡◌, ℕ, Bool, false, List, [], ◌∷◌, ◌++◌, map, take, Result, Ok, Err, refl, sym, ◌∙◌, ap, subst, ◌⊎◌, inl, inr}
use Rattle.std.specs.List.{concat}
use Rattle.osb_frames.specs.declared.limits.Limits.{Limits}
use Rattle.osb_frames.specs.Calls.{Call, all_bytes}
use Rattle.osb_frames.specs.Cuts.{Message, ended}
use Rattle.osb_replies.specs.Parts.{refused}
use Rattle.osb_replies.specs.Text.{ReplyParts, reply_text}
use Rattle.osb_catalog.specs.Rules.{Rules}
use Rattle.osb_asks.specs.Asks.{ask_of}
use Rattle.osb_orders.specs.Lives.{Lives}
use Rattle.osb_broker.specs.declared.fault.ServeFault.{ServeFault}
use Rattle.osb_broker.specs.declared.fault.ServeFault.TheVariants.{Read, Write}
use Rattle.osb_broker.specs.Steps.{machine}
use Rattle.osb_broker.specs.Connection.{replies_of}
use Rattle.osb_broker.specs.Served.{ServedTo, FirstTexts, BrokenOff}
use Rattle.osb_broker.specs.Serving.{EndsAs, OfConnection, ReadBroken, replies_unmarked}
use Rattle.osb_broker.specs.Crashes.{LostAnswer, EndsAsOrLost}
use Rattle.osb_broker.specs.Conversations.{Conversation, IsConversation, AreConversations, AreEpisodes}
use Rattle.osb_trim.specs.Trimmed.{trimmed_lives}
use Rattle.osb_trim.proofs.MatchLemmas.{Fronts, Matches, alike, matches_one}
use Rattle.osb_broker.proofs.TrimmedRunLemmas.{M, left_match, same_replies, connection_from, connection_left}

module _ (fronts : Fronts) (rules : Rules) where
  -- it holds of some lives that match
  abbrev pub Left : (Lives → Type 0) → Lives → Type 0
  Left Holds after = (later : Lives) × Holds later × Matches fronts after later

  -- what holds of the bytes of a connection, whatever follows them
  of_connection : (P Q : List ℕ → Lives → Type 0) (calls : List Call) (after : Lives) → ((bytes : List ℕ) → P bytes after → Left (Q bytes) after) → OfConnection (λ bytes. P bytes after) calls → Left (λ later. OfConnection (λ bytes. Q bytes later) calls) after
  of_connection P Q calls after moved (inl all) =
      let first = moved (all_bytes calls ++ []) (all []) in
      let each : (more : List ℕ) → Q (all_bytes calls ++ more) first.0 = λ more.
      let next = moved (all_bytes calls ++ more) (all more) in
      subst (Q (all_bytes calls ++ more)) (matches_one fronts after next.0 first.0 next.2 first.2) next.1 in
      (first.0, inl each, first.2)
  of_connection P Q calls after moved (inr (one, at_end)) =
      let it = moved (all_bytes calls) one in
      (it.0, inr (it.1, at_end), it.2)

  module _ (takes : Message → Bool) (limits : Limits) (k : ℕ) (lives others : Lives) (h : Matches fronts lives others) where
    abbrev unmarked : List Message → List Bool
    unmarked requests = map (λ q. false) requests

    served_to : (bytes : List ℕ) (met_fault : Bool) (old new : List ℕ) (after : Lives) → ServedTo (M fronts rules takes) limits k lives bytes met_fault old new after → Left (ServedTo (M fronts rules takes) limits k others bytes met_fault old new) after
    served_to bytes met_fault old new after (served, fault) = (
      (replies_of (M fronts rules takes) k others served.is.requests served.is.end served.marks).1,
      (record { marks = served.marks; texts = served.texts; is = connection_from fronts rules takes limits k lives others bytes served.marks served.texts after h served.is; written = served.written }, fault),
      connection_left fronts rules takes limits k lives others bytes served.marks served.texts after h served.is,
    )

    first_texts : (bytes : List ℕ) (texts : List (List ℕ)) (after : Lives) → FirstTexts (M fronts rules takes) limits k lives bytes texts after → Left (FirstTexts (M fronts rules takes) limits k others bytes texts) after
    first_texts bytes texts after first =
        let both = same_replies fronts rules takes k lives others first.requests first.end first.marks h in
        let later : Lives = (replies_of (M fronts rules takes) k others first.requests first.end first.marks).1 in (
          later,
          record {
            most = first.most;
            fewer = first.fewer;
            marks = first.marks;
            requests = first.requests;
            end = first.end;
            cut = first.cut;
            marked = first.marked;
            printed = first.printed ∙ ap (map reply_text) both.0;
            leaves = refl;
          },
          subst (λ (left : Lives). Matches fronts left later) (sym first.leaves) both.1,
        )

    broken_off : (bytes old new : List ℕ) (after : Lives) → BrokenOff (M fronts rules takes) limits k lives bytes old new after → Left (BrokenOff (M fronts rules takes) limits k others bytes old new) after
    broken_off bytes old new after broken =
        let it = first_texts bytes (broken.texts ++ broken.text ∷ []) after broken.is in
        (it.0, record { texts = broken.texts; text = broken.text; is = it.1; count = broken.count; inside = broken.inside; written = broken.written }, it.2)

    read_broken : (got old new : List ℕ) (after : Lives) → ReadBroken (M fronts rules takes) limits k lives got old new after → Left (ReadBroken (M fronts rules takes) limits k others got old new) after
    read_broken got old new after broken =
        let both = same_replies fronts rules takes k lives others broken.requests ended (unmarked broken.requests) h in
        let later : Lives = (replies_unmarked (M fronts rules takes) k others broken.requests).1 in (
          later,
          record {
            requests = broken.requests;
            held = broken.held;
            past = broken.past;
            fewer = broken.fewer;
            waits = broken.waits;
            written = broken.written ∙ ap (λ (replies : List ReplyParts). old ++ concat (map reply_text replies)) both.0;
            leaves = refl;
          },
          subst (λ (left : Lives). Matches fronts left later) (sym broken.leaves) both.1,
        )

    ends_as : (result : Result (Unit {0}) ServeFault) (calls : List Call) (met_fault : Bool) (old new : List ℕ) (after : Lives) → EndsAs result (M fronts rules takes) limits k lives calls met_fault old new after → Left (EndsAs result (M fronts rules takes) limits k others calls met_fault old new) after
    ends_as (Ok x) calls met_fault old new after e =
        of_connection (λ bytes. ServedTo (M fronts rules takes) limits k lives bytes met_fault old new) (λ bytes. ServedTo (M fronts rules takes) limits k others bytes met_fault old new) calls after (λ bytes. served_to bytes met_fault old new after) e
    ends_as (Err Read) calls met_fault old new after e = read_broken (all_bytes calls) old new after e
    ends_as (Err Write) calls met_fault old new after e =
        of_connection (λ bytes. BrokenOff (M fronts rules takes) limits k lives bytes old new) (λ bytes. BrokenOff (M fronts rules takes) limits k others bytes old new) calls after (λ bytes. broken_off bytes old new after) e

    lost_answer : (result : Result (Unit {0}) ServeFault) (got old new : List ℕ) (before after shown : Lives) → LostAnswer result (M fronts rules takes) limits k lives got old new before after → Matches fronts before shown → Left (LostAnswer result (M fronts rules takes) limits k others got old new shown) after
    lost_answer result got old new before after shown lost match =
        let both = same_replies fronts rules takes k lives others lost.requests ended (unmarked lost.requests) h in
        let there : Lives = (replies_unmarked (M fronts rules takes) k others lost.requests).1 in
        let later : Lives = ((M fronts rules takes).step shown lost.q).1 in (
          later,
          record {
            requests = lost.requests;
            held = lost.held;
            past = lost.past;
            fewer = lost.fewer;
            q = lost.q;
            n = lost.n;
            front = lost.front;
            takes_memory = lost.takes_memory;
            count = lost.count;
            whole = lost.whole;
            written = lost.written ∙ ap (λ (replies : List ReplyParts). old ++ (concat (map reply_text replies) ++ take lost.count (reply_text refused))) both.0;
            answered = matches_one fronts before shown there match (subst (λ (left : Lives). Matches fronts left there) (sym lost.answered) both.1);
            leaves = refl;
          },
          subst (λ (left : Lives). Matches fronts left later) (sym lost.leaves) (left_match fronts rules before shown (ask_of rules lost.q) match),
        )

    ends_as_or_lost : (result : Result (Unit {0}) ServeFault) (calls : List Call) (met_fault : Bool) (old new : List ℕ) (after : Lives) → EndsAsOrLost result (M fronts rules takes) limits k lives calls met_fault old new after → Left (EndsAsOrLost result (M fronts rules takes) limits k others calls met_fault old new) after
    ends_as_or_lost result calls met_fault old new after e =
        let it = ends_as result calls met_fault old new e.shown e.ends in
        by it.0 it.1 it.2 e.is
      where
        by : (shown : Lives) → EndsAs result (M fronts rules takes) limits k others calls met_fault old new shown → Matches fronts e.shown shown → (after ≡ e.shown) ⊎ LostAnswer result (M fronts rules takes) limits k lives (all_bytes calls) old new e.shown after → Left (EndsAsOrLost result (M fronts rules takes) limits k others calls met_fault old new) after
        by shown ends match (inl same) = (shown, record { shown = shown; ends = ends; is = inl refl }, subst (λ (left : Lives). Matches fronts left shown) (sym same) match)
        by shown ends match (inr lost) =
            let more = lost_answer result (all_bytes calls) old new e.shown after shown lost match in
            (more.0, record { shown = shown; ends = ends; is = inr more.1 }, more.2)

  module _ (limits : Limits) (k : ℕ) where
    pub conversation_from : (lives others : Lives) (conversation : Conversation) (after : Lives) → Matches fronts lives others → IsConversation rules limits k lives conversation after → Left (IsConversation rules limits k others conversation) after
    conversation_from lives others conversation after h is =
        let it = ends_as_or_lost (machine rules).takes_memory limits k lives others h is.ended conversation.calls conversation.met_fault [] conversation.sent after is.outcome in
        (it.0, record { ended = is.ended; reads = is.reads; needed = is.needed; wrote = is.wrote; outcome = it.1 }, it.2)

    conversations_from : (lives others : Lives) (conversations : List Conversation) (after : Lives) → Matches fronts lives others → AreConversations rules limits k lives conversations after → Left (AreConversations rules limits k others conversations) after
    conversations_from lives others [] after h are = (others, refl, subst (λ (left : Lives). Matches fronts left others) (sym are) h)
    conversations_from lives others (conversation ∷ later) after h (next, first, more) =
        let one = conversation_from lives others conversation next h first in
        let rest = conversations_from next one.0 later after one.2 more in
        (rest.0, (one.0, one.1, rest.1), rest.2)

    pub same_episodes : (lives others : Lives) (episodes : List (List Conversation)) (after : Lives) → Matches fronts lives others → AreEpisodes rules limits k lives episodes after → (later : Lives) × AreEpisodes rules limits k others episodes later × (trimmed_lives later ≡ trimmed_lives after)
    same_episodes lives others [] after h are = (others, refl, sym (alike fronts lives others h) ∙ ap trimmed_lives (sym are))
    same_episodes lives others (conversations ∷ later) after h (next, first, more) =
        let one = conversations_from lives others conversations next h first in
        let rest = same_episodes next one.0 later after one.2 more in
        (rest.0, (one.0, one.1, rest.1), rest.2)
