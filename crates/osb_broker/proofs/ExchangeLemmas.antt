-- Exchanges with one request a client, those of a connection by itself, and those over stops and starts.
use Rattle.std.proofs.Common.{◌≡◌, ◌∙◌, ℕ, suc, ◌+◌, ◌<◌, ◌==◌, inl, inr, Bool, true, false, List, [], ◌∷◌, ◌++◌, length, map, drop, Ok, sym, refl, ap, subst, append_assoc, arith}
use Rattle.std.proofs.lemmas.Bool.{ne_eqb}
use Rattle.osb_frames.specs.declared.limits.Limits.{Limits}
use Rattle.osb_frames.specs.Calls.{all_bytes}
use Rattle.osb_replies.specs.Text.{reply_text}
use Rattle.osb_catalog.specs.Rules.{Rules}
use Rattle.osb_orders.specs.Lives.{Lives}
use Rattle.osb_broker.specs.Machine.{reply_of}
use Rattle.osb_broker.specs.Steps.{machine}
use Rattle.osb_broker.specs.Connection.{ConnectionText}
use Rattle.osb_broker.specs.Served.{Served}
use Rattle.osb_broker.specs.Conversations.{Conversation, IsConversation, AreConversations}
use Rattle.osb_broker.specs.Exchanges.{Exchange, IsAnswered, IsSaid, IsExchange, AreExchanges, all_exchanges, RunsGoOn, one_each, OneRequestEach, AreAnswered, bytes_in, sent_in, ConnectionsByThemselves}
use Rattle.osb_broker.proofs.LastLemmas.{conversation_of, last_of}
use Rattle.osb_broker.proofs.OneByOneLemmas.{in_front}

-- ---- with one request a client

module _ (rules : Rules) (limits : Limits) where
  none_behind : (before more : ℕ) → before + suc more ≡ 1 → 0 < more → ⊥
  none_behind before more count some = omega (arith, count, some)

  is_conversation : (x : Exchange) (old new : Lives) → IsExchange rules limits 1 old x new → IsConversation rules limits 1 old x.said new
  is_conversation x old new (more, count, is) = by x.stays is
    where
      by : (stays : Bool) → IsSaid rules limits more stays old x.said new → IsConversation rules limits 1 old x.said new
      by true (some, it) = absurd (none_behind x.before more count some)
      by false (inl it) = conversation_of rules limits old x.said new it
      by false (inr (some, fault, it)) = absurd (none_behind x.before more count some)

  to_conversations : (old : Lives) (exchanges : List Exchange) (new : Lives) → AreExchanges rules limits 1 old exchanges new → AreConversations rules limits 1 old (map (λ x. x.said) exchanges) new
  to_conversations old [] new none = none
  to_conversations old (x ∷ later) new (lives, one, rest) = (lives, is_conversation x old lives one, to_conversations lives later new rest)

  to_exchanges : (n : ℕ) (old : Lives) (conversations : List Conversation) (new : Lives) → AreConversations rules limits 1 old conversations new → AreExchanges rules limits 1 old (one_each n conversations) new
  to_exchanges n old [] new none = none
  to_exchanges n old (said ∷ later) new (lives, one, rest) = (lives, (0, refl, inl (last_of rules limits old said lives one)), to_exchanges (suc n) lives later new rest)

pub one_request_each : OneRequestEach
one_request_each rules limits old new = (
  λ exchanges are. to_conversations rules limits old exchanges new are,
  λ n conversations are. to_exchanges rules limits n old conversations new are,
)

-- ---- a connection by itself

behind : (bytes rest : List ℕ) → drop (length bytes) (bytes ++ rest) ≡ rest
behind [] rest = refl
behind (byte ∷ bytes) rest = behind bytes rest

module _ (rules : Rules) (limits : Limits) where
  -- a connection that was served, with one more request before it
  one_before : (k : ℕ) (old lives new : Lives) (said : Conversation) (rest sent : List ℕ) → IsAnswered rules limits old said (Ok tt) lives → Served (machine rules) limits (suc k) lives rest [] sent new → Served (machine rules) limits (suc (suc k)) old (all_bytes said.calls ++ rest) [] (said.sent ++ sent) new
  one_before k old lives new said rest sent it served =
      let bytes = all_bytes said.calls in
      let text : Bool → List ℕ = λ last. reply_text (reply_of it.q last ((machine rules).step old it.q).0) in
      let later : ConnectionText (machine rules) limits (suc k) ((machine rules).step old it.q).1 (drop (length bytes) (bytes ++ rest)) served.marks served.texts new =
      subst (λ left. ConnectionText (machine rules) limits (suc k) left (drop (length bytes) (bytes ++ rest)) served.marks served.texts new) it.leaves
      (subst (λ l. ConnectionText (machine rules) limits (suc k) lives l served.marks served.texts new) (sym (behind bytes rest)) served.is) in
      let not_last : (suc k == 0) ≡ false = ne_eqb (suc k) 0 (omega arith) in
      let all = in_front (machine rules) limits (suc k) old (bytes ++ rest) it.q (length bytes) served.marks served.texts later.end new (it.exact rest) it.goes_on (later, refl) in
      record {
        marks = false ∷ served.marks;
        texts = text false ∷ served.texts;
        is = subst (λ last. ConnectionText (machine rules) limits (suc (suc k)) old (bytes ++ rest) (false ∷ served.marks) (text last ∷ served.texts) new) not_last all.0;
        written = ap (λ l. l ++ sent) it.wrote.0 ∙ ap (λ l. text false ++ l) served.written;
      }

  one_more : (n : ℕ) → n + 1 ≡ suc n
  one_more n = omega (arith)

  all_before : (old lives new : Lives) (earlier : List Conversation) (rest sent : List ℕ) → AreAnswered rules limits old earlier lives → Served (machine rules) limits 1 lives rest [] sent new → Served (machine rules) limits (length earlier + 1) old (bytes_in earlier ++ rest) [] (sent_in earlier ++ sent) new
  all_before old lives new [] rest sent none served = subst (λ left. Served (machine rules) limits 1 left rest [] sent new) none served
  all_before old lives new (said ∷ later) rest sent (next, one, more) served =
      let k = suc (length later) in
      let shorter = subst (λ n. Served (machine rules) limits n next (bytes_in later ++ rest) [] (sent_in later ++ sent) new) (one_more (length later)) (all_before next lives new later rest sent more served) in
      let longer = one_before (length later) old next new said (bytes_in later ++ rest) (sent_in later ++ sent) one shorter in
      subst (λ n. Served (machine rules) limits n old (bytes_in (said ∷ later) ++ rest) [] (sent_in (said ∷ later) ++ sent) new) (sym (one_more k))
      (subst (λ l. Served (machine rules) limits (suc k) old (bytes_in (said ∷ later) ++ rest) [] l new) (sym (append_assoc said.sent (sent_in later) sent))
      (subst (λ l. Served (machine rules) limits (suc k) old l [] (said.sent ++ (sent_in later ++ sent)) new) (sym (append_assoc (all_bytes said.calls) (bytes_in later) rest)) longer))

pub by_themselves : ConnectionsByThemselves
by_themselves rules limits old lives new earlier rest sent are served = all_before rules limits old lives new earlier rest sent are served

-- ---- over stops and starts

module _ (rules : Rules) (limits : Limits) (k : ℕ) where
  go_on : (old : Lives) (exchanges later : List Exchange) (lives new : Lives) → AreExchanges rules limits k old exchanges lives → AreExchanges rules limits k lives later new → AreExchanges rules limits k old (exchanges ++ later) new
  go_on old [] later lives new none more = subst (λ left. AreExchanges rules limits k left later new) none more
  go_on old (x ∷ exchanges) later lives new (next, one, rest) more = (next, one, go_on next exchanges later lives new rest more)

pub runs_go_on : RunsGoOn
runs_go_on rules limits k old [] new none = none
runs_go_on rules limits k old (exchanges ∷ runs) new (lives, first, rest) =
    go_on rules limits k old exchanges (all_exchanges runs) lives new first (runs_go_on rules limits k lives runs new rest)
