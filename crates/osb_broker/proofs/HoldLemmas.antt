-- The steps of the loop over a buffer.
use Rattle.std.proofs.Common.{◌≡◌, ℕ, zero-add, suc, ◌+◌, ◌-◌, ◌<◌, ◌≤◌, ◌==◌, inl, inr, Bool, true, false, List, [], ◌∷◌, ◌++◌, length, take, drop, Option, Some, None, Result, Ok, Err, IfSome, OnOk, sym, refl, ap, subst, ◌∙◌, arith}
use Rattle.std.specs.Io.KnownBytes.{Consumes, IsAtEnd, Keeps}
use Rattle.std.specs.List.{concat, copy_within}
use Rattle.std.proofs.lemmas.List.Edits.{take-paste}
use Rattle.std.proofs.lemmas.List.{drop-take, append_assoc, append-nil, drop-append-le, length-append, length-drop}
use Rattle.osb_frames.specs.declared.limits.Limits.{Limits}
use Rattle.osb_frames.specs.declared.step.StopKind.{StopKind}
use Rattle.osb_frames.specs.Calls.{Call, all_bytes}
use Rattle.osb_frames.specs.Cuts.{Message, End, ended, closed, stopped, closes, whole, IsFront}
use Rattle.osb_frames.specs.Steps.{FaultStays}
use Rattle.osb_replies.specs.declared.write.WriteFault.{WriteFault}
use Rattle.osb_replies.specs.Text.{reply_text}
use Rattle.osb_broker.specs.declared.fault.ServeFault.{ServeFault}
use Rattle.osb_broker.specs.Machine.{Machine, fault_reply}
use Rattle.osb_broker.proofs.OneByOne.{AfterRequests, WrittenSoFar}
use Rattle.osb_broker.specs.Served.{is_fault, Served, ServedTo, BrokenOff}
use Rattle.osb_broker.specs.Answering.{Answers}
use Rattle.osb_broker.specs.Serving.{WritesText, ReadsMade, OfConnection, EndsAs, EndsWith, NothingWaits, Past, ReadBroken, RequestsPassed}
use Rattle.osb_broker.proofs.OneByOneLemmas.{passed}
use Rattle.osb_broker.proofs.RunLemmas.{after_more, concat_more, ServedWith, served_silent, text_of_end, text_of_none, not_marked}
use Rattle.osb_broker.proofs.LoopLemmas.{AtRequest, closing, breaking, refusing}
use Rattle.osb_broker.proofs.CallLemmas.{all_more, all_failed, same_last}

-- so far the texts of the requests before held were written, whatever follows it
pub record ReadSoFar {S : Type 0} (machine : Machine S) (limits : Limits) (k : ℕ) (s : S) (got old : List ℕ) (left : ℕ) (now : List ℕ) (u : S) (held : List ℕ) : Type 0 where
  pub texts : List (List ℕ)
  pub is : (more : List ℕ) → AfterRequests machine limits k s (got ++ more) texts left u (held ++ more)
  pub written : now ≡ old ++ concat texts

-- where none was made
no_end : {P : Type 0} → EndsWith (Some []) [] → P
no_end ends = absurd (omega (arith, ap length ends.is, length-append ends.before (Some [] ∷ [])))

pub gave_nothing : (made : List Call) (known : Option (List ℕ)) → ReadsMade made made known known []
gave_nothing made None = record { made = sym (append-nil made); consumed = tt; at_end = no_end }
gave_nothing made (Some all) = record { made = sym (append-nil made); consumed = refl; at_end = no_end }

consumes_more : (a b c : Option (List ℕ)) (xs ys : List ℕ) → Consumes a b xs → Consumes b c ys → Consumes a c (xs ++ ys)
consumes_more None b c xs ys x y = tt
consumes_more (Some all) None c xs ys x y = absurd x
consumes_more (Some all) (Some mid) None xs ys x y = absurd y
consumes_more (Some all) (Some mid) (Some rest) xs ys x y = x ∙ ap (λ l. xs ++ l) y ∙ sym (append_assoc xs ys rest)

consumes_kept : (a b c : Option (List ℕ)) (xs : List ℕ) → Consumes a b xs → Keeps b c → Consumes a c xs
consumes_kept None b c xs x y = tt
consumes_kept (Some all) None c xs x y = absurd x
consumes_kept (Some all) (Some mid) None xs x y = absurd y
consumes_kept (Some all) (Some mid) (Some rest) xs x y = x ∙ ap (λ l. xs ++ l) (sym y)

pub gave_more : (a b c : List Call) (ka kb kc : Option (List ℕ)) (calls : List Call) (piece : List ℕ) → ReadsMade a b ka kb calls → c ≡ b ++ Some piece ∷ [] → Consumes kb kc piece → (piece ≡ [] → IsAtEnd kc) → ReadsMade a c ka kc (calls ++ Some piece ∷ [])
gave_more a b c ka kb kc calls piece gave e more none = record {
  made = e ∙ ap (λ l. l ++ Some piece ∷ []) gave.made ∙ append_assoc a calls (Some piece ∷ []);
  consumed = subst (Consumes ka kc) (sym (all_more calls piece)) (consumes_more ka kb kc (all_bytes calls) piece gave.consumed more);
  at_end = λ ends. let same = same_last calls ends.before (Some piece) (Some []) ends.is in none cc;
}

pub gave_failed : (a b c : List Call) (ka kb kc : Option (List ℕ)) (calls : List Call) → ReadsMade a b ka kb calls → c ≡ b ++ None ∷ [] → Keeps kb kc → ReadsMade a c ka kc (calls ++ None ∷ [])
gave_failed a b c ka kb kc calls gave e keeps = record {
  made = e ∙ ap (λ l. l ++ None ∷ []) gave.made ∙ append_assoc a calls (None ∷ []);
  consumed = subst (Consumes ka kc) (sym (all_failed calls)) (consumes_kept ka kb kc (all_bytes calls) gave.consumed keeps);
  at_end = λ ends. let same = same_last calls ends.before None (Some []) ends.is in absurd (cc);
}

pub holding_start : {S : Type 0} (machine : Machine S) (limits : Limits) (k : ℕ) (s : S) (old : List ℕ) → ReadSoFar machine limits k s [] old k old s []
holding_start machine limits k s old = record { texts = []; is = λ more. (refl, refl, refl); written = sym (append-nil old) }

-- what was reached, whatever follows
pub reached_with : {S : Type 0} (machine : Machine S) (limits : Limits) (k : ℕ) (s : S) (got old : List ℕ) (left : ℕ) (now : List ℕ) (u : S) (held : List ℕ) → ReadSoFar machine limits k s got old left now u held → (more : List ℕ) → WrittenSoFar machine limits k s (got ++ more) old left now u (held ++ more)
reached_with machine limits k s got old left now u held h more = record { texts = h.texts; is = h.is more; written = h.written }

reached_now : {S : Type 0} (machine : Machine S) (limits : Limits) (k : ℕ) (s : S) (got old : List ℕ) (left : ℕ) (now : List ℕ) (u : S) (held : List ℕ) → ReadSoFar machine limits k s got old left now u held → WrittenSoFar machine limits k s got old left now u held
reached_now machine limits k s got old left now u held h =
    subst (λ l. WrittenSoFar machine limits k s l old left now u held) (append-nil got)
    (subst (λ l. WrittenSoFar machine limits k s (got ++ []) old left now u l) (append-nil held) (reached_with machine limits k s got old left now u held h []))

pub read_broken : {S : Type 0} (machine : Machine S) (limits : Limits) (k : ℕ) (s : S) (got old : List ℕ) (left : ℕ) (now : List ℕ) (u : S) (held : List ℕ) → 0 < left → NothingWaits limits held → ReadSoFar machine limits k s got old left now u held → ReadBroken machine limits k s got old now u
read_broken machine limits k s got old left now u held some waits h =
    let at = reached_now machine limits k s got old left now u held h in
    let it = passed machine limits k s got at.texts left u held at.is in
    record { requests = it.0; held = held; past = it.1; fewer = omega (arith, it.2, some); waits = waits; written = at.written ∙ ap (λ l. old ++ concat l) it.3; leaves = it.4 }

pub holding_fed : {S : Type 0} (machine : Machine S) (limits : Limits) (k : ℕ) (s : S) (got old : List ℕ) (left : ℕ) (now : List ℕ) (u : S) (held piece : List ℕ) → ReadSoFar machine limits k s got old left now u held → ReadSoFar machine limits k s (got ++ piece) old left now u (held ++ piece)
holding_fed machine limits k s got old left now u held piece h = record {
  texts = h.texts;
  is = λ more.
      subst (λ l. AfterRequests machine limits k s l h.texts left u ((held ++ piece) ++ more)) (sym (append_assoc got piece more))
      (subst (λ l. AfterRequests machine limits k s (got ++ (piece ++ more)) h.texts left u l) (sym (append_assoc held piece more)) (h.is (piece ++ more)));
  written = h.written;
}

-- a whole request at the front of what is held
pub record HoldsRequest {S : Type 0} (machine : Machine S) (limits : Limits) (k : ℕ) (s : S) (got old : List ℕ) (left : ℕ) (now : List ℕ) (u : S) (held : List ℕ) (q : Message) (n j : ℕ) : Type 0 where
  pub holding : ReadSoFar machine limits k s got old left now u held
  pub front : (more : List ℕ) → IsFront limits (held ++ more) (whole q n)
  pub inside : n ≤ length held
  pub fewer : left ≡ suc j

pub holding_more : {S : Type 0} (machine : Machine S) (limits : Limits) (k : ℕ) (s : S) (got old : List ℕ) (left : ℕ) (now : List ℕ) (u : S) (held : List ℕ) (q : Message) (n j : ℕ) (t : S) (before : ℕ) (new : List ℕ) (after : ℕ) (close : Bool) → HoldsRequest machine limits k s got old left now u held q n j → Answers machine q (j == 0) u t now before new after (Ok close) → close ≡ false → ReadSoFar machine limits k s got old j new t (drop n held)
holding_more machine limits k s got old left now u held q n j t before new after close at (mark, reply, marked, wrote) e = record {
  texts = at.holding.texts ++ reply_text reply ∷ [];
  is = λ more. after_more machine limits k s (got ++ more) at.holding.texts left u (held ++ more) (reply_text reply) j t (drop n held ++ more) (at.holding.is more)
      (record {
        q = q;
        n = n;
        front = at.front more;
        fewer = at.fewer;
        reply = reply;
        answered = not_marked machine mark q (j == 0) u reply t marked (sym wrote.2 ∙ e);
        says = refl;
        closed = sym wrote.2 ∙ e;
        after = sym (drop-append-le n held more at.inside);
      });
  written = concat_more old now new at.holding.texts (reply_text reply) at.holding.written wrote.0;
}

pub at_request : {S : Type 0} (machine : Machine S) (limits : Limits) (k : ℕ) (s : S) (got old : List ℕ) (left : ℕ) (now : List ℕ) (u : S) (held : List ℕ) (q : Message) (n j : ℕ) → HoldsRequest machine limits k s got old left now u held q n j → (more : List ℕ) → AtRequest machine limits k s (got ++ more) old left now u (held ++ more) q n j
at_request machine limits k s got old left now u held q n j at more = record {
  reached = reached_with machine limits k s got old left now u held at.holding more;
  front = at.front more;
  fewer = at.fewer;
}

-- no framing fault was met
ends_open : {S : Type 0} {machine : Machine S} {limits : Limits} {k : ℕ} {s : S} {bytes : List ℕ} {end : End} {old new : List ℕ} {t : S} {met_fault : Bool} → met_fault ≡ false → is_fault end ≡ false → ServedWith machine limits k s bytes end old new t → ServedTo machine limits k s bytes met_fault old new t
ends_open met none (served, end) = (served, met ∙ sym (ap is_fault end ∙ none))

pub closing_held : {S : Type 0} (machine : Machine S) (limits : Limits) (k : ℕ) (s : S) (got old : List ℕ) (left : ℕ) (now : List ℕ) (u : S) (held : List ℕ) (q : Message) (n j : ℕ) (t : S) (before : ℕ) (new : List ℕ) (after : ℕ) (close met_fault : Bool) → HoldsRequest machine limits k s got old left now u held q n j → Answers machine q (j == 0) u t now before new after (Ok close) → close ≡ true → met_fault ≡ false → (more : List ℕ) → ServedTo machine limits k s (got ++ more) met_fault old new t
closing_held machine limits k s got old left now u held q n j t before new after close met_fault at answers e met more =
    ends_open met refl (closing machine limits k s (got ++ more) old left now u (held ++ more) q n j t before new after close
    (at_request machine limits k s got old left now u held q n j at more) answers e)

pub breaking_held : {S : Type 0} (machine : Machine S) (limits : Limits) (k : ℕ) (s : S) (got old : List ℕ) (left : ℕ) (now : List ℕ) (u : S) (held : List ℕ) (q : Message) (n j : ℕ) (t : S) (before : ℕ) (new : List ℕ) (after : ℕ) (f : WriteFault) → HoldsRequest machine limits k s got old left now u held q n j → Answers machine q (j == 0) u t now before new after (Err f) → (more : List ℕ) → BrokenOff machine limits k s (got ++ more) old new t
breaking_held machine limits k s got old left now u held q n j t before new after f at answers more =
    breaking machine limits k s (got ++ more) old left now u (held ++ more) q n j t before new after f
    (at_request machine limits k s got old left now u held q n j at more) answers

pub refusing_ok : {S : Type 0} (machine : Machine S) (limits : Limits) (k : ℕ) (s : S) (calls : List Call) (old : List ℕ) (left : ℕ) (now : List ℕ) (u : S) (held : List ℕ) (f : StopKind) (over : Bool) (j : ℕ) (before : ℕ) (new : List ℕ) (after : ℕ) (x : Unit {0}) → ReadSoFar machine limits k s (all_bytes calls) old left now u held → FaultStays limits held over f → (over ≡ true → EndsWith (Some []) calls) → left ≡ suc j → WritesText now before new after (Ok x) (reply_text (fault_reply f)) → OfConnection (λ bytes. ServedTo machine limits k s bytes true old new u) calls
refusing_ok machine limits k s calls old left now u held f over j before new after x h told end fewer wrote = by told
  where
    at_fault : {bytes : List ℕ} → ServedWith machine limits k s bytes (stopped f) old new u → ServedTo machine limits k s bytes true old new u
    at_fault (served, end) = (served, sym (ap is_fault end))

    by : FaultStays limits held over f → OfConnection (λ bytes. ServedTo machine limits k s bytes true old new u) calls
    by (inl always) = inl (λ more. at_fault (refusing machine limits k s (all_bytes calls ++ more) old left now u (held ++ more) f j before new after (Ok x) (reached_with machine limits k s (all_bytes calls) old left now u held h more) (always more) fewer wrote).0)
    by (inr here) = inr (at_fault (refusing machine limits k s (all_bytes calls) old left now u held f j before new after (Ok x) (reached_now machine limits k s (all_bytes calls) old left now u held h) here.0 fewer wrote).0, end here.1)

pub refusing_err : {S : Type 0} (machine : Machine S) (limits : Limits) (k : ℕ) (s : S) (calls : List Call) (old : List ℕ) (left : ℕ) (now : List ℕ) (u : S) (held : List ℕ) (f : StopKind) (over : Bool) (j : ℕ) (before : ℕ) (new : List ℕ) (after : ℕ) (e : WriteFault) → ReadSoFar machine limits k s (all_bytes calls) old left now u held → FaultStays limits held over f → (over ≡ true → EndsWith (Some []) calls) → left ≡ suc j → WritesText now before new after (Err e) (reply_text (fault_reply f)) → OfConnection (λ bytes. BrokenOff machine limits k s bytes old new u) calls
refusing_err machine limits k s calls old left now u held f over j before new after e h told end fewer wrote = by told
  where
    by : FaultStays limits held over f → OfConnection (λ bytes. BrokenOff machine limits k s bytes old new u) calls
    by (inl always) = inl (λ more. (refusing machine limits k s (all_bytes calls ++ more) old left now u (held ++ more) f j before new after (Err e) (reached_with machine limits k s (all_bytes calls) old left now u held h more) (always more) fewer wrote).1)
    by (inr here) = inr ((refusing machine limits k s (all_bytes calls) old left now u held f j before new after (Err e) (reached_now machine limits k s (all_bytes calls) old left now u held h) here.0 fewer wrote).1, end here.1)

pub ending_held : {S : Type 0} (machine : Machine S) (limits : Limits) (k : ℕ) (s : S) (got old : List ℕ) (left : ℕ) (now : List ℕ) (u : S) (held : List ℕ) (j : ℕ) (met_fault : Bool) → ReadSoFar machine limits k s got old left now u held → left ≡ suc j → held ≡ [] → met_fault ≡ false → ServedTo machine limits k s got met_fault old now u
ending_held machine limits k s got old left now u held j met_fault h fewer none met =
    ends_open met refl (served_silent machine limits k s got old left now u held ended (reached_now machine limits k s got old left now u held h) (text_of_end machine limits left j u held fewer none))

pub none_held : {S : Type 0} (machine : Machine S) (limits : Limits) (k : ℕ) (s : S) (got old : List ℕ) (left : ℕ) (now : List ℕ) (u : S) (held : List ℕ) (met_fault : Bool) → ReadSoFar machine limits k s got old left now u held → left ≡ 0 → met_fault ≡ false → (more : List ℕ) → ServedTo machine limits k s (got ++ more) met_fault old now u
none_held machine limits k s got old left now u held met_fault h none met more =
    ends_open met refl (served_silent machine limits k s (got ++ more) old left now u (held ++ more) closed (reached_with machine limits k s got old left now u held h more) (text_of_none machine limits left u (held ++ more) none))

-- ---- where what a source will give is known

known_all : (known now : Option (List ℕ)) (calls : List Call) (P : List ℕ → Type 0) → Consumes known now (all_bytes calls) → (EndsWith (Some []) calls → IsAtEnd now) → OfConnection P calls → IfSome known P
known_all None now calls P consumed at_end of = tt
known_all (Some all) None calls P consumed at_end of = absurd consumed
known_all (Some all) (Some rest) calls P consumed at_end (inl each) = subst P (sym consumed) (each rest)
known_all (Some all) (Some rest) calls P consumed at_end (inr last) = subst P (sym (append-nil (all_bytes calls)) ∙ ap (λ l. all_bytes calls ++ l) (sym (at_end last.1)) ∙ sym consumed) last.0

if_some_weaker : {X : Type 0} (o : Option X) (P Q : X → Type 0) → ((x : X) → P x → Q x) → IfSome o P → IfSome o Q
if_some_weaker None P Q weaker is = tt
if_some_weaker (Some x) P Q weaker is = weaker x is

pub known_ok : {S : Type 0} {made_old made_new : List Call} (result : Result (Unit {0}) ServeFault) (machine : Machine S) (limits : Limits) (k : ℕ) (s : S) (known now : Option (List ℕ)) (calls : List Call) (met_fault : Bool) (old new : List ℕ) (t : S) → ReadsMade made_old made_new known now calls → EndsAs result machine limits k s calls met_fault old new t → OnOk result (IfSome known (λ all. Served machine limits k s all old new t))
known_ok (Ok x) machine limits k s known now calls met_fault old new t reads of = if_some_weaker known (λ bytes. ServedTo machine limits k s bytes met_fault old new t) _ (λ bytes served. served.0) (known_all known now calls _ reads.consumed reads.at_end of)
known_ok (Err fault) machine limits k s known now calls met_fault old new t reads of = tt

-- ---- how much was read

pub left_start : (limits : Limits) (k : ℕ) → RequestsPassed limits k [] k []
left_start limits k = record { requests = []; is = λ more. refl; fewer = omega arith }

pub left_fed : (limits : Limits) (k : ℕ) (got : List ℕ) (left : ℕ) (held piece : List ℕ) → RequestsPassed limits k got left held → RequestsPassed limits k (got ++ piece) left (held ++ piece)
left_fed limits k got left held piece at = record {
  requests = at.requests;
  is = λ more.
      subst (λ l. Past limits at.requests l ((held ++ piece) ++ more)) (sym (append_assoc got piece more))
      (subst (λ l. Past limits at.requests (got ++ (piece ++ more)) l) (sym (append_assoc held piece more)) (at.is (piece ++ more)));
  fewer = at.fewer;
}

-- one request more
past_more : (limits : Limits) (qs : List Message) (bytes rest : List ℕ) (q : Message) (n : ℕ) → Past limits qs bytes rest → IsFront limits rest (whole q n) → closes q ≡ false → Past limits (qs ++ q ∷ []) bytes (drop n rest)
past_more limits [] bytes rest q n past front going = (n, subst (λ l. IsFront limits l (whole q n)) past front, going, ap (drop n) past)
past_more limits (first ∷ qs) bytes rest q n (m, at, stays, past) front going = (m, at, stays, past_more limits qs (drop m bytes) rest q n past front going)

pub left_more : (limits : Limits) (k : ℕ) (got : List ℕ) (left : ℕ) (held : List ℕ) (q : Message) (n j : ℕ) → RequestsPassed limits k got left held → ((more : List ℕ) → IsFront limits (held ++ more) (whole q n)) → n ≤ length held → left ≡ suc j → closes q ≡ false → RequestsPassed limits k got j (drop n held)
left_more limits k got left held q n j at front inside fewer going = record {
  requests = at.requests ++ q ∷ [];
  is = λ more. subst (λ l. Past limits (at.requests ++ q ∷ []) (got ++ more) l) (drop-append-le n held more inside) (past_more limits at.requests (got ++ more) (held ++ more) q n (at.is more) (front more) going);
  fewer = let before = at.fewer in omega (arith, length-append at.requests (q ∷ []));
}

-- ---- the front of the room

pub shifted : (xs ys : List ℕ) (used filled : ℕ) → used ≤ filled → filled ≤ length xs → ys ≡ copy_within xs used filled 0 → take (filled - used) ys ≡ drop used (take filled xs)
shifted xs ys used filled order inside e =
    let n = filled - used in
    let P : ℕ → Type 0 = λ m. take m (copy_within xs used filled 0) ≡ take n (drop used xs) in
    let pasted = subst P (zero-add n) (take-paste xs 0 (drop used xs) n (omega arith) (omega (arith, length-drop used xs))) in
    let all : used + n ≡ filled = omega arith in
    ap (take n) e ∙ pasted ∙ sym (drop-take used n xs) ∙ ap (λ m. drop used (take m xs)) all
