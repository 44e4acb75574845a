-- A connection's texts, one after another.
use Rattle.std.proofs.Common.{◌≡◌, ℕ, suc, ◌≤◌, ◌==◌, Bool, true, false, List, [], ◌∷◌, ◌++◌, length, take, drop, sym, refl, ap, subst, ◌∙◌}
use Rattle.std.specs.List.{concat}
use Rattle.std.proofs.lemmas.List.{append_assoc, append-nil}
use Rattle.std.proofs.lemmas.List.Folds.{concat-append}
use Rattle.osb_frames.specs.declared.limits.Limits.{Limits}
use Rattle.osb_frames.specs.declared.step.StopKind.{StopKind}
use Rattle.osb_frames.specs.Cuts.{Message, End, ended, closed, stopped, fault, IsFront, empty}
use Rattle.osb_replies.specs.Parts.{refused}
use Rattle.osb_replies.specs.Text.{ReplyParts, reply_text}
use Rattle.osb_broker.specs.Machine.{Machine, Answered, fault_reply, reply_of}
use Rattle.osb_broker.proofs.OneByOne.{TextTo, OneReply, AfterRequests, FirstText, WrittenSoFar}
use Rattle.osb_broker.specs.Served.{Served, BrokenOff}
use Rattle.osb_broker.proofs.OneByOneLemmas.{alone, at_last, at_nothing, at_stop, first_texts, in_front, met, stays_open}

-- no marks
abbrev pub unmarked : List (List ℕ) → List Bool → List Bool
unmarked [] marks = marks
unmarked (text ∷ texts) marks = false ∷ unmarked texts marks

-- what answers the rest completes the whole
pub after_text : {S : Type 0} (machine : Machine S) (limits : Limits) (k : ℕ) (s : S) (bytes : List ℕ) (xs : List (List ℕ)) (left : ℕ) (u : S) (rest : List ℕ) (marks : List Bool) (ys : List (List ℕ)) (end : End) (t : S) → AfterRequests machine limits k s bytes xs left u rest → TextTo machine limits left u rest marks ys end t → TextTo machine limits k s bytes (unmarked xs marks) (xs ++ ys) end t
after_text machine limits k s bytes [] left u rest marks ys end t reached last =
    subst (λ l. TextTo machine limits k s l marks ys end t) reached.2
    (subst (λ v. TextTo machine limits k v rest marks ys end t) reached.1
    (subst (λ m. TextTo machine limits m u rest marks ys end t) reached.0 last))
after_text {S} machine limits k s bytes (x ∷ xs) left u rest marks ys end t (j, v, later, one, reached) last =
    let more = after_text machine limits j v later xs left u rest marks ys end t reached last in
    let next : S = (machine.step s one.q).1 in
    let moved : TextTo machine limits j next (drop one.n bytes) (unmarked xs marks) (xs ++ ys) end t =
    subst (λ l. TextTo machine limits j next l (unmarked xs marks) (xs ++ ys) end t) one.after
    (subst (λ w. TextTo machine limits j w later (unmarked xs marks) (xs ++ ys) end t) one.answered.1 more) in
    subst (λ m. TextTo machine limits m s bytes (false ∷ unmarked xs marks) (x ∷ (xs ++ ys)) end t) (sym one.fewer)
    (subst (λ y. TextTo machine limits (suc j) s bytes (false ∷ unmarked xs marks) (y ∷ (xs ++ ys)) end t) (sym (one.says ∙ ap reply_text one.answered.0))
    (in_front machine limits j s bytes one.q one.n (unmarked xs marks) (xs ++ ys) end t one.front (stays_open machine limits one) moved))

-- one request more
pub after_more : {S : Type 0} (machine : Machine S) (limits : Limits) (k : ℕ) (s : S) (bytes : List ℕ) (xs : List (List ℕ)) (left : ℕ) (u : S) (rest text : List ℕ) (j : ℕ) (v : S) (later : List ℕ) → AfterRequests machine limits k s bytes xs left u rest → OneReply machine limits left u rest false text false j v later → AfterRequests machine limits k s bytes (xs ++ text ∷ []) j v later
after_more machine limits k s bytes [] left u rest text j v later reached one = (
  j,
  v,
  later,
  subst (λ l. OneReply machine limits k s l false text false j v later) reached.2
      (subst (λ w. OneReply machine limits k w rest false text false j v later) reached.1
      (subst (λ m. OneReply machine limits m u rest false text false j v later) reached.0 one)),
  (refl, refl, refl),
)
after_more machine limits k s bytes (x ∷ xs) left u rest text j v later (i, w, mid, first, reached) one =
    (i, w, mid, first, after_more machine limits i w mid xs left u rest text j v later reached one)

concat_one : (text : List ℕ) → concat (text ∷ []) ≡ text
concat_one text = append-nil text

pub concat_more : (old now new : List ℕ) (xs : List (List ℕ)) (text : List ℕ) → now ≡ old ++ concat xs → new ≡ now ++ text → new ≡ old ++ concat (xs ++ text ∷ [])
concat_more old now new xs text e f =
    f ∙ ap (λ l. l ++ text) e ∙ append_assoc old (concat xs) text
    ∙ ap (λ l. old ++ l) (ap (λ l. concat xs ++ l) (sym (concat_one text)) ∙ sym (concat-append xs (text ∷ [])))

-- what was written is the texts of the connection, whose requests ended so
abbrev pub ServedWith : {S : Type 0} → Machine S → Limits → ℕ → S → List ℕ → End → List ℕ → List ℕ → S → Type 0
ServedWith machine limits k s bytes end old new t = (served : Served machine limits k s bytes old new t) × (served.is.end ≡ end)

-- the rest has no text
pub served_silent : {S : Type 0} (machine : Machine S) (limits : Limits) (k : ℕ) (s : S) (bytes old : List ℕ) (left : ℕ) (now : List ℕ) (u : S) (rest : List ℕ) (end : End) → WrittenSoFar machine limits k s bytes old left now u rest → TextTo machine limits left u rest [] [] end u → ServedWith machine limits k s bytes end old now u
served_silent machine limits k s bytes old left now u rest end reached last =
    let it = after_text machine limits k s bytes reached.texts left u rest [] [] end u reached.is last in (
      record {
        marks = unmarked reached.texts [];
        texts = reached.texts ++ [];
        is = it.0;
        written = reached.written ∙ ap (λ l. old ++ concat l) (sym (append-nil reached.texts));
      },
      it.1,
    )

-- the rest has one text
pub served_text : {S : Type 0} (machine : Machine S) (limits : Limits) (k : ℕ) (s : S) (bytes old : List ℕ) (left : ℕ) (now : List ℕ) (u : S) (rest : List ℕ) (marks : List Bool) (text : List ℕ) (end : End) (t : S) (new : List ℕ) → WrittenSoFar machine limits k s bytes old left now u rest → TextTo machine limits left u rest marks (text ∷ []) end t → new ≡ now ++ text → ServedWith machine limits k s bytes end old new t
served_text machine limits k s bytes old left now u rest marks text end t new reached last wrote =
    let it = after_text machine limits k s bytes reached.texts left u rest marks (text ∷ []) end t reached.is last in (
      record {
        marks = unmarked reached.texts marks;
        texts = reached.texts ++ text ∷ [];
        is = it.0;
        written = concat_more old now new reached.texts text reached.written wrote;
      },
      it.1,
    )

-- one reply that closes is the text
pub text_of_last : {S : Type 0} (machine : Machine S) (limits : Limits) (left : ℕ) (u : S) (rest : List ℕ) (mark : Bool) (text : List ℕ) (j : ℕ) (v : S) (later : List ℕ) → OneReply machine limits left u rest mark text true j v later → TextTo machine limits left u rest (mark ∷ []) (text ∷ []) closed v
text_of_last machine limits left u rest true text j v later one =
    subst (λ m. TextTo machine limits m u rest (true ∷ []) (text ∷ []) closed v) (sym one.fewer)
    (subst (λ y. TextTo machine limits (suc j) u rest (true ∷ []) (y ∷ []) closed v) (sym (one.says ∙ ap reply_text one.answered.1))
    (subst (λ w. TextTo machine limits (suc j) u rest (true ∷ []) (reply_text refused ∷ []) closed w) (sym one.answered.2)
    (met machine limits j u rest one.q one.n one.front one.answered.0)))
text_of_last machine limits left u rest false text j v later one =
    let reply = reply_of one.q (j == 0) (machine.step u one.q).0 in
    subst (λ m. TextTo machine limits m u rest (false ∷ []) (text ∷ []) closed v) (sym one.fewer)
    (subst (λ y. TextTo machine limits (suc j) u rest (false ∷ []) (y ∷ []) closed v) (sym (one.says ∙ ap reply_text one.answered.0))
    (subst (λ w. TextTo machine limits (suc j) u rest (false ∷ []) (reply_text reply ∷ []) closed w) (sym one.answered.1)
    (alone machine limits j u rest one.q one.n one.front (sym (ap (λ (r : ReplyParts). r.close) one.answered.0) ∙ one.closed))))

pub text_of_fault : {S : Type 0} (machine : Machine S) (limits : Limits) (left j : ℕ) (u : S) (rest : List ℕ) (f : StopKind) → left ≡ suc j → IsFront limits rest (fault f) → TextTo machine limits left u rest [] (reply_text (fault_reply f) ∷ []) (stopped f) u
text_of_fault machine limits left j u rest f e at =
    subst (λ m. TextTo machine limits m u rest [] (reply_text (fault_reply f) ∷ []) (stopped f) u) (sym e) (at_stop machine limits j u rest f at)

pub text_of_end : {S : Type 0} (machine : Machine S) (limits : Limits) (left j : ℕ) (u : S) (rest : List ℕ) → left ≡ suc j → rest ≡ [] → TextTo machine limits left u rest [] [] ended u
text_of_end machine limits left j u rest e none =
    subst (λ m. TextTo machine limits m u rest [] [] ended u) (sym e) (at_nothing machine limits j u rest (empty none refl))

pub text_of_none : {S : Type 0} (machine : Machine S) (limits : Limits) (left : ℕ) (u : S) (rest : List ℕ) → left ≡ 0 → TextTo machine limits left u rest [] [] closed u
text_of_none machine limits left u rest e =
    subst (λ m. TextTo machine limits m u rest [] [] closed u) (sym e) (at_last machine limits u rest)

pub broken : {S : Type 0} (machine : Machine S) (limits : Limits) (k : ℕ) (s : S) (bytes old : List ℕ) (left j : ℕ) (now : List ℕ) (u : S) (rest : List ℕ) (text : List ℕ) (t : S) (n : ℕ) (new : List ℕ) → WrittenSoFar machine limits k s bytes old left now u rest → left ≡ suc j → FirstText machine limits left u rest text t → n ≤ length text → new ≡ now ++ take n text → BrokenOff machine limits k s bytes old new t
broken machine limits k s bytes old left j now u rest text t n new reached fewer first inside wrote = record {
  texts = reached.texts;
  text = text;
  is = first_texts machine limits k s bytes reached.texts left j u rest text t reached.is fewer first;
  count = n;
  inside = inside;
  written = wrote ∙ ap (λ l. l ++ take n text) reached.written ∙ append_assoc old _ _;
}

-- a reply that doesn't close isn't marked
pub not_marked : {S : Type 0} (machine : Machine S) (mark : Bool) (q : Message) (last : Bool) (s : S) (reply : ReplyParts) (t : S) → Answered machine q last mark s reply t → reply.close ≡ false → Answered machine q last false s reply t
not_marked machine false q last s reply t m e = m
not_marked machine true q last s reply t m e = let f : reply.close ≡ true = ap (λ r. r.close) m.1 in let g : true ≡ false = sym f ∙ e in cc

-- nothing was answered yet
pub reached_start : {S : Type 0} (machine : Machine S) (limits : Limits) (k : ℕ) (s : S) (bytes old : List ℕ) → WrittenSoFar machine limits k s bytes old k old s bytes
reached_start machine limits k s bytes old = record { texts = []; is = (refl, refl, refl); written = sym (append-nil old) }
