-- What the loops keep, and the two stages of a connection: they say the same.
use Rattle.std.proofs.Common.{◌≡◌, ℕ, zero, suc, ◌+◌, ◌==◌, Bool, true, false, cond, ◌||◌, List, [], ◌∷◌, ◌++◌, drop, length, map, sym, refl, ap, subst, ◌∙◌, arith}
use Rattle.std.proofs.lemmas.Bool.{ne_eqb}
use Rattle.osb_frames.specs.declared.limits.Limits.{Limits}
use Rattle.osb_frames.specs.declared.step.StopKind.{StopKind}
use Rattle.osb_frames.specs.Cuts.{Message, closes, nothing, fault, whole, IsFront, End, ended, closed, stopped, EndsAt, Cuts}
use Rattle.osb_replies.specs.Text.{ReplyParts, reply_text}
use Rattle.osb_replies.specs.Parts.{refused}
use Rattle.osb_broker.specs.Machine.{Machine, Answered, reply_of, fault_reply}
use Rattle.osb_broker.specs.Connection.{end_replies, replies_of, AreMarks, looked_for, ConnectionText}
use Rattle.osb_broker.proofs.OneByOne.{TextTo, OneReply, GoesOn, ends, faults, answers, OneByOne, AfterRequests, FirstText, of_request, of_fault}
use Rattle.osb_broker.specs.Served.{FirstTexts}
use Rattle.osb_broker.specs.Serving.{Past, replies_unmarked}

-- nothing is cut behind the last that is looked for
pub goes_none : (limits : Limits) (c : Bool) (bytes : List ℕ) → Cuts limits (cond c 0 0) bytes [] closed
goes_none limits true bytes = (refl, refl)
goes_none limits false bytes = (refl, refl)

none_goes : (limits : Limits) (c : Bool) (bytes : List ℕ) (qs : List Message) (end : End) → Cuts limits (cond c 0 0) bytes qs end → (qs ≡ []) × (end ≡ closed)
none_goes limits true bytes qs end cut = cut
none_goes limits false bytes qs end cut = cut

-- after a reply that closes nothing is cut
goes_closed : (limits : Limits) (k : ℕ) (c : Bool) (bytes : List ℕ) → (c || (k == 0)) ≡ true → Cuts limits (cond c 0 (looked_for k [])) bytes [] closed
goes_closed limits k true bytes e = (refl, refl)
goes_closed limits zero false bytes e = (refl, refl)
goes_closed limits (suc k) false bytes e = let f : (suc k == 0) ≡ false = ne_eqb (suc k) 0 (omega arith) in let g : true ≡ false = sym e ∙ f in cc

-- no reply is left behind one that closes
no_replies : {S : Type 0} (machine : Machine S) (k : ℕ) (s : S) (marks : List Bool) → replies_of machine k s [] closed marks ≡ ([], s)
no_replies machine zero s marks = refl
no_replies machine (suc k) s marks = refl

module _ {S : Type 0} (machine : Machine S) (limits : Limits) where
  -- one request more in front of a connection that goes on
  pub in_front : (k : ℕ) (s : S) (bytes : List ℕ) (q : Message) (n : ℕ) (marks : List Bool) (texts : List (List ℕ)) (end : End) (t : S) → IsFront limits bytes (whole q n) → closes q ≡ false → TextTo machine limits k (machine.step s q).1 (drop n bytes) marks texts end t → TextTo machine limits (suc k) s bytes (false ∷ marks) (reply_text (reply_of q (k == 0) (machine.step s q).0) ∷ texts) end t
  in_front k s bytes q n marks texts end t front stays (more, is) = (
    record {
      requests = q ∷ more.requests;
      end = more.end;
      cut = (n, front, subst (λ c. Cuts limits (cond c 0 (looked_for k marks)) (drop n bytes) more.requests more.end) (sym stays) more.cut);
      marked = ((λ e. cc), more.marked);
      printed = ap (λ l. reply_text (reply_of q (k == 0) (machine.step s q).0) ∷ l) more.printed;
      leaves = more.leaves;
    },
    is,
  )

  -- a request whose reply closes
  pub alone : (k : ℕ) (s : S) (bytes : List ℕ) (q : Message) (n : ℕ) → IsFront limits bytes (whole q n) → (closes q || (k == 0)) ≡ true → TextTo machine limits (suc k) s bytes (false ∷ []) (reply_text (reply_of q (k == 0) (machine.step s q).0) ∷ []) closed (machine.step s q).1
  alone k s bytes q n front shut = (
    record {
      requests = q ∷ [];
      end = closed;
      cut = (n, front, goes_closed limits k (closes q) (drop n bytes) shut);
      marked = ((λ e. cc), tt);
      printed = ap (λ r. reply_text (reply_of q (k == 0) (machine.step s q).0) ∷ map reply_text r.0) (sym (no_replies machine k (machine.step s q).1 []));
      leaves = ap (λ r. r.1) (sym (no_replies machine k (machine.step s q).1 []));
    },
    refl,
  )

  -- a request that met a refusal
  pub met : (k : ℕ) (s : S) (bytes : List ℕ) (q : Message) (n : ℕ) → IsFront limits bytes (whole q n) → machine.takes_memory q ≡ true → TextTo machine limits (suc k) s bytes (true ∷ []) (reply_text refused ∷ []) closed s
  met k s bytes q n front takes = (
    record {
      requests = q ∷ [];
      end = closed;
      cut = (n, front, goes_none limits (closes q) (drop n bytes));
      marked = ((λ e. takes), tt);
      printed = refl;
      leaves = refl;
    },
    refl,
  )

  -- ---- where none is cut

  pub at_nothing : (k : ℕ) (s : S) (bytes : List ℕ) → IsFront limits bytes nothing → TextTo machine limits (suc k) s bytes [] [] ended s
  at_nothing k s bytes none = (record { requests = []; end = ended; cut = none; marked = tt; printed = refl; leaves = refl }, refl)

  pub text_of_nothing : (k : ℕ) (s : S) (bytes : List ℕ) → IsFront limits bytes nothing → ConnectionText machine limits (suc k) s bytes [] [] s
  text_of_nothing k s bytes none = (at_nothing k s bytes none).0

  pub at_stop : (k : ℕ) (s : S) (bytes : List ℕ) (f : StopKind) → IsFront limits bytes (fault f) → TextTo machine limits (suc k) s bytes [] (reply_text (fault_reply f) ∷ []) (stopped f) s
  at_stop k s bytes f at = (record { requests = []; end = stopped f; cut = at; marked = tt; printed = refl; leaves = refl }, refl)

  pub text_of_stop : (k : ℕ) (s : S) (bytes : List ℕ) (f : StopKind) → IsFront limits bytes (fault f) → ConnectionText machine limits (suc k) s bytes [] (reply_text (fault_reply f) ∷ []) s
  text_of_stop k s bytes f at = (at_stop k s bytes f at).0

  pub at_last : (s : S) (bytes : List ℕ) → TextTo machine limits 0 s bytes [] [] closed s
  at_last s bytes = (record { requests = []; end = closed; cut = (refl, refl); marked = tt; printed = refl; leaves = refl }, refl)

  -- ---- from the two stages to the loop

  no_marks : (marks : List Bool) → AreMarks machine [] marks → marks ≡ []
  no_marks [] are = refl
  no_marks (mark ∷ marks) are = absurd are

  -- the bytes of a connection of which no request is cut
  abbrev Ends : ℕ → S → List ℕ → List (List ℕ) → S → Type 0
  Ends k s bytes texts t = OneByOne machine limits (suc k) s bytes [] texts t

  at_end : (k : ℕ) (s : S) (bytes : List ℕ) (end : End) (texts : List (List ℕ)) (t : S) → EndsAt limits bytes end → texts ≡ map reply_text (end_replies end) → t ≡ s → Ends k s bytes texts t
  at_end k s bytes ended texts t at a b = ends at (refl, a, b)
  at_end k s bytes (stopped f) texts t at a b = faults f at refl a b
  at_end k s bytes closed texts t at a b = absurd at

  -- the replies of requests and an end that are none
  shut : (k : ℕ) (u : S) (qs : List Message) (end : End) (marks : List Bool) → qs ≡ [] → end ≡ closed → replies_of machine k u qs end marks ≡ ([], u)
  shut k u qs end marks none over = ap (λ l. replies_of machine k u l end marks) none ∙ ap (λ e. replies_of machine k u [] e marks) over ∙ no_replies machine k u marks

  -- after a request that isn't marked
  goes_on : (k : ℕ) (u : S) (later : List ℕ) (marks : List Bool) (t : S) (qs : List Message) (end : End) (c : Bool) → Cuts limits (cond c 0 (looked_for k marks)) later qs end → AreMarks machine qs marks → t ≡ (replies_of machine k u qs end marks).1 → (Cuts limits (looked_for k marks) later qs end → OneByOne machine limits k u later marks (map reply_text (replies_of machine k u qs end marks).0) t) → GoesOn (c || (k == 0)) (OneByOne machine limits k u later) u marks (map reply_text (replies_of machine k u qs end marks).0) t
  goes_on k u later marks t qs end true (none, over) are b more =
      let said = shut k u qs end marks none over in
      (no_marks marks (subst (λ l. AreMarks machine l marks) none are), ap (λ r. map reply_text r.0) said, b ∙ ap (λ r. r.1) said)
  goes_on zero u later marks t qs end false (none, over) are b more = (no_marks marks (subst (λ l. AreMarks machine l marks) none are), refl, b)
  goes_on (suc k) u later marks t qs end false cut are b more =
      subst (λ x. GoesOn x (OneByOne machine limits (suc k) u later) u marks (map reply_text (replies_of machine (suc k) u qs end marks).0) t) (sym (ne_eqb (suc k) 0 (omega arith))) (more cut)

  pub one_by_one : (k : ℕ) (s : S) (bytes : List ℕ) (marks : List Bool) (texts : List (List ℕ)) (t : S) → ConnectionText machine limits k s bytes marks texts t → OneByOne machine limits k s bytes marks texts t
  one_by_one k s bytes marks texts t x = go k s bytes marks texts t x.requests x.end x.cut x.marked x.printed x.leaves
    where
      go : (k : ℕ) (s : S) (bytes : List ℕ) (marks : List Bool) (texts : List (List ℕ)) (t : S) (qs : List Message) (end : End) → Cuts limits (looked_for k marks) bytes qs end → AreMarks machine qs marks → texts ≡ map reply_text (replies_of machine k s qs end marks).0 → t ≡ (replies_of machine k s qs end marks).1 → OneByOne machine limits k s bytes marks texts t
      go zero s bytes marks texts t qs end cut are a b = (no_marks marks (subst (λ l. AreMarks machine l marks) cut.0 are), a, b)
      go (suc k) s bytes [] texts t [] end cut are a b = at_end k s bytes end texts t cut a b
      go (suc k) s bytes [] texts t (q ∷ qs) end cut are a b = absurd are
      go (suc k) s bytes (mark ∷ marks) texts t [] end cut are a b = absurd are
      go (suc k) s bytes (true ∷ marks) texts t (q ∷ qs) end (n, at, goes) are a b =
          let rest : qs ≡ [] = (none_goes limits (closes q) (drop n bytes) qs end goes).0 in
          let none : marks ≡ [] = no_marks marks (subst (λ l. AreMarks machine l marks) rest are.1) in
          answers true (reply_text refused) true s (drop n bytes) [] []
          (record { q = q; n = n; front = at; fewer = refl; reply = refused; answered = (are.0 refl, refl, refl); says = refl; closed = refl; after = refl })
          (ap (λ l. true ∷ l) none) a (refl, refl, b)
      go (suc k) s bytes (false ∷ marks) texts t (q ∷ qs) end (n, at, goes) are a b =
          let u : S = (machine.step s q).1 in
          let reply : ReplyParts = reply_of q (k == 0) (machine.step s q).0 in
          let ta : List (List ℕ) = map reply_text (replies_of machine k u qs end marks).0 in
          answers false (reply_text reply) reply.close u (drop n bytes) marks ta
          (record { q = q; n = n; front = at; fewer = refl; reply = reply; answered = (refl, refl); says = refl; closed = refl; after = refl })
          refl a (goes_on k u (drop n bytes) marks t qs end (closes q) goes are.1 b (λ cut. go k u (drop n bytes) marks ta t qs end cut are.1 refl b))

  -- a request whose reply leaves the connection open leaves it open too
  pub stays_open : {k : ℕ} {s u : S} {bytes later text : List ℕ} {j : ℕ} → (one : OneReply machine limits k s bytes false text false j u later) → closes one.q ≡ false
  stays_open {j = j} one = by (closes one.q) (sym (ap (λ (r : ReplyParts). r.close) one.answered.0) ∙ one.closed)
    where
      by : (c : Bool) → (c || (j == 0)) ≡ false → c ≡ false
      by true e = cc
      by false e = refl

  -- ---- the first texts

  -- one text behind others
  pub first_texts : (k : ℕ) (s : S) (bytes : List ℕ) (xs : List (List ℕ)) (left j : ℕ) (u : S) (rest text : List ℕ) (t : S) → AfterRequests machine limits k s bytes xs left u rest → left ≡ suc j → FirstText machine limits left u rest text t → FirstTexts machine limits k s bytes (xs ++ text ∷ []) t
  first_texts k s bytes [] left j u rest text t (a, b, c) e first =
      subst (λ x. FirstTexts machine limits x s bytes (text ∷ []) t) (sym e ∙ a)
      (subst (λ w. FirstTexts machine limits (suc j) w bytes (text ∷ []) t) b
      (subst (λ l. FirstTexts machine limits (suc j) u l (text ∷ []) t) c
      (here (subst (λ x. FirstText machine limits x u rest text t) e first))))
    where
      here : FirstText machine limits (suc j) u rest text t → FirstTexts machine limits (suc j) u rest (text ∷ []) t
      here (of_fault f at says stays) = record { most = 1; fewer = omega arith; marks = []; requests = []; end = stopped f; cut = at; marked = tt; printed = ap (λ x. x ∷ []) says; leaves = stays }
      here (of_request true close i later one) = record {
        most = 1;
        fewer = omega arith;
        marks = true ∷ [];
        requests = one.q ∷ [];
        end = closed;
        cut = (one.n, one.front, goes_none limits (closes one.q) (drop one.n rest));
        marked = ((λ e. one.answered.0), tt);
        printed = ap (λ x. x ∷ []) (one.says ∙ ap reply_text one.answered.1);
        leaves = one.answered.2;
      }
      here (of_request false close i later one) =
          let last : j ≡ i = cc in
          let none = no_replies machine j (machine.step u one.q).1 [] in
          record {
            most = 1;
            fewer = omega arith;
            marks = false ∷ [];
            requests = one.q ∷ [];
            end = closed;
            cut = (one.n, one.front, goes_none limits (closes one.q) (drop one.n rest));
            marked = ((λ e. cc), tt);
            printed = ap (λ x. x ∷ []) (one.says ∙ ap reply_text (one.answered.0 ∙ ap (λ x. reply_of one.q (x == 0) (machine.step u one.q).0) (sym last)))
                ∙ ap (λ r. reply_text (reply_of one.q (j == 0) (machine.step u one.q).0) ∷ map reply_text r.0) (sym none);
            leaves = one.answered.1 ∙ ap (λ r. r.1) (sym none);
          }
  first_texts k s bytes (x ∷ xs) left j u rest text t (i, v, later, one, reached) e first =
      subst (λ m. FirstTexts machine limits m s bytes (x ∷ (xs ++ text ∷ [])) t) (sym one.fewer) (before (first_texts i v later xs left j u rest text t reached e first))
    where
      before : FirstTexts machine limits i v later (xs ++ text ∷ []) t → FirstTexts machine limits (suc i) s bytes (x ∷ (xs ++ text ∷ [])) t
      before more =
          let stays = stays_open one in
          let cut : Cuts limits (looked_for more.most more.marks) (drop one.n bytes) more.requests more.end = subst (λ l. Cuts limits (looked_for more.most more.marks) l more.requests more.end) one.after more.cut in
          record {
            most = suc more.most;
            fewer = let below = more.fewer in omega arith;
            marks = false ∷ more.marks;
            requests = one.q ∷ more.requests;
            end = more.end;
            cut = (one.n, one.front, subst (λ c. Cuts limits (cond c 0 (looked_for more.most more.marks)) (drop one.n bytes) more.requests more.end) (sym stays) cut);
            marked = ((λ e. cc), more.marked);
            printed = ap (λ l. x ∷ l) more.printed ∙ ap (λ l. l ∷ map reply_text (replies_of machine i v more.requests more.end more.marks).0) (one.says ∙ ap reply_text one.answered.0)
                ∙ ap (λ w. reply_text (reply_of one.q (i == 0) (machine.step s one.q).0) ∷ map reply_text (replies_of machine i w more.requests more.end more.marks).0) one.answered.1;
            leaves = more.leaves ∙ ap (λ w. (replies_of machine i w more.requests more.end more.marks).1) one.answered.1;
          }

  -- ---- the requests that were passed

  abbrev pub Passed : ℕ → S → List ℕ → List (List ℕ) → ℕ → S → List ℕ → Type 0
  Passed k s bytes xs left u rest =
      (requests : List Message) × Past limits requests bytes rest × (left + length requests ≡ k) × (xs ≡ map reply_text (replies_unmarked machine k s requests).0) × (u ≡ (replies_unmarked machine k s requests).1)

  no_requests : (k : ℕ) (s : S) → replies_unmarked machine k s [] ≡ ([], s)
  no_requests zero s = refl
  no_requests (suc k) s = refl

  pub passed : (k : ℕ) (s : S) (bytes : List ℕ) (xs : List (List ℕ)) (left : ℕ) (u : S) (rest : List ℕ) → AfterRequests machine limits k s bytes xs left u rest → Passed k s bytes xs left u rest
  passed k s bytes [] left u rest (a, b, c) = ([], c, omega (arith, a), ap (λ r. map reply_text r.0) (sym (no_requests k s)), b ∙ ap (λ r. r.1) (sym (no_requests k s)))
  passed k s bytes (x ∷ xs) left u rest (i, v, later, one, reached) =
      subst (λ m. Passed m s bytes (x ∷ xs) left u rest) (sym one.fewer) (before (passed i v later xs left u rest reached))
    where
      before : Passed i v later xs left u rest → Passed (suc i) s bytes (x ∷ xs) left u rest
      before (requests, past, fewer, says, stays) = (
        one.q ∷ requests,
        (one.n, one.front, stays_open one, subst (λ l. Past limits requests l rest) one.after past),
        omega (arith, fewer),
        ap (λ l. x ∷ l) says ∙ ap (λ l. l ∷ map reply_text (replies_unmarked machine i v requests).0) (one.says ∙ ap reply_text one.answered.0)
            ∙ ap (λ w. reply_text (reply_of one.q (i == 0) (machine.step s one.q).0) ∷ map reply_text (replies_unmarked machine i w requests).0) one.answered.1,
        stays ∙ ap (λ w. (replies_unmarked machine i w requests).1) one.answered.1,
      )

  -- ---- one request

  pub text_of_request : (s : S) (bytes : List ℕ) (q : Message) (n : ℕ) (mark : Bool) (reply : ReplyParts) (t : S) → IsFront limits bytes (whole q n) → Answered machine q true mark s reply t → ConnectionText machine limits 1 s bytes (mark ∷ []) (reply_text reply ∷ []) t
  text_of_request s bytes q n true reply t front (takes, is, same) = rw (is, same) (met 0 s bytes q n front takes).0
  text_of_request s bytes q n false reply t front (is, same) = rw (is, same) (alone 0 s bytes q n front (closes_or (closes q))).0
    where
      closes_or : (c : Bool) → (c || true) ≡ true
      closes_or true = refl
      closes_or false = refl
