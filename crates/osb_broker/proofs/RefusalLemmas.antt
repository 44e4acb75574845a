-- An output shows its marks, where no answer but a refusal says 500.
use Rattle.std.proofs.Common.{◌≡◌, ℕ, zero, suc, ◌==◌, Bool, true, false, List, [], ◌∷◌, ◌++◌, drop, take, map, length, Option, sym, refl, ap, subst, ◌∙◌}
use Rattle.std.specs.List.{concat}
use Rattle.std.proofs.lemmas.List.{append-nil, append_cancel_left}
use Rattle.std.specs.Fmt.{digits}
use Rattle.osb_frames.specs.declared.limits.Limits.{Limits}
use Rattle.osb_frames.specs.Cuts.{Message, nothing, fault, whole}
use Rattle.osb_frames.proofs.FrontLemmas.{front_unique}
use Rattle.osb_replies.specs.declared.status.Status.{Status}
use Rattle.osb_replies.specs.declared.status.Status.TheVariants as the
use Rattle.osb_replies.specs.Text.{ReplyParts, reply_text}
use Rattle.osb_laws.specs.Failures.{is_500}
use Rattle.osb_broker.specs.Machine.{Machine, Answered, fault_reply}
use Rattle.osb_broker.specs.Connection.{ConnectionText, Run}
use Rattle.osb_broker.proofs.OneByOne.{OneReply, Done, GoesOn, ends, faults, answers, OneByOne}
use Rattle.osb_broker.specs.Refusals.{NeverFails, says_500}
use Rattle.osb_broker.proofs.OneByOneLemmas.{one_by_one}

-- the status of a reply stands in its first line
shown : (status : Status) (body : List ℕ) (echo : Option (List ℕ)) (close : Bool) (rest : List ℕ) → says_500 (reply_text (record { status = status; body = body; echo = echo; close = close }) ++ rest) ≡ is_500 status
unfolding reply_text digits
shown the.Ok body echo close rest = refl
shown the.Created body echo close rest = refl
shown the.Accepted body echo close rest = refl
shown the.BadRequest body echo close rest = refl
shown the.Unauthorized body echo close rest = refl
shown the.NotFound body echo close rest = refl
shown the.Conflict body echo close rest = refl
shown the.Gone body echo close rest = refl
shown the.LengthRequired body echo close rest = refl
shown the.PreconditionFailed body echo close rest = refl
shown the.PayloadTooLarge body echo close rest = refl
shown the.UnprocessableEntity body echo close rest = refl
shown the.InternalServerError body echo close rest = refl

reply_shown : (reply : ReplyParts) (rest : List ℕ) → says_500 (reply_text reply ++ rest) ≡ is_500 reply.status
reply_shown reply rest = shown reply.status reply.body reply.echo reply.close rest

-- a request is marked exactly where its reply is a 500
mark_is : {S : Type 0} (machine : Machine S) → NeverFails machine → (q : Message) (last mark : Bool) (s : S) (reply : ReplyParts) (t : S) → Answered machine q last mark s reply t → is_500 reply.status ≡ mark
mark_is machine never q last true s reply t answered = ap (λ (r : ReplyParts). is_500 r.status) answered.1
mark_is machine never q last false s reply t answered = ap (λ (r : ReplyParts). is_500 r.status) answered.0 ∙ never s q

module _ {S : Type 0} (machine : Machine S) (never : NeverFails machine) (limits : Limits) where
  text_is : (k : ℕ) (s : S) (bytes : List ℕ) (mark : Bool) (text : List ℕ) (close : Bool) (j : ℕ) (u : S) (later rest : List ℕ) → OneReply machine limits k s bytes mark text close j u later → says_500 (text ++ rest) ≡ mark
  text_is k s bytes mark text close j u later rest one =
      ap (λ l. says_500 (l ++ rest)) one.says ∙ reply_shown one.reply rest ∙ mark_is machine never one.q (j == 0) mark s one.reply u one.answered

  after_shows : (more : List Bool → List (List ℕ) → S → Type 0) (close : Bool) (u : S) (marks : List Bool) (texts : List (List ℕ)) (t : S) → (more marks texts t → marks ≡ take (length marks) (map says_500 texts)) → GoesOn close more u marks texts t → marks ≡ take (length marks) (map says_500 texts)
  after_shows more true u marks texts t show done = subst (λ m. m ≡ take (length m) (map says_500 texts)) (sym done.0) refl
  after_shows more false u marks texts t show goes = show goes

  shows_marks : (k : ℕ) (s : S) (bytes : List ℕ) (marks : List Bool) (texts : List (List ℕ)) (t : S) → OneByOne machine limits k s bytes marks texts t → marks ≡ take (length marks) (map says_500 texts)
  shows_marks zero s bytes marks texts t done = subst (λ m. m ≡ take (length m) (map says_500 texts)) (sym done.0) refl
  shows_marks (suc k) s bytes marks texts t (ends none done) = subst (λ m. m ≡ take (length m) (map says_500 texts)) (sym done.0) refl
  shows_marks (suc k) s bytes marks texts t (faults f at none again stays) = subst (λ m. m ≡ take (length m) (map says_500 texts)) (sym none) refl
  shows_marks (suc k) s bytes marks texts t (answers mark text close u later ma ta one em ex goes) =
      let first : mark ≡ says_500 text = sym (ap says_500 (sym (append-nil text)) ∙ text_is (suc k) s bytes mark text close k u later [] one) in
      let rest : ma ≡ take (length ma) (map says_500 ta) = after_shows (OneByOne machine limits k u later) close u ma ta t (λ more. shows_marks k u later ma ta t more) goes in
      subst (λ m. m ≡ take (length m) (map says_500 texts)) (sym em)
      (subst (λ l. mark ∷ ma ≡ take (length (mark ∷ ma)) (map says_500 l)) (sym ex)
      (ap (λ b. b ∷ ma) first ∙ ap (λ m. says_500 text ∷ m) rest))

  pub marks_show : (k : ℕ) (s : S) (bytes : List ℕ) (marks : List Bool) (texts : List (List ℕ)) (t : S) → ConnectionText machine limits k s bytes marks texts t → marks ≡ take (length marks) (map says_500 texts)
  marks_show k s bytes marks texts t text = shows_marks k s bytes marks texts t (one_by_one machine limits k s bytes marks texts t text)

  -- ---- two readings of one output

  record Same (marks others : List Bool) (texts again : List (List ℕ)) (t u : S) : Type 0 where
    marks_are : marks ≡ others
    texts_are : texts ≡ again
    state_is : t ≡ u

  same_done : (marks others : List Bool) (texts again : List (List ℕ)) (s t u : S) → Done s marks texts t → Done s others again u → Same marks others texts again t u
  same_done marks others texts again s t u a b = record { marks_are = a.0 ∙ sym b.0; texts_are = a.1 ∙ sym b.1; state_is = a.2 ∙ sym b.2 }

  -- two answers to one request, with the same mark
  same_answer : (q : Message) (last mark : Bool) (s : S) (a b : ReplyParts) (t u : S) → Answered machine q last mark s a t → Answered machine q last mark s b u → (a ≡ b) × (t ≡ u)
  same_answer q last true s a b t u x y = (x.1 ∙ sym y.1, x.2 ∙ sym y.2)
  same_answer q last false s a b t u x y = (x.0 ∙ sym y.0, x.1 ∙ sym y.1)

  record SameOne (mark other : Bool) (text said : List ℕ) (close shut : Bool) (u v : S) (later after : List ℕ) : Type 0 where
    mark_is : mark ≡ other
    text_is : text ≡ said
    close_is : close ≡ shut
    state_is : u ≡ v
    later_is : later ≡ after

  same_one : (k j : ℕ) (s : S) (bytes : List ℕ) (mark other : Bool) (text said : List ℕ) (close shut : Bool) (u v : S) (later after rest more : List ℕ) → OneReply machine limits k s bytes mark text close j u later → OneReply machine limits k s bytes other said shut j v after → text ++ rest ≡ said ++ more → SameOne mark other text said close shut u v later after
  same_one k j s bytes mark other text said close shut u v later after rest more one two e =
      let here : whole one.q one.n ≡ whole two.q two.n = front_unique limits bytes (whole one.q one.n) (whole two.q two.n) one.front two.front in
      let q : one.q ≡ two.q = cc in
      let n : one.n ≡ two.n = cc in
      let m : mark ≡ other = sym (text_is k s bytes mark text close j u later rest one) ∙ ap says_500 e ∙ text_is k s bytes other said shut j v after more two in
      let both : (one.reply ≡ two.reply) × (u ≡ v) = same_answer two.q (j == 0) other s one.reply two.reply u v
      (subst (λ x. Answered machine x (j == 0) other s one.reply u) q (subst (λ x. Answered machine one.q (j == 0) x s one.reply u) m one.answered)) two.answered in
      record {
        mark_is = m;
        text_is = one.says ∙ ap reply_text both.0 ∙ sym two.says;
        close_is = sym one.closed ∙ ap (λ (r : ReplyParts). r.close) both.0 ∙ two.closed;
        state_is = both.1;
        later_is = one.after ∙ ap (λ x. drop x bytes) n ∙ sym two.after;
      }

  after_same : (more other : List Bool → List (List ℕ) → S → Type 0) (close : Bool) (u : S) (marks others : List Bool) (texts again : List (List ℕ)) (t v : S) → (more marks texts t → other others again v → Same marks others texts again t v) → GoesOn close more u marks texts t → GoesOn close other u others again v → Same marks others texts again t v
  after_same more other true u marks others texts again t v same a b = same_done marks others texts again u t v a b
  after_same more other false u marks others texts again t v same a b = same a b

  one_reading : (k : ℕ) (s : S) (bytes : List ℕ) (marks others : List Bool) (texts again : List (List ℕ)) (t u : S) → OneByOne machine limits k s bytes marks texts t → OneByOne machine limits k s bytes others again u → concat texts ≡ concat again → Same marks others texts again t u
  one_reading zero s bytes marks others texts again t u a b e = same_done marks others texts again s t u a b
  one_reading (suc k) s bytes marks others texts again t u (ends none a) (ends gone b) e = same_done marks others texts again s t u a b
  one_reading (suc k) s bytes marks others texts again t u (ends none a) (faults f at b c d) e = let x = front_unique limits bytes nothing (fault f) none at in cc
  one_reading (suc k) s bytes marks others texts again t u (ends none a) (answers mark text close v later ma ta one em ex goes) e = let x = front_unique limits bytes nothing (whole one.q one.n) none one.front in cc
  one_reading (suc k) s bytes marks others texts again t u (faults f at b c d) (ends none a) e = let x = front_unique limits bytes nothing (fault f) none at in cc
  one_reading (suc k) s bytes marks others texts again t u (faults f at b c d) (faults g on x y z) e =
      let here = front_unique limits bytes (fault f) (fault g) at on in
      let same : f ≡ g = cc in
      record { marks_are = b ∙ sym x; texts_are = c ∙ ap (λ h. reply_text (fault_reply h) ∷ []) same ∙ sym y; state_is = d ∙ sym z }
  one_reading (suc k) s bytes marks others texts again t u (faults f at b c d) (answers mark text close v later ma ta one em ex goes) e = let x = front_unique limits bytes (fault f) (whole one.q one.n) at one.front in cc
  one_reading (suc k) s bytes marks others texts again t u (answers mark text close v later ma ta one em ex goes) (ends none a) e = let x = front_unique limits bytes nothing (whole one.q one.n) none one.front in cc
  one_reading (suc k) s bytes marks others texts again t u (answers mark text close v later ma ta one em ex goes) (faults f at b c d) e = let x = front_unique limits bytes (fault f) (whole one.q one.n) at one.front in cc
  one_reading (suc k) s bytes marks others texts again t u (answers mark text close v later ma ta one em ex goes) (answers other said shut w after mb tb two fm fx gone) e =
      let all : text ++ concat ta ≡ said ++ concat tb = sym (ap concat ex) ∙ e ∙ ap concat fx in
      let here = same_one (suc k) k s bytes mark other text said close shut v w later after (concat ta) (concat tb) one two all in
      let rest : concat ta ≡ concat tb = append_cancel_left said (concat ta) (concat tb) (ap (λ x. x ++ concat ta) (sym here.text_is) ∙ all) in
      let moved : GoesOn shut (OneByOne machine limits k w after) w ma ta t =
      subst (λ x. GoesOn x (OneByOne machine limits k w after) w ma ta t) here.close_is
      (subst (λ x. GoesOn close (OneByOne machine limits k w x) w ma ta t) here.later_is
      (subst (λ x. GoesOn close (OneByOne machine limits k x later) x ma ta t) here.state_is goes)) in
      let then = after_same (OneByOne machine limits k w after) (OneByOne machine limits k w after) shut w ma mb ta tb t u (λ a b. one_reading k w after ma mb ta tb t u a b rest) moved gone in
      record {
        marks_are = em ∙ ap (λ x. x ∷ ma) here.mark_is ∙ ap (λ l. other ∷ l) then.marks_are ∙ sym fm;
        texts_are = ex ∙ ap (λ x. x ∷ ta) here.text_is ∙ ap (λ l. said ∷ l) then.texts_are ∙ sym fx;
        state_is = then.state_is;
      }

  pub shows_all : (k : ℕ) (s : S) (bytes : List ℕ) (marks others : List Bool) (texts again : List (List ℕ)) (t u : S) → ConnectionText machine limits k s bytes marks texts t → ConnectionText machine limits k s bytes others again u → concat texts ≡ concat again → (marks ≡ others) × (texts ≡ again) × (t ≡ u)
  shows_all k s bytes marks others texts again t u a b e = let same = one_reading k s bytes marks others texts again t u (one_by_one machine limits k s bytes marks texts t a) (one_by_one machine limits k s bytes others again u b) e in (same.marks_are, same.texts_are, same.state_is)

  pub run_shows : (k : ℕ) (s : S) (connections : List (List ℕ)) (marks others : List (List Bool)) (texts again : List (List (List ℕ))) (t u : S) → Run machine limits k s connections marks texts t → Run machine limits k s connections others again u → map concat texts ≡ map concat again → (marks ≡ others) × (texts ≡ again) × (t ≡ u)
  run_shows k s [] [] [] [] [] t u a b e = (refl, refl, a ∙ sym b)
  run_shows k s [] [] [] [] (y ∷ ys) t u a b e = absurd b
  run_shows k s [] [] (o ∷ os) [] again t u a b e = absurd b
  run_shows k s [] [] others (x ∷ xs) again t u a b e = absurd a
  run_shows k s [] (m ∷ ms) others texts again t u a b e = absurd a
  run_shows k s (c ∷ cs) [] others texts again t u a b e = absurd a
  run_shows k s (c ∷ cs) (m ∷ ms) others [] again t u a b e = absurd a
  run_shows k s (c ∷ cs) (m ∷ ms) [] (x ∷ xs) again t u a b e = absurd b
  run_shows k s (c ∷ cs) (m ∷ ms) (o ∷ os) (x ∷ xs) [] t u a b e = absurd b
  run_shows k s (c ∷ cs) (m ∷ ms) (o ∷ os) (x ∷ xs) (y ∷ ys) t u (v, here, later) (w, there, after) e =
      let first : concat x ≡ concat y = cc in
      let rest : map concat xs ≡ map concat ys = cc in
      let one = shows_all k s c m o x y v w here there first in
      let more = run_shows k w cs ms os xs ys t u (subst (λ z. Run machine limits k z cs ms xs t) one.2 later) after rest in
      (ap (λ z. z ∷ ms) one.0 ∙ ap (λ l. o ∷ l) more.0, ap (λ z. z ∷ xs) one.1 ∙ ap (λ l. y ∷ l) more.1, more.2)
