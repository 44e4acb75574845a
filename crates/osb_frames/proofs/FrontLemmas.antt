-- What stands at the front of bytes.
use Rattle.std.proofs.Common.{◌≡◌, ℕ, ◌+◌, ◌<◌, ◌≤◌, Bool, true, false, cond, List, [], length, take, drop, Option, Some, None, sym, refl, ap, subst, ◌∙◌, arith, ◌⊎◌, inl, inr}
use Rattle.std.specs.Prelude.{nat_lt, codes}
use Rattle.std.specs.Option.{option_map_or}
use Rattle.std.proofs.lemmas.Bool.{lt-ltb, le-ltb, ltb-false}
use Rattle.std.proofs.lemmas.List.{length-append, append-nil}
use Rattle.httparse.specs.Grammar.{RequestHead, print_request}
use Rattle.httparse.proofs.GrammarLemmas.{request_unique}
use Rattle.osb_frames.specs.declared.limits.Limits.{Limits}
use Rattle.osb_frames.specs.declared.request.Request.{Request}
use Rattle.osb_frames.specs.declared.step.Step.{Step}
use Rattle.osb_frames.specs.declared.step.Step.TheVariants.{Whole, Stop, Ended, More}
use Rattle.osb_frames.specs.declared.step.StopKind.{StopKind}
use Rattle.osb_frames.specs.declared.step.StopKind.TheVariants.{NoHead, Host, Coding, Length, TooLarge, Cut}
use Rattle.osb_frames.specs.Fields.{Line, values_of, length_given}
use Rattle.osb_frames.specs.Heads.{HeadAt, HasNoHead, lines_of}
use Rattle.osb_frames.specs.Cuts.{Message, has_bad_host, length_fault, fault_of, body_length, Front, nothing, fault, whole, with_body, front_of, IsFront, empty, headless, headed}
use Rattle.osb_frames.specs.Steps.{message, ReportsFault, Waits, Says, IfWhole, IsWhole, IsFinal, Shows}
use Rattle.osb_frames.specs.Found.{HoldsHead}

-- what a head and the bytes after it are, by the fault of the head
abbrev pub front_from : RequestHead → List ℕ → Option StopKind → Front
front_from h rest f = option_map_or fault f (with_body h rest (body_length (lines_of h)))

-- a request, or a fault of a whole head
abbrev pub IsSettled : Front → Type 0
IsSettled nothing = ⊥
IsSettled (fault f) = IsFinal f
IsSettled (whole q n) = Unit {0}

-- ---- the fault of a head

abbrev pub IsFinalIfSome : Option StopKind → Type 0
IsFinalIfSome None = Unit {0}
IsFinalIfSome (Some f) = IsFinal f

final_or : (b : Bool) (f : StopKind) (later : Option StopKind) → IsFinal f → IsFinalIfSome later → IsFinalIfSome (cond b (Some f) later)
final_or true f later now after = now
final_or false f later now after = after

final_length : (limits : Limits) (n : Option ℕ) → IsFinalIfSome (length_fault limits n)
final_length limits None = tt
final_length limits (Some n) = final_or (nat_lt limits.body n) TooLarge None tt tt

pub fault_is_final : (limits : Limits) (minor : ℕ) (lines : List Line) → IsFinalIfSome (fault_of limits minor lines)
fault_is_final limits minor lines =
    final_or (has_bad_host minor (length (values_of (codes "host") lines))) Host _ tt
    (final_or (nat_lt 0 (length (values_of (codes "transfer-encoding") lines))) Coding _ tt (final_length limits (length_given (values_of (codes "content-length") lines))))

module _ (limits : Limits) (bytes : List ℕ) where
  -- ---- one thing stands there

  head_some : (h : RequestHead) (rest : List ℕ) → HeadAt limits bytes h rest → 0 < length (print_request h)
  unfolding print_request
  head_some h rest x = let token = x.reads.0.method.0 in simp length-append (omega arith)

  pub empty_headless : length bytes ≡ 0 → HasNoHead limits bytes
  empty_headless none h rest x = let some = head_some h rest x in omega (arith, simp length-append at (ap length x.reads.1))

  pub front_unique : (a b : Front) → IsFront limits bytes a → IsFront limits bytes b → a ≡ b
  front_unique a b (empty n e) (empty m f) = e ∙ sym f
  front_unique a b (empty n e) (headless some none f) = absurd (omega (arith, ap length n))
  front_unique a b (empty n e) (headed h rest x f) = absurd (empty_headless (ap length n) h rest x)
  front_unique a b (headless some none e) (empty m f) = absurd (omega (arith, ap length m))
  front_unique a b (headless some none e) (headless more gone f) = e ∙ sym f
  front_unique a b (headless some none e) (headed h rest x f) = absurd (none h rest x)
  front_unique a b (headed h rest x e) (empty m f) = absurd (empty_headless (ap length m) h rest x)
  front_unique a b (headed h rest x e) (headless some none f) = absurd (none h rest x)
  front_unique a b (headed h rest x e) (headed k more y f) =
      let same = request_unique bytes h k rest more x.reads y.reads in
      e ∙ (λ i. front_of limits (same.0 i) (same.1 i)) ∙ sym f

  -- ---- the front by the request that holds its head

  abbrev held : Request → ℕ → Option StopKind → Front
  held q n (Some f) = fault f
  held q n None =
      cond (nat_lt (length (drop n bytes)) (body_length (message q).lines)) (fault Cut)
      (whole (record (message q) { body = take (body_length (message q).lines) (drop n bytes) }) (n + body_length (message q).lines))

  held_from : (q : Request) (n : ℕ) (h : RequestHead) → HoldsHead limits bytes q n h → (f : Option StopKind) → held q n f ≡ front_from h (drop n bytes) f
  held_from q n h hold (Some f) = refl
  held_from q n h hold None = λ i.
      cond (nat_lt (length (drop n bytes)) (body_length (hold.lines i))) (fault Cut) (whole record {
        method = hold.method i;
        target = hold.target i;
        minor = hold.minor i;
        lines = hold.lines i;
        body = take (body_length (hold.lines i)) (drop n bytes);
      } (hold.len i + body_length (hold.lines i)))

  front_held : (q : Request) (n : ℕ) (h : RequestHead) (f : Option StopKind) → HoldsHead limits bytes q n h → fault_of limits q.minor (message q).lines ≡ f → IsFront limits bytes (held q n f)
  front_held q n h f hold e =
      headed h (drop n bytes) hold.head
      (held_from q n h hold f ∙ ap (front_from h (drop n bytes)) (sym e ∙ (λ i. fault_of limits (hold.minor i) (hold.lines i))))

  final_tells : (over : Bool) (f : StopKind) → IsFinal f → IsFront limits bytes (fault f) → ReportsFault limits bytes over f
  final_tells over NoHead final at = absurd final
  final_tells over Host final at = at
  final_tells over Coding final at = at
  final_tells over Length final at = at
  final_tells over TooLarge final at = at
  final_tells over Cut final at = absurd final

  pub tells_fault : (over : Bool) (q : Request) (n : ℕ) (h : RequestHead) (f : StopKind) → HoldsHead limits bytes q n h → fault_of limits q.minor (message q).lines ≡ Some f → ReportsFault limits bytes over f
  tells_fault over q n h f hold e =
      final_tells over f (subst IsFinalIfSome e (fault_is_final limits q.minor (message q).lines)) (front_held q n h (Some f) hold e)

  pub front_cut : (q : Request) (n len : ℕ) (h : RequestHead) → HoldsHead limits bytes q n h → (fault_of limits q.minor (message q).lines ≡ None) × (len ≡ body_length (message q).lines) → length (drop n bytes) < len → IsFront limits bytes (fault Cut)
  front_cut q n len h hold e short = rw (lt-ltb _ _ (rw e.1 at short)) at (front_held q n h None hold e.0)

  pub front_whole : (q : Request) (n len : ℕ) (h : RequestHead) (body : List ℕ) → HoldsHead limits bytes q n h → (fault_of limits q.minor (message q).lines ≡ None) × (len ≡ body_length (message q).lines) → len ≤ length (drop n bytes) → body ≡ take len (drop n bytes) → IsFront limits bytes (whole (record (message q) { body = body }) (n + len))
  front_whole q n len h body hold e enough is =
      rw (is, e.1) (rw (le-ltb _ _ (rw e.1 at enough)) at (front_held q n h None hold e.0))

  -- ---- what a step says

  told_now : (over : Bool) (f : StopKind) → ReportsFault limits bytes over f → IsFront limits bytes (fault f)
  told_now over NoHead (inl here) = here.1
  told_now over NoHead (inr always) = subst (λ l. IsFront limits l (fault NoHead)) (append-nil bytes) (always [])
  told_now over Host at = at
  told_now over Coding at = at
  told_now over Length at = at
  told_now over TooLarge at = at
  told_now over Cut at = at.1

  -- a step that wants no more bytes shows what stands there
  stands : (over : Bool) (step : Step Request) → Says limits bytes over step → (step ≡ More → ⊥) → (front : Front) × IsFront limits bytes front × Shows front step
  stands over (Whole q n) says other = (whole (message q) n, says, (refl, refl))
  stands over (Stop f) says other = (fault f, told_now over f says, refl)
  stands over Ended says other = (nothing, empty says.1 refl, refl)
  stands over More says other = absurd (other refl)

  shows : (over : Bool) (step : Step Request) → Says limits bytes over step → (step ≡ More → ⊥) → (front : Front) → IsFront limits bytes front → Shows front step
  shows over step says other front at =
      let there = stands over step says other in
      subst (λ f. Shows f step) (front_unique there.0 front there.1 at) there.2

  no_more_at_end : (over : Bool) (step : Step Request) → over ≡ true → Says limits bytes over step → step ≡ More → ⊥
  no_more_at_end over step end says is = let still = (subst (Says limits bytes over) is says).0 in cc

  no_more : (over : Bool) (step : Step Request) → Says limits bytes over step → (front : Front) → IsSettled front → IsFront limits bytes front → step ≡ More → ⊥
  no_more over step says front settled at is = by (subst (Says limits bytes over) is says).1 at
    where
      by : IsFront limits bytes (fault Cut) ⊎ Waits limits bytes → IsFront limits bytes front → ⊥
      by (inl short) now = subst IsSettled (front_unique front (fault Cut) now short) settled
      by (inr waits) (empty m e) = subst IsSettled e settled
      by (inr waits) (headless some none e) = subst IsSettled e settled
      by (inr waits) (headed h rest x e) = waits.0 h rest x

  pub finds_whole : (over : Bool) (step : Step Request) → Says limits bytes over step → (q : Message) (n : ℕ) → IsFront limits bytes (whole q n) → IsWhole q n step
  finds_whole over step says q n at = shows over step says (no_more over step says (whole q n) tt at) (whole q n) at

  pub finds_fault : (over : Bool) (step : Step Request) → Says limits bytes over step → (f : StopKind) → IsFinal f → IsFront limits bytes (fault f) → step ≡ Stop f
  finds_fault over step says f final at = shows over step says (no_more over step says (fault f) final at) (fault f) at

  pub stands_at_end : (over : Bool) (step : Step Request) → over ≡ true → Says limits bytes over step → (front : Front) × IsFront limits bytes front × Shows front step
  stands_at_end over step end says = stands over step says (no_more_at_end over step end says)

  pub shows_at_end : (over : Bool) (step : Step Request) → over ≡ true → Says limits bytes over step → (front : Front) → IsFront limits bytes front → Shows front step
  shows_at_end over step end says = shows over step says (no_more_at_end over step end says)

  -- a whole request has some of the bytes
  whole_size : (q : Message) (n : ℕ) (h : RequestHead) (rest : List ℕ) → HeadAt limits bytes h rest → (f : Option StopKind) → whole q n ≡ front_from h rest f → (0 < n) × (n ≤ length bytes)
  whole_size q n h rest x (Some f) e = cc
  whole_size q n h rest x None e = by (nat_lt (length rest) len) refl e
    where
      len : ℕ
      len = body_length (lines_of h)

      by : (b : Bool) → nat_lt (length rest) len ≡ b → whole q n ≡ cond b (fault Cut) (whole record { method = h.method; target = h.target; minor = h.minor; lines = lines_of h; body = take len rest } (length (print_request h) + len)) → (0 < n) × (n ≤ length bytes)
      by true was is = cc
      by false was is =
          let size : n ≡ length (print_request h) + len = cc in
          let some = head_some h rest x in
          let enough : len ≤ length rest = ltb-false _ _ was in
          let parts = simp length-append at (ap length x.reads.1) in
          (omega arith, omega arith)

  front_size : (q : Message) (n : ℕ) → IsFront limits bytes (whole q n) → (0 < n) × (n ≤ length bytes)
  front_size q n (empty m e) = cc
  front_size q n (headless some none e) = cc
  front_size q n (headed h rest x e) = whole_size q n h rest x (fault_of limits h.minor (lines_of h)) e

  pub whole_inside : (over : Bool) (step : Step Request) → Says limits bytes over step → IfWhole step (λ q n. (0 < n) × (n ≤ length bytes))
  whole_inside over (Whole q n) says = front_size (message q) n says
  whole_inside over (Stop f) says = tt
  whole_inside over Ended says = tt
  whole_inside over More says = tt
