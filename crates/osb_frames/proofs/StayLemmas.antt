-- What stands at the front of bytes stays there where more follows.
use Rattle.std.proofs.Common.{◌≡◌, ℕ, ◌+◌, ◌<◌, ◌≤◌, Bool, true, false, cond, List, ◌++◌, length, take, Option, Some, None, sym, refl, ap, subst, ◌∙◌, arith, inl, inr}
use Rattle.std.specs.Prelude.{nat_lt, codes, unwrap_or}
use Rattle.std.proofs.lemmas.List.{take-append-le, length-append}
use Rattle.std.proofs.lemmas.Bool.{le-ltb, ltb-false, ltb-true}
use Rattle.httparse.specs.Grammar.{RequestHead, print_request}
use Rattle.httparse.proofs.GrammarLemmas.{ReadsRequest-append}
use Rattle.osb_frames.specs.declared.limits.Limits.{Limits}
use Rattle.osb_frames.specs.declared.request.Request.{Request}
use Rattle.osb_frames.specs.declared.step.Step.{Step}
use Rattle.osb_frames.specs.declared.step.Step.TheVariants.{Whole, Stop, Ended, More}
use Rattle.osb_frames.specs.declared.step.StopKind.{StopKind}
use Rattle.osb_frames.specs.declared.step.StopKind.TheVariants.{NoHead, Host, Coding, Length, TooLarge, Cut}
use Rattle.osb_frames.specs.Fields.{Line, values_of, length_given}
use Rattle.osb_frames.specs.Heads.{HeadAt, lines_of}
use Rattle.osb_frames.specs.Cuts.{length_fault, fault_of, body_length, Front, fault, whole, with_body, IsFront, empty, headless, headed}
use Rattle.osb_frames.specs.Steps.{message, ReportsFault, Says, FaultStays, Stays, IfMore}
use Rattle.osb_frames.proofs.FrontLemmas.{front_from, IsSettled, IsFinalIfSome, fault_is_final}

head_stays : (limits : Limits) (bytes more : List ℕ) (h : RequestHead) (rest : List ℕ) → HeadAt limits bytes h rest → HeadAt limits (bytes ++ more) h (rest ++ more)
head_stays limits bytes more h rest x = record { reads = ReadsRequest-append bytes h rest more x.reads; fits = x.fits; room = x.room }

-- the request that a head and n bytes of body make
abbrev request_of : RequestHead → List ℕ → ℕ → Front
request_of h body n =
    whole record { method = h.method; target = h.target; minor = h.minor; lines = lines_of h; body = body } (length (print_request h) + n)

-- what is settled by a head stays
from_stays : (h : RequestHead) (rest more : List ℕ) (f : Option StopKind) (front : Front) → IsSettled front → front ≡ front_from h rest f → front ≡ front_from h (rest ++ more) f
from_stays h rest more (Some f) front settled e = e
from_stays h rest more None front settled e = by (nat_lt (length rest) len) refl e
  where
    len : ℕ
    len = body_length (lines_of h)

    by : (b : Bool) → nat_lt (length rest) len ≡ b → front ≡ cond b (fault Cut) (request_of h (take len rest) len) → front ≡ with_body h (rest ++ more) len
    by true was is = absurd (subst IsSettled is settled)
    by false was is =
        let enough : len ≤ length rest = ltb-false _ _ was in
        let still : nat_lt (length (rest ++ more)) len ≡ false = le-ltb _ _ (omega (arith, length-append rest more)) in
        is
        ∙ ap (λ body. request_of h body len) (sym (take-append-le len rest more enough))
        ∙ ap (λ b. cond b (fault Cut) (request_of h (take len (rest ++ more)) len)) (sym still)

front_stays : (limits : Limits) (bytes : List ℕ) (front : Front) → IsSettled front → IsFront limits bytes front → (more : List ℕ) → IsFront limits (bytes ++ more) front
front_stays limits bytes front settled (empty m e) more = absurd (subst IsSettled e settled)
front_stays limits bytes front settled (headless some none e) more = absurd (subst IsSettled e settled)
front_stays limits bytes front settled (headed h rest x e) more =
    headed h (rest ++ more) (head_stays limits bytes more h rest x) (from_stays h rest more (fault_of limits h.minor (lines_of h)) front settled e)

told_stays : (limits : Limits) (bytes : List ℕ) (over : Bool) (f : StopKind) → ReportsFault limits bytes over f → FaultStays limits bytes over f
told_stays limits bytes over NoHead (inl here) = inr (here.1, here.0)
told_stays limits bytes over NoHead (inr always) = inl always
told_stays limits bytes over Host at = inl (front_stays limits bytes (fault Host) tt at)
told_stays limits bytes over Coding at = inl (front_stays limits bytes (fault Coding) tt at)
told_stays limits bytes over Length at = inl (front_stays limits bytes (fault Length) tt at)
told_stays limits bytes over TooLarge at = inl (front_stays limits bytes (fault TooLarge) tt at)
told_stays limits bytes over Cut at = inr (at.1, at.0)

pub step_stays : (limits : Limits) (bytes : List ℕ) (over : Bool) (step : Step Request) → Says limits bytes over step → Stays limits bytes over step
step_stays limits bytes over (Whole q n) says = front_stays limits bytes (whole (message q) n) tt says
step_stays limits bytes over (Stop f) says = told_stays limits bytes over f says
step_stays limits bytes over Ended says = tt
step_stays limits bytes over More says = tt

-- ---- what waits is smaller than a head and a body

-- a length without a fault is within its limit
length_fits : (limits : Limits) (n : Option ℕ) → length_fault limits n ≡ None → unwrap_or n 0 ≤ limits.body
length_fits limits None e = cc
length_fits limits (Some n) e = by_test (nat_lt limits.body n) refl e
  where
    by_test : (b : Bool) → nat_lt limits.body n ≡ b → cond b (Some TooLarge) None ≡ None → n ≤ limits.body
    by_test true was none = cc
    by_test false was none = ltb-false _ _ was

later_none : (b : Bool) (f : StopKind) (later : Option StopKind) → cond b (Some f) later ≡ None → later ≡ None
later_none true f later e = cc
later_none false f later e = e

-- a head without a fault of its own asks for no more body than the limit
body_fits : (limits : Limits) (minor : ℕ) (lines : List Line) → fault_of limits minor lines ≡ None → body_length lines ≤ limits.body
body_fits limits minor lines e =
    length_fits limits (length_given (values_of (codes "content-length") lines)) (later_none _ Coding _ (later_none _ Host _ e))

cut_fits : (limits : Limits) (bytes : List ℕ) → IsFront limits bytes (fault Cut) → length bytes < limits.head + limits.body
cut_fits limits bytes (empty m e) = cc
cut_fits limits bytes (headless some none e) = cc
cut_fits limits bytes (headed h rest x e) = by_fault (fault_of limits h.minor (lines_of h)) refl e
  where
    by_test : (b : Bool) → nat_lt (length rest) (body_length (lines_of h)) ≡ b → body_length (lines_of h) ≤ limits.body → fault Cut ≡ cond b (fault Cut) (request_of h (take (body_length (lines_of h)) rest) (body_length (lines_of h))) → length bytes < limits.head + limits.body
    by_test true was small is =
        let parts = simp length-append at (ap length x.reads.1) in
        let fits = x.fits in
        let short : length rest < body_length (lines_of h) = ltb-true _ _ was in
        omega arith
    by_test false was small is = cc

    by_fault : (g : Option StopKind) → fault_of limits h.minor (lines_of h) ≡ g → fault Cut ≡ front_from h rest g → length bytes < limits.head + limits.body
    by_fault None was is = by_test (nat_lt (length rest) (body_length (lines_of h))) refl (body_fits limits h.minor (lines_of h) was) is
    by_fault (Some f) was is =
        let same : f ≡ Cut = cc in
        absurd (subst IsFinalIfSome (was ∙ ap Some same) (fault_is_final limits h.minor (lines_of h)))

pub more_fits : (limits : Limits) (bytes : List ℕ) (over : Bool) (step : Step Request) → Says limits bytes over step → IfMore step (length bytes < limits.head + limits.body)
more_fits limits bytes over (Whole q n) says = tt
more_fits limits bytes over (Stop f) says = tt
more_fits limits bytes over Ended says = tt
more_fits limits bytes over More (open_yet, inl short) = cut_fits limits bytes short
more_fits limits bytes over More (open_yet, inr waits) = let below = waits.1 in omega arith
