-- What the head at the front of a buffer is. For contracts inside the crate.
use Rattle.std.specs.Prelude.{◌≡◌, ℕ, ◌<◌, ◌≤◌, List, ◌++◌, length, drop}
use Rattle.httparse.specs.Grammar.{RequestHead, print_request, MayBecomeRequest}
use Rattle.httparse.specs.Spans.{RequestExceeds}
use Rattle.osb_frames.specs.declared.limits.Limits.{Limits}
use Rattle.osb_frames.specs.declared.request.Request.{Request}
use Rattle.osb_frames.specs.declared.head.FoundOf.{FoundOf}
use Rattle.osb_frames.specs.declared.head.FoundOf.TheVariants as found
use Rattle.osb_frames.specs.Heads.{HeadAt, HasNoHead, lines_of}
use Rattle.osb_frames.specs.Steps.{message}

-- q has the parts of the head h, which has n bytes, at the front of bytes
pub record HoldsHead (limits : Limits) (bytes : List ℕ) (q : Request) (n : ℕ)
    (h : RequestHead) : Type 0 where
  pub head : HeadAt limits bytes h (drop n bytes)
  pub len : n ≡ length (print_request h)
  pub method : q.method.now ≡ h.method
  pub target : q.target.now ≡ h.target
  pub minor : q.minor ≡ h.minor
  pub lines : (message q).lines ≡ lines_of h
  pub inside : n ≤ length bytes

abbrev pub IsFound : Limits → List ℕ → FoundOf Request → Type 0
IsFound limits bytes (found.Head q n) = (h : RequestHead) × HoldsHead limits bytes q n h
IsFound limits bytes found.Unfinished =
    HasNoHead limits bytes × (length bytes < limits.head) × MayBecomeRequest bytes
IsFound limits bytes found.TooManyFields =
    ((more : List ℕ) → HasNoHead limits (bytes ++ more)) × (length bytes < limits.head)
    × RequestExceeds limits.fields bytes
IsFound limits bytes found.Never = (more : List ℕ) → HasNoHead limits (bytes ++ more)
