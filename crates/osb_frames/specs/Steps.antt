-- What a step says of the bytes that it was given, of which more may come.
use Rattle.std.specs.Prelude.{◌≡◌, ℕ, ◌<◌, ◌⊎◌, Bool, List, [], ◌++◌, map, length, IsTrue, IsFalse, ⊤}
use Rattle.osb_frames.specs.declared.limits.Limits.{Limits}
use Rattle.osb_frames.specs.declared.request.Request.{Request}
use Rattle.osb_frames.specs.declared.step.Step.{Step}
use Rattle.osb_frames.specs.declared.step.Step.TheVariants.{Whole, Stop, Ended, More}
use Rattle.osb_frames.specs.declared.step.StopKind.{StopKind}
use Rattle.osb_frames.specs.declared.step.StopKind.TheVariants.{NoHead, Cut}
use Rattle.osb_frames.specs.Line.{line_in}
use Rattle.osb_frames.specs.Heads.{HasNoHead, MayBecomeHead}
use Rattle.osb_frames.specs.Cuts.{Message, Front, nothing, fault, whole, IsFront}

-- a request as contracts see it
abbrev pub message : Request → Message
message q = record {
  method = q.method.now;
  target = q.target.now;
  minor = q.minor;
  lines = map (line_in q.head.now) q.lines.now;
  body = q.body.now;
}

-- the fault f is reported: NoHead where no bytes that follow mend it, or none will come; Cut where none will come
abbrev pub ReportsFault : Limits → List ℕ → Bool → StopKind → Type 0
ReportsFault limits bytes over NoHead =
    (IsTrue over × IsFront limits bytes (fault NoHead))
    ⊎ ((more : List ℕ) → IsFront limits (bytes ++ more) (fault NoHead))
ReportsFault limits bytes over Cut = IsTrue over × IsFront limits bytes (fault Cut)
ReportsFault limits bytes over f = IsFront limits bytes (fault f)

-- no head is there yet, the limit of a head isn't reached, and a head may still come
abbrev pub Waits : Limits → List ℕ → Type 0
Waits limits bytes =
    HasNoHead limits bytes × (length bytes < limits.head)
    × ((bytes ≡ []) ⊎ MayBecomeHead limits bytes)

-- a step says what is at the front of the bytes, or wants more of them: a body lacks a part, or a head may come
abbrev pub Says : Limits → List ℕ → Bool → Step Request → Type 0
Says limits bytes over (Whole q n) = IsFront limits bytes (whole (message q) n)
Says limits bytes over (Stop f) = ReportsFault limits bytes over f
Says limits bytes over Ended = IsTrue over × (bytes ≡ [])
Says limits bytes over More = IsFalse over × (IsFront limits bytes (fault Cut) ⊎ Waits limits bytes)

-- the fault is there whatever follows, or it is what the end of the input makes of the bytes
abbrev pub FaultStays : Limits → List ℕ → Bool → StopKind → Type 0
FaultStays limits bytes over f =
    ((more : List ℕ) → IsFront limits (bytes ++ more) (fault f))
    ⊎ (IsFront limits bytes (fault f) × IsTrue over)

-- what is said is there whatever follows
abbrev pub Stays : Limits → List ℕ → Bool → Step Request → Type 0
Stays limits bytes over (Whole q n) =
    (more : List ℕ) → IsFront limits (bytes ++ more) (whole (message q) n)
Stays limits bytes over (Stop f) = FaultStays limits bytes over f
Stays limits bytes over _ = ⊤

-- the step is that request, of so many bytes
abbrev pub IsWhole : Message → ℕ → Step Request → Type 0
IsWhole m n (Whole q used) = (message q ≡ m) × (used ≡ n)
IsWhole m n _ = ⊥

-- a fault of a whole head, which no further bytes mend
abbrev pub IsFinal : StopKind → Type 0
IsFinal NoHead = ⊥
IsFinal Cut = ⊥
IsFinal _ = ⊤

-- the step is what is there
abbrev pub Shows : Front → Step Request → Type 0
Shows nothing step = step ≡ Ended
Shows (fault f) step = step ≡ Stop f
Shows (whole q n) step = IsWhole q n step

-- P of the request and of its number of bytes, where there is one
abbrev pub IfWhole : Step Request → (Request → ℕ → Type 0) → Type 0
IfWhole (Whole q n) P = P q n
IfWhole _ P = ⊤

-- P where more bytes are needed
abbrev pub IfMore : Step Request → Type 0 → Type 0
IfMore More P = P
IfMore _ P = ⊤
