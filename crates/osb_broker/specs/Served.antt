-- What serving a connection did, of the bytes as a whole.
use Rattle.std.specs.Prelude.{◌≡◌, ℕ, ◌≤◌, Bool, true, false, List, [], ◌∷◌, ◌++◌, length, map, take}
use Rattle.std.specs.List.{concat}
use Rattle.osb_frames.specs.declared.limits.Limits.{Limits}
use Rattle.osb_frames.specs.declared.limits.TheConstants.{MOST_HEAD, MOST_FIELDS, MOST_BODY}
use Rattle.osb_frames.specs.Cuts.{Message, End, ended, closed, stopped, Cuts}
use Rattle.osb_replies.specs.Text.{reply_text}
use Rattle.osb_broker.specs.Machine.{Machine}
use Rattle.osb_broker.specs.Connection.{replies_of, AreMarks, looked_for, ConnectionText, Run}

-- what was written is the texts of the connection, for some marks
pub record Served {S : Type 0} (machine : Machine S) (limits : Limits) (k : ℕ) (s : S) (bytes old new : List ℕ) (t : S) : Type 0 where
  pub marks : List Bool
  pub texts : List (List ℕ)
  pub is : ConnectionText machine limits k s bytes marks texts t
  pub written : new ≡ old ++ concat texts

-- the requests of a connection ended at a framing fault
abbrev pub is_fault : End → Bool
is_fault ended = false
is_fault closed = false
is_fault (stopped f) = true

-- the same, and met_fault says whether the requests ended at a framing fault
abbrev pub ServedTo : {S : Type 0} → Machine S → Limits → ℕ → S → List ℕ → Bool → List ℕ → List ℕ →
    S → Type 0
ServedTo machine limits k s bytes met_fault old new t =
    (served : Served machine limits k s bytes old new t) × (met_fault ≡ is_fault served.is.end)

-- These are the first texts of the connection, and t is the state after them: of the k requests that may come at most so
-- many are looked for.
pub record FirstTexts {S : Type 0} (machine : Machine S) (limits : Limits) (k : ℕ) (s : S)
    (bytes : List ℕ) (texts : List (List ℕ)) (t : S) : Type 0 where
  pub most : ℕ
  pub fewer : most ≤ k
  pub marks : List Bool
  pub requests : List Message
  pub end : End
  pub cut : Cuts limits (looked_for most marks) bytes requests end
  pub marked : AreMarks machine requests marks
  pub printed : texts ≡ map reply_text (replies_of machine k s requests end marks).0
  pub leaves : t ≡ (replies_of machine k s requests end marks).1

-- the first texts of the connection were written whole, and of the one behind them its first bytes; the state is the one
-- after that
pub record BrokenOff {S : Type 0} (machine : Machine S) (limits : Limits) (k : ℕ) (s : S)
    (bytes old new : List ℕ) (t : S) : Type 0 where
  pub texts : List (List ℕ)
  pub text : List ℕ
  pub is : FirstTexts machine limits k s bytes (texts ++ text ∷ []) t
  pub count : ℕ
  pub inside : count ≤ length text
  pub written : new ≡ old ++ (concat texts ++ take count text)

-- the limits of osb_frames: a head of 8,192 bytes with 128 field lines, and a body of 262,144 bytes
abbrev pub AreStandard : Limits → Type 0
AreStandard limits =
    (limits.head ≡ MOST_HEAD) × (limits.fields ≡ MOST_FIELDS) × (limits.body ≡ MOST_BODY)

-- the outputs of connections are the texts of a run, for some marks
pub record RunServed {S : Type 0} (machine : Machine S) (limits : Limits) (k : ℕ) (s : S)
    (connections outputs : List (List ℕ)) (t : S) : Type 0 where
  pub marks : List (List Bool)
  pub texts : List (List (List ℕ))
  pub is : Run machine limits k s connections marks texts t
  pub written : outputs ≡ map concat texts
