-- The head of a request (RFC 9112, 2.1): the request line, the field lines and the empty line.
use Rattle.std.specs.Prelude.{◌≡◌, ℕ, ◌≤◌, ◌⊎◌, List, [], map, length}
use Rattle.httparse.specs.Grammar.{RequestHead, print_request, ReadsRequest, MayBecomeRequest}
use Rattle.httparse.specs.Spans.{name_and_value, RequestExceeds}
use Rattle.osb_frames.specs.declared.limits.Limits.{Limits}
use Rattle.osb_frames.specs.Fields.{Line}

-- bytes are the head h, as httparse's grammar has it and within the limits, and then rest
pub record HeadAt (limits : Limits) (bytes : List ℕ) (h : RequestHead) (rest : List ℕ) : Type 0 where
  pub reads : ReadsRequest bytes h rest
  pub fits : length (print_request h) ≤ limits.head
  pub room : length h.fields ≤ limits.fields

-- the bytes are the head h
abbrev pub Head : Limits → List ℕ → RequestHead → Type 0
Head limits bytes h = HeadAt limits bytes h []

-- no prefix of the bytes is a head
abbrev pub HasNoHead : Limits → List ℕ → Type 0
HasNoHead limits bytes = (h : RequestHead) (rest : List ℕ) → ¬ (HeadAt limits bytes h rest)

-- the bytes may begin a head yet, but for its number of field lines
abbrev pub MayBecomeHead : Limits → List ℕ → Type 0
MayBecomeHead limits bytes = MayBecomeRequest bytes ⊎ RequestExceeds limits.fields bytes

-- a head is at the front of the bytes, or they may begin one yet
abbrev pub IsHopeful : Limits → List ℕ → Type 0
IsHopeful limits bytes =
    ((h : RequestHead) × (rest : List ℕ) × HeadAt limits bytes h rest)
    ⊎ ((bytes ≡ []) ⊎ MayBecomeRequest bytes)

-- the names and the values of the field lines of a head
abbrev pub lines_of : RequestHead → List Line
lines_of h = map name_and_value h.fields
