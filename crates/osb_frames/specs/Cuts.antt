-- How the bytes of a connection are cut into requests (RFC 9112, 6 and 9).
use Rattle.std.specs.Prelude.{◌≡◌, ℕ, ◌+◌, zero, suc, ◌<◌, Bool, not, ◌||◌, List, [], ◌∷◌, length, take, drop, Option, Some, None, unwrap_or, if◌then◌else◌, nat_lt, ◌==◌, codes}
use Rattle.std.specs.List.{list_any}
use Rattle.std.specs.Option.{option_map_or}
use Rattle.httparse.specs.Grammar.{RequestHead, print_request}
use Rattle.osb_frames.specs.declared.limits.Limits.{Limits}
use Rattle.osb_frames.specs.declared.step.StopKind.{StopKind}
use Rattle.osb_frames.specs.declared.step.StopKind.TheVariants.{Host, Coding, Length, TooLarge, NoHead, Cut}
use Rattle.osb_frames.specs.Fields.{Line, values_of, lists_item, length_given}
use Rattle.osb_frames.specs.Heads.{HeadAt, HasNoHead, lines_of}

-- a request: the parts of its head, and its body
pub record Message : Type 0 where
  pub method : List ℕ
  pub target : List ℕ
  pub minor : ℕ
  pub lines : List Line
  pub body : List ℕ

-- HTTP/1.1 wants exactly one Host line, HTTP/1.0 at most one (RFC 9112, 3.2)
abbrev pub has_bad_host : ℕ → ℕ → Bool
has_bad_host minor hosts = if minor == 1 then not (hosts == 1) else nat_lt 1 hosts

-- the fault of a body of that length
abbrev pub length_fault : Limits → Option ℕ → Option StopKind
length_fault limits None = Some Length
length_fault limits (Some n) = if nat_lt limits.body n then Some TooLarge else None

-- the first fault of a head: of its Host lines, its Transfer-Encoding, its Content-Length
abbrev pub fault_of : Limits → ℕ → List Line → Option StopKind
fault_of limits minor lines =
    if has_bad_host minor (length (values_of (codes "host") lines)) then Some Host
    else if nat_lt 0 (length (values_of (codes "transfer-encoding") lines)) then Some Coding
    else length_fault limits (length_given (values_of (codes "content-length") lines))

-- the length of the body: 0 where the head gives none
abbrev pub body_length : List Line → ℕ
body_length lines = unwrap_or (length_given (values_of (codes "content-length") lines)) 0

-- the request closes the connection: it is HTTP/1.0, or a Connection line lists `close` (RFC 9112, 9.3 and 9.6)
abbrev pub closes : Message → Bool
closes q = (q.minor == 0) || list_any (lists_item (codes "close")) (values_of (codes "connection") q.lines)

-- what is at the front of bytes: nothing, a fault, or a request of so many bytes
pub data Front : Type 0 where
  nothing : Front
  fault : StopKind → Front
  whole : Message → ℕ → Front

-- a head with no fault of its own, and a body of n bytes, of which rest has the first
abbrev pub with_body : RequestHead → List ℕ → ℕ → Front
with_body h rest n =
    if nat_lt (length rest) n then fault Cut else whole record {
      method = h.method;
      target = h.target;
      minor = h.minor;
      lines = lines_of h;
      body = take n rest;
    } (length (print_request h) + n)

-- what a head and the bytes after it are
abbrev pub front_of : Limits → RequestHead → List ℕ → Front
front_of limits h rest =
    option_map_or fault (fault_of limits h.minor (lines_of h)) (with_body h rest (body_length (lines_of h)))

pub data IsFront (limits : Limits) (bytes : List ℕ) (front : Front) : Type 0 where
  empty : bytes ≡ [] → front ≡ nothing → IsFront limits bytes front
  headless : 0 < length bytes → HasNoHead limits bytes → front ≡ fault NoHead → IsFront limits bytes front
  headed : (h : RequestHead) (rest : List ℕ) → HeadAt limits bytes h rest → front ≡ front_of limits h rest → IsFront limits bytes front

-- how the requests of a connection end: with the input, with a request that closes or is the last, or at a fault
pub data End : Type 0 where
  ended closed : End
  stopped : StopKind → End

-- the connection ends so with what is at the front of bytes
abbrev pub EndsAt : Limits → List ℕ → End → Type 0
EndsAt limits bytes ended = IsFront limits bytes nothing
EndsAt limits bytes (stopped f) = IsFront limits bytes (fault f)
EndsAt limits bytes closed = ⊥

-- the bytes are these requests, and then that end; none comes after the k-th, nor after one that closes
abbrev pub Cuts : Limits → ℕ → List ℕ → List Message → End → Type 0
Cuts limits zero bytes requests end = (requests ≡ []) × (end ≡ closed)
Cuts limits (suc k) bytes [] end = EndsAt limits bytes end
Cuts limits (suc k) bytes (q ∷ later) end =
    (n : ℕ) × IsFront limits bytes (whole q n)
    × Cuts limits (if closes q then 0 else k) (drop n bytes) later end
