-- What serving a connection did, of bytes that came in pieces.
use Rattle.std.specs.Prelude.{◌≡◌, ℕ, ◌<◌, ◌≤◌, ◌+◌, ◌⊎◌, Bool, false, List, [], ◌∷◌, ◌++◌, length, map, take, drop, ⊤, Option, Some, None, Result, Ok, Err}
use Rattle.std.specs.List.{concat, AllByRecursion}
use Rattle.std.specs.Io.KnownBytes.{Consumes, IsAtEnd}
use Rattle.osb_frames.specs.declared.limits.Limits.{Limits}
use Rattle.osb_frames.specs.declared.step.StopKind.{StopKind}
use Rattle.osb_frames.specs.Calls.{Call, all_bytes, call_bytes, is_failed_or_empty}
use Rattle.osb_frames.specs.Heads.{IsHopeful}
use Rattle.osb_frames.specs.Cuts.{Message, closes, fault, whole, IsFront, ended}
use Rattle.osb_frames.specs.Steps.{IsFinal}
use Rattle.osb_broker.specs.declared.fault.ServeFault.{ServeFault}
use Rattle.osb_broker.specs.declared.fault.ServeFault.TheVariants.{Read, Write}
use Rattle.osb_replies.specs.declared.write.WriteFault.{WriteFault}
use Rattle.osb_replies.specs.Text.{ReplyParts, reply_text}
use Rattle.osb_broker.specs.Machine.{Machine, fault_reply}
use Rattle.osb_broker.specs.Connection.{replies_of}
use Rattle.osb_broker.specs.Served.{ServedTo, BrokenOff}

-- a text was written whole and each write took bytes, or its first bytes were written and then a write failed or took
-- nothing
abbrev pub WritesText : List ℕ → ℕ → List ℕ → ℕ → Result (Unit {0}) WriteFault → List ℕ → Type 0
WritesText base before now after (Ok x) text = (now ≡ base ++ text) × (after ≡ before)
WritesText base before now after (Err f) text =
    (k : ℕ) × (k ≤ length text) × (now ≡ base ++ take k text) × (before < after)

-- each fault has its cause
abbrev pub HasCause : Result (Unit {0}) ServeFault → Type 0 → Type 0 → Type 0
HasCause (Ok x) read write = ⊤
HasCause (Err Read) read write = read
HasCause (Err Write) read write = write

-- the last that was written is the reply to a framing fault
abbrev pub EndsAtFault : List ℕ → Type 0
EndsAtFault sent =
    (kind : StopKind) × (before : List ℕ) × (sent ≡ before ++ reply_text (fault_reply kind))

-- a write failed or took nothing exactly where serving ends so
abbrev pub WritesOf : Result (Unit {0}) ServeFault → ℕ → ℕ → Type 0
WritesOf (Err Write) old new = old < new
WritesOf _ old new = new ≡ old

-- each read gave bytes
abbrev pub EachGaveBytes : List Call → Type 0
EachGaveBytes calls = AllByRecursion (λ call. is_failed_or_empty call ≡ false) calls

-- each read gave bytes but the last, which was this one
pub record EndsWith (last : Call) (calls : List Call) : Type 0 where
  pub before : List Call
  pub is : calls ≡ before ++ last ∷ []
  pub gave_bytes : EachGaveBytes before

-- which reads were made of a source from one moment to another, and what they gave; one that found the end left nothing
pub record ReadsMade (made_old made_new : List Call) (known_old known_new : Option (List ℕ))
    (calls : List Call) : Type 0 where
  pub made : made_new ≡ made_old ++ calls
  pub consumed : Consumes known_old known_new (all_bytes calls)
  pub at_end : EndsWith (Some []) calls → IsAtEnd known_new

-- the reads of a connection: one that fails is the last, and serving ends so; one that finds the end is the last
abbrev pub ReadsOf : Result (Unit {0}) ServeFault → List Call → Type 0
ReadsOf (Err Read) calls = EndsWith None calls
ReadsOf _ calls = EachGaveBytes calls ⊎ EndsWith (Some []) calls

-- P of the bytes of a connection that began with what these reads gave: whatever follows, or of that only, where the last
-- read found the end
abbrev pub OfConnection : (List ℕ → Type 0) → List Call → Type 0
OfConnection P calls =
    ((more : List ℕ) → P (all_bytes calls ++ more))
    ⊎ (P (all_bytes calls) × EndsWith (Some []) calls)

-- no whole request waits, and no fault that no further bytes mend; bytes that follow may make a request
pub record NothingWaits (limits : Limits) (held : List ℕ) : Type 0 where
  pub request : (q : Message) (n : ℕ) → ¬ (IsFront limits held (whole q n))
  pub stop : (f : StopKind) → IsFinal f → ¬ (IsFront limits held (fault f))
  pub hope : IsHopeful limits held

-- the bytes begin with these requests, one behind the other, of which none closes; rest follows them
abbrev pub Past : Limits → List Message → List ℕ → List ℕ → Type 0
Past limits [] bytes rest = rest ≡ bytes
Past limits (q ∷ qs) bytes rest =
    (n : ℕ) × IsFront limits bytes (whole q n) × (closes q ≡ false)
    × Past limits qs (drop n bytes) rest

-- the replies to requests that met no refusal, and the state after them
abbrev pub replies_unmarked : {S : Type 0} → Machine S → ℕ → S → List Message → List ReplyParts × S
replies_unmarked machine k s requests =
    replies_of machine k s requests ended (map (λ q. false) requests)

-- a read failed: exactly the texts of the requests that came whole were written, and more requests might have come
pub record ReadBroken {S : Type 0} (machine : Machine S) (limits : Limits) (k : ℕ) (s : S)
    (got old new : List ℕ) (t : S) : Type 0 where
  pub requests : List Message
  pub held : List ℕ
  pub past : Past limits requests got held
  pub fewer : length requests < k
  pub waits : NothingWaits limits held
  pub written : new ≡ old ++ concat (map reply_text (replies_unmarked machine k s requests).0)
  pub leaves : t ≡ (replies_unmarked machine k s requests).1

-- Whatever follows, got is requests of which none closes, and then held. Of k requests so many may still come.
pub record RequestsPassed (limits : Limits) (k : ℕ) (got : List ℕ) (left : ℕ)
    (held : List ℕ) : Type 0 where
  pub requests : List Message
  pub is : (more : List ℕ) → Past limits requests (got ++ more) (held ++ more)
  pub fewer : left + length requests ≡ k

-- The read was made where more was needed: of k requests some may still come, nothing waits behind those before, and
-- there was room for what it gave.
pub record WasNeeded (limits : Limits) (k room : ℕ) (got : List ℕ) (call : Call) : Type 0 where
  pub left : ℕ
  pub some : 0 < left
  pub held : List ℕ
  pub past : RequestsPassed limits k got left held
  pub waits : NothingWaits limits held
  pub free : length held < room
  pub fits : length held + length (call_bytes call) ≤ room

-- so was each read of a connection
abbrev pub EachWasNeeded : Limits → ℕ → ℕ → List Call → Type 0
EachWasNeeded limits k room calls =
    (before after : List Call) (call : Call) → calls ≡ before ++ call ∷ after →
    WasNeeded limits k room (all_bytes before) call

-- what was taken goes no further than the room past the start of the last request that was looked for, held being what
-- follows that start; and there was at most one read for each byte, and one more
pub record IsBounded (limits : Limits) (k room : ℕ) (calls : List Call) : Type 0 where
  pub left : ℕ
  pub held : List ℕ
  pub past : RequestsPassed limits k (all_bytes calls) left held
  pub small : length held ≤ room
  pub few : length calls ≤ length (all_bytes calls) + 1

-- how serving a connection ended, of which these reads were made; met_fault is said of one that ended without a fault of
-- the reader or the writer
abbrev pub EndsAs : {S : Type 0} → Result (Unit {0}) ServeFault → Machine S → Limits → ℕ → S →
    List Call → Bool → List ℕ → List ℕ → S → Type 0
EndsAs (Ok x) machine limits k s calls met_fault old new t =
    OfConnection (λ bytes. ServedTo machine limits k s bytes met_fault old new t) calls
EndsAs (Err Read) machine limits k s calls met_fault old new t =
    ReadBroken machine limits k s (all_bytes calls) old new t
EndsAs (Err Write) machine limits k s calls met_fault old new t =
    OfConnection (λ bytes. BrokenOff machine limits k s bytes old new t) calls
