-- What a counted reader or writer wraps, and the calls that were made of it.
use Rattle.std.specs.Prelude.{List}
use Rattle.osb_frames.specs.declared.counted.Counted.{Counted}
use Rattle.osb_frames.specs.Calls.{Call}

-- the calls, the oldest first
abbrev pub calls_of : {T : Type 0} → Counted T → List Call
calls_of s = s.calls.list

-- the reader or the writer in it
abbrev pub inner_of : {T : Type 0} → Counted T → T
inner_of s = s.inner
