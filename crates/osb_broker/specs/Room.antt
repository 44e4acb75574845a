-- The room that connections are read into.
use Rattle.std.specs.Prelude.{Bool}
use Rattle.osb_frames.specs.declared.limits.Limits.{Limits}
use Rattle.osb_broker.specs.declared.buffer.Buffer.{Buffer}

-- the limits that a buffer has room for
abbrev pub limits_of : Buffer → Limits
limits_of buffer = buffer.limits

-- whether the last connection in a buffer ended at a framing fault
abbrev pub met_fault : Buffer → Bool
met_fault buffer = buffer.met_fault
