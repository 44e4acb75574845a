use Rattle.std.proofs.Common.{◌≡◌, length}
use Rattle.osb_asks.specs.Credentials.{after_spaces}
use Rattle.osb_asks.proofs.credentials.after_spaces.Given as goal

abbrev pub invariant-loop-bytes : goal.invariant-loop-bytes
invariant-loop-bytes l = after_spaces l.bytes ≡ after_spaces l.fn.bytes

abbrev pub decreases-loop-bytes : goal.decreases-loop-bytes
decreases-loop-bytes l = length l.bytes
