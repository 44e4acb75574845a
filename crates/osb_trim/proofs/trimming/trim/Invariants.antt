use Rattle.std.proofs.Common.{◌≡◌}
use Rattle.osb_trim.proofs.TrimLemmas.{erased_up_to}
use Rattle.osb_trim.proofs.trimming.trim.Given as goal

abbrev pub invariant-loop-place : goal.invariant-loop-place
invariant-loop-place l = l.life.items ≡ erased_up_to l.place l.fn.life.items
