use Rattle.std.proofs.Common.{◌≡◌, false, drop}
use Rattle.osb_trim.proofs.LifeLemmas.{deletes}
use Rattle.osb_trim.proofs.trimming.deleted.Given as goal

abbrev pub invariant-loop-place : goal.invariant-loop-place
invariant-loop-place l = deletes (drop l.place l.life) ≡ false
