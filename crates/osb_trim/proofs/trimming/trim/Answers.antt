use Rattle.std.proofs.Common.{rules}
use Rattle.osb_trim.proofs.TrimLemmas.{erased_in_place}
use Rattle.osb_trim.proofs.trimming.trim.Goals as goal

pub loop-place-preserved : goal.loop-place-preserved
loop-place-preserved c = erased_in_place c.args.life.items c.loop-place.life.items c.loop-place.place c.index_mut-order.result.now c.in_ok-order.field-0 (search rules) c.loop-place.invariant (search rules) (search rules)
