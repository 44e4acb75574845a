use Rattle.std.proofs.Common.{rules}
use Rattle.osb_trim.proofs.CountLemmas.{counted}
use Rattle.osb_trim.proofs.counted.trimmed_count.Goals as goal

pub returns : goal.returns
returns c = counted c.deleted.result c.loop-order.count c.loop-order.order-index c.args.life.now c.deleted.ensures.parts c.loop-order.invariant.counted (search rules)
