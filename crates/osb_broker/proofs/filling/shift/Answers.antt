use Rattle.osb_broker.proofs.HoldLemmas.{shifted}
use Rattle.osb_broker.proofs.filling.shift.Goals as goal

pub returns : goal.returns
returns c = shifted c.args.room.now c.copy_within.new.self c.args.used c.args.filled c.requires.used c.requires.filled c.copy_within.ensures.after
