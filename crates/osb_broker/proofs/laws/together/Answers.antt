use Rattle.osb_broker.proofs.BegunLemmas.{groups_are}
use Rattle.osb_broker.proofs.laws.together.Goals as goal

pub returns : goal.returns
returns c = groups_are
