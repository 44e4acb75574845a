use Rattle.osb_broker.proofs.RepliedLemmas.{once, most}
use Rattle.osb_broker.proofs.laws.replied.Goals as goal

pub returns-clause-once : goal.returns-clause-once
returns-clause-once c = once

pub returns-clause-most : goal.returns-clause-most
returns-clause-most c = most
