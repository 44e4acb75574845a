use Rattle.osb_broker.specs.BrokerState.{lives_of}
use Rattle.osb_broker.proofs.GroupLemmas.{from_empty}
use Rattle.osb_broker.proofs.broker.Broker.answer_as.Goals as goal

pub returns-clause-leaves : goal.returns-clause-leaves
unfolding lives_of
returns-clause-leaves g c works clean =
    let serves = rw c.deref.ensures.value at c.serve_groups.ensures.serves in
    rw (← c.waiting.view_is) ((from_empty c.waiting.invariant.none serves).leaves works clean)
