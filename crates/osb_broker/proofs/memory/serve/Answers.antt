use Rattle.std.proofs.Common.{inl, refl}
use Rattle.osb_broker.specs.BrokerState.{lives_of}
use Rattle.osb_broker.proofs.StoreLemmas.{memory_works}
use Rattle.osb_broker.proofs.memory.serve.Goals as goal

pub returns-clause-ok : goal.returns-clause-ok
returns-clause-ok g c = c.serve.ensures.ok (memory_works c.serve.new.self)

pub returns-clause-outcome : goal.returns-clause-outcome
unfolding lives_of
returns-clause-outcome g c =
    let told = c.serve.ensures.outcome in
    (told.0, told.1, told.2, told.3, told.4 _ _ (inl (memory_works c.serve.new.self, refl, refl)))
