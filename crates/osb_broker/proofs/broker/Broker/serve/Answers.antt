use Rattle.std.proofs.Common.{inl, refl}
use Rattle.osb_broker.specs.BrokerState.{lives_of, most_of, rules_in}
use Rattle.osb_broker.specs.Steps.{machine}
use Rattle.osb_broker.proofs.HoldLemmas.{known_ok}
use Rattle.osb_broker.proofs.broker.Broker.serve.Goals as goal

pub returns-clause-ok : goal.returns-clause-ok
unfolding lives_of
returns-clause-ok g c works =
    let told = c.serve_in-served.ensures.outcome in
    known_ok c.serve_in-served.result (machine (rules_in c.args.self.now)) _ (most_of c.args.self.now) _ _ _ told.0 _ _ _ _ told.1 (told.4 _ _ (inl (works, refl, refl)))
