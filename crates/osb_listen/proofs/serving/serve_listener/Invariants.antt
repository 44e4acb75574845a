use Rattle.std.proofs.Common.{◌≡◌, ◌≤◌, ◌+◌, ◌*◌, ℕ, List, length}
use Rattle.osb_broker.specs.BrokerState.{most_of, rules_in, store_of}
use Rattle.osb_broker.specs.Exchanges.{Exchange}
use Rattle.osb_broker.specs.Inside.{Worked}
use Rattle.osb_broker.specs.Room.{limits_of}
use Rattle.osb_listen.specs.Exchanges.{ended_in}
use Rattle.osb_listen.proofs.ExchangeLemmas.{ServesSome}
use Rattle.osb_listen.proofs.serving.serve_listener.Given as goal

abbrev pub decreases-loop-left : goal.decreases-loop-left
decreases-loop-left g l = l.requests

abbrev pub invariant-loop-left : goal.invariant-loop-left
invariant-loop-left g l = record {
  most : most_of l.broker ≡ most_of l.fn.broker;
  rules : rules_in l.broker ≡ rules_in l.fn.broker;
  limits : limits_of l.buffer ≡ limits_of l.fn.buffer;
  missed : g.L.Entrance.missed l.entrance ≡ g.L.Entrance.missed l.fn.entrance;
  worked : Worked (store_of g.S.Store l.fn.broker) (store_of g.S.Store l.broker);
  served : (exchanges : List Exchange) × (ended_in exchanges + l.left ≡ l.fn.connections) × (l.fn.connections * most_of l.fn.broker ≤ length exchanges + l.requests)
      × ServesSome (rules_in l.fn.broker) (limits_of l.fn.buffer) (most_of l.fn.broker) (store_of g.S.Store l.fn.broker) (g.L.Entrance.journal l.fn.entrance) (g.E.Sink.taken l.fn.errors) (g.E.Sink.failed_or_empty l.fn.errors)
      exchanges (store_of g.S.Store l.broker) (g.L.Entrance.journal l.entrance) (g.E.Sink.taken l.errors) (g.E.Sink.failed_or_empty l.errors);
}
