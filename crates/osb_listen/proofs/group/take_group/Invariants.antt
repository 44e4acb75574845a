use Rattle.std.proofs.Common.{◌≡◌, ◌≤◌, ◌<◌, ◌-◌, length, vec_capacity}
use Rattle.osb_broker.specs.BrokerState.{most_of, rules_in, store_of}
use Rattle.osb_broker.specs.Inside.{Worked}
use Rattle.osb_broker.specs.Room.{limits_of}
use Rattle.osb_listen.specs.Groups.{AreTaken}
use Rattle.osb_listen.proofs.group.take_group.Given as goal

abbrev pub decreases-loop-turn : goal.decreases-loop-turn
decreases-loop-turn g l = l.most - l.turn.taken

abbrev pub invariant-loop-turn : goal.invariant-loop-turn
invariant-loop-turn g l =
    let entrance = g.L.Entrance in
    record {
      inside : l.turn.taken ≤ l.fn.most;
      some : 2 ≤ l.turn.taken;
      fewer : l.turn.ended ≤ l.turn.taken;
      room_last : l.fn.most ≤ vec_capacity l.kept.last;
      room_open : l.fn.most ≤ vec_capacity l.kept.others;
      most : most_of l.broker ≡ most_of l.fn.broker;
      rules : rules_in l.broker ≡ rules_in l.fn.broker;
      limits : limits_of l.buffer ≡ limits_of l.fn.buffer;
      missed : entrance.missed l.entrance ≡ entrance.missed l.fn.entrance;
      worked : Worked (store_of g.S.Store l.fn.broker) (store_of g.S.Store l.broker);
      taken : AreTaken g.L.In.Source.calls g.L.Out.Sink.taken g.L.Out.Sink.failed_or_empty (rules_in l.fn.broker) (limits_of l.fn.buffer) (most_of l.fn.broker) l.turn.taken l.turn.ended
          l.kept.last.items l.kept.waiting l.kept.others.items l.kept.staying
          (store_of g.S.Store l.fn.broker) (store_of g.S.Store l.broker) (entrance.journal l.fn.entrance) (entrance.journal l.entrance) (g.E.Sink.taken l.fn.errors) (g.E.Sink.taken l.errors) (g.E.Sink.failed_or_empty l.fn.errors) (g.E.Sink.failed_or_empty l.errors);
    }
