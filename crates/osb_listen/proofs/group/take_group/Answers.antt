use Rattle.std.proofs.Common.{◌∙◌, arith}
use Rattle.osb_broker.specs.BrokerState.{lives_of}
use Rattle.osb_broker.proofs.ShutLemmas.{not_touched, worked_then}
use Rattle.osb_listen.proofs.GroupLemmas.{byte_few, none_taken, taken_next}
use Rattle.osb_listen.proofs.group.take_group.Goals as goal

pub loop-turn-init : goal.loop-turn-init
unfolding lives_of
loop-turn-init g c =
    let one = c.begin_client-one.ensures in
    let two = c.begin_client-two.ensures in
    let none = none_taken _ _ _ _ _ _ _ _ _ _ c.lives_are_whole.ensures.whole c.lives_are_whole.ensures.kept in
    let first = taken_next _ _ _ _ _ _ none _ _ _ _ _ _ _ _ c.begin_client-one.result 1 c.from.result (omega arith) (omega (arith, c.from.ensures)) not_touched one.worked
    (rw (c.requires.nobody.0, c.requires.nobody.1, c.requires.none.0, c.requires.none.1) at one.begun) in
    record {
      inside = c.requires.two;
      some = omega arith;
      fewer = omega (arith, c.from.ensures, c.from-2.ensures, byte_few c.begin_client-one.result, byte_few c.begin_client-two.result);
      room_last = omega (arith, c.requires.room.0, one.capacity.0, two.capacity.0);
      room_open = omega (arith, c.requires.room.1, one.capacity.1, two.capacity.1);
      most = two.most ∙ one.most;
      rules = two.rules ∙ one.rules;
      limits = two.limits ∙ one.limits;
      missed = two.missed ∙ one.missed;
      worked = worked_then one.worked two.worked;
      taken = taken_next _ _ _ _ _ _ first _ _ _ _ _ _ _ _ c.begin_client-two.result _ _ (omega arith) (omega (arith, c.from-2.ensures)) one.worked two.worked (rw (one.rules, one.limits, one.most) at two.begun);
    }

pub loop-turn-preserved : goal.loop-turn-preserved
loop-turn-preserved g c =
    let before = c.loop-turn.invariant in
    let ready = c.in-Some.ensures in
    let next = c.begin_client-more.ensures in
    record {
      inside = omega (arith, c.loop-turn-test.true);
      some = omega (arith, before.some);
      fewer = omega (arith, before.fewer, c.from-in-loop-turn.ensures, byte_few c.begin_client-more.result);
      room_last = omega (arith, before.room_last, next.capacity.0);
      room_open = omega (arith, before.room_open, next.capacity.1);
      most = next.most ∙ before.most;
      rules = next.rules ∙ before.rules;
      limits = next.limits ∙ before.limits;
      missed = next.missed ∙ ready.missed ∙ before.missed;
      worked = worked_then before.worked next.worked;
      taken = taken_next _ _ _ _ _ _ before.taken _ _ _ _ _ _ _ _ c.begin_client-more.result _ _ (omega arith) (omega (arith, c.from-in-loop-turn.ensures)) before.worked next.worked (rw (before.rules, before.limits, before.most, ready.journal) at next.begun);
    }
