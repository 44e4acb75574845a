use Rattle.std.proofs.Common.{map, vec_items, subst, sym, arith}
use Rattle.std.proofs.lemmas.List.{take_all}
use Rattle.osb_broker.specs.Steps.{capped}
use Rattle.osb_broker.specs.Inside.{given_rules, ServesMore}
use Rattle.osb_broker.proofs.GroupLemmas.{asked_next, more_none, more_then}
use Rattle.osb_broker.proofs.setup.Setup.serve_singly.Goals as goal

pub loop-connection-init : goal.loop-connection-init
loop-connection-init g c = record {
  blank = c.requires.blank;
  fewer = omega arith;
  count = omega arith;
  room = omega arith;
  serves = more_none c.args.outputs.now.items (λ works. c.lives_are_whole.ensures.whole works.clean works.live) (λ works. c.lives_are_whole.ensures.kept works.clean works.live);
}

pub loop-connection-preserved : goal.loop-connection-preserved
loop-connection-preserved g c =
    let before = c.loop-connection.invariant in
    let next = c.serve_alone.ensures in
    record {
      blank = next.blank;
      fewer = omega (arith, before.fewer, next.fewer);
      count = omega (arith, before.count, next.count);
      room = omega (arith, before.room, next.room);
      serves = subst (λ asked. ServesMore g.S.Store (capped (given_rules c.args.self.now)) c.args.limits.now c.args.most.number asked c.args.outputs.now.items c.serve_alone.new.outputs.items c.args.records.now c.serve_alone.new.records)
          (sym (asked_next c.args.connections.now c.loop-connection.connection-index c.connection-item.result c.loop-connection-test.true c.connection-item.is))
          (more_then before.serves (rw c.deref.ensures.value at next.serves));
    }

pub returns-clause-serves : goal.returns-clause-serves
returns-clause-serves g c =
    let all = take_all c.loop-connection.connection-index c.args.connections.now (omega (arith, c.loop-connection-test.false)) in
    subst (λ served. ServesMore g.S.Store (capped (given_rules c.args.self.now)) c.args.limits.now c.args.most.number (map vec_items served) c.args.outputs.now.items c.loop-connection.outputs.items c.args.records.now c.loop-connection.records) all c.loop-connection.invariant.serves
