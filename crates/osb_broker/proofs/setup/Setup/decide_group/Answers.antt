use Rattle.std.proofs.Common.{rules, ◌≡◌, ◌∙◌, true, ap, arith, subst, ◌+◌}
use Rattle.sqlite.specs.Held.{state}
use Rattle.sqlite.specs.State.{HasCleanDisk}
use Rattle.osb_statements.specs.Steps.{stored}
use Rattle.osb_broker.specs.BrokerState.{Works}
use Rattle.osb_broker.specs.Groups.{Joins}
use Rattle.osb_broker.specs.Inside.{given_rules}
use Rattle.osb_broker.proofs.GroupLemmas.{group_on, stays_on}
use Rattle.osb_broker.proofs.setup.Setup.decide_group.Goals as goal

pub loop-connection-preserved : goal.loop-connection-preserved
loop-connection-preserved g c =
    let before = c.loop-connection.invariant in
    let join = c.join.ensures in
    let joined : c.join.result ≡ true = search rules in
    let clean_mid : HasCleanDisk (state g.S.Store c.join.new.records) → HasCleanDisk (state g.S.Store c.loop-connection.records) = λ clean. omega (arith, join.stays.crash.clean) in
    let works_mid : HasCleanDisk (state g.S.Store c.join.new.records) → Works (state g.S.Store c.loop-connection.records) = λ clean. record { clean = clean_mid clean; live = join.open clean joined } in
    record {
      count = join.count joined ∙ ap (λ n. n + 1) before.count;
      room = omega (arith, before.room, join.room);
      some = join.changes before.some;
      stays = stays_on before.stays join.stays;
      open_before = λ clean some. (before.stays.works (works_mid clean)).live;
      decided = λ works clean. group_on (given_rules c.args.self.now) c.args.limits.now c.args.most.number (stored (state g.S.Store c.args.records.now)) c.args.connections.now c.loop-connection.connection-index c.connection-item.result c.loop-connection.group c.join.new.group c.loop-connection-test.true c.connection-item.is
          (before.decided works (clean_mid clean))
          (rw c.deref.ensures.value at (subst (λ l. Joins (given_rules c.args.self.now) c.args.limits.now c.args.most.number l c.deref.result.now c.loop-connection.group c.join.new.group) (before.stays.same (works_mid clean)) (join.joins (works_mid clean) clean joined)));
    }
