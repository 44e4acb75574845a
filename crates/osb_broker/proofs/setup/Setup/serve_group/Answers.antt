use Rattle.std.proofs.Common.{◌<◌, map, take, vec_items, vec_len, sym, subst, arith}
use Rattle.sqlite.specs.Held.{state}
use Rattle.osb_statements.specs.Steps.{stored}
use Rattle.osb_broker.specs.Groups.{IsGroup}
use Rattle.osb_broker.specs.Inside.{given_rules}
use Rattle.osb_broker.proofs.GroupLemmas.{group_given_up, group_serves, group_worked}
use Rattle.osb_broker.proofs.setup.Setup.serve_group.Goals as goal

pub returns-in-Ok-make_all-clause-served : goal.returns-in-Ok-make_all-clause-served
returns-in-Ok-make_all-clause-served g c =
    let rules = given_rules c.args.self.now in
    let limits = c.args.limits.now in
    let connections = map vec_items (take (vec_len c.in-Ok.field-0.outputs) c.args.connections.now) in
    let texts = map vec_items c.in-Ok.field-0.outputs.items in
    let some : 0 < vec_len c.in-Ok.field-0.outputs = omega (arith, c.if-count-eq0.false, c.len-count.ensures) in
    group_serves g.S.Store rules limits c.args.most.number connections texts c.deref.result.now c.args.records.now c.decide_group.new.records c.make_all.new.records
    c.decide_group.ensures.stays (λ clean. c.in-Ok.ensures.open clean some)
    (λ works clean. subst (IsGroup rules limits c.args.most.number (stored (state g.S.Store c.args.records.now)) connections texts) (sym c.deref.ensures.value) (c.in-Ok.ensures.decided works clean))
    (λ works. c.lives_are_whole.ensures.whole works.clean works.live) (λ works. c.lives_are_whole.ensures.kept works.clean works.live)
    c.make_all.ensures.works c.make_all.ensures.crash
    c.in-Ok-make_all.ensures.ok c.make_all.ensures.none c.in-Ok-make_all.ensures.open c.in-Ok-make_all.ensures.durable

pub returns-in-Err-clause-crash : goal.returns-in-Err-clause-crash
returns-in-Err-clause-crash g c works =
    let rules = given_rules c.args.self.now in
    let limits = c.args.limits.now in
    let connections = map vec_items (take (vec_len c.in-Ok.field-0.outputs) c.args.connections.now) in
    let texts = map vec_items c.in-Ok.field-0.outputs.items in
    let some : 0 < vec_len c.in-Ok.field-0.outputs = omega (arith, c.if-count-eq0.false, c.len-count.ensures) in
    rw c.len-count.ensures (group_given_up g.S.Store rules limits c.args.most.number connections texts c.deref.result.now c.args.records.now c.decide_group.new.records c.make_all.new.records
    c.decide_group.ensures.stays (λ clean. c.in-Ok.ensures.open clean some)
    (λ works clean. subst (IsGroup rules limits c.args.most.number (stored (state g.S.Store c.args.records.now)) connections texts) (sym c.deref.ensures.value) (c.in-Ok.ensures.decided works clean))
    (λ works. c.lives_are_whole.ensures.whole works.clean works.live) (λ works. c.lives_are_whole.ensures.kept works.clean works.live)
    c.make_all.ensures.works c.make_all.ensures.crash works)

pub returns-in-Ok-make_all-clause-worked : goal.returns-in-Ok-make_all-clause-worked
returns-in-Ok-make_all-clause-worked g c =
    let rules = given_rules c.args.self.now in
    let limits = c.args.limits.now in
    let connections = map vec_items (take (vec_len c.in-Ok.field-0.outputs) c.args.connections.now) in
    let texts = map vec_items c.in-Ok.field-0.outputs.items in
    let some : 0 < vec_len c.in-Ok.field-0.outputs = omega (arith, c.if-count-eq0.false, c.len-count.ensures) in
    group_worked g.S.Store rules limits c.args.most.number connections texts c.deref.result.now c.args.records.now c.decide_group.new.records c.make_all.new.records
    c.decide_group.ensures.stays (λ clean. c.in-Ok.ensures.open clean some)
    (λ works clean. subst (IsGroup rules limits c.args.most.number (stored (state g.S.Store c.args.records.now)) connections texts) (sym c.deref.ensures.value) (c.in-Ok.ensures.decided works clean))
    (λ works. c.lives_are_whole.ensures.whole works.clean works.live) (λ works. c.lives_are_whole.ensures.kept works.clean works.live)
    c.make_all.ensures.works c.make_all.ensures.crash

pub returns-in-Err-clause-worked : goal.returns-in-Err-clause-worked
returns-in-Err-clause-worked g c =
    let rules = given_rules c.args.self.now in
    let limits = c.args.limits.now in
    let connections = map vec_items (take (vec_len c.in-Ok.field-0.outputs) c.args.connections.now) in
    let texts = map vec_items c.in-Ok.field-0.outputs.items in
    let some : 0 < vec_len c.in-Ok.field-0.outputs = omega (arith, c.if-count-eq0.false, c.len-count.ensures) in
    group_worked g.S.Store rules limits c.args.most.number connections texts c.deref.result.now c.args.records.now c.decide_group.new.records c.make_all.new.records
    c.decide_group.ensures.stays (λ clean. c.in-Ok.ensures.open clean some)
    (λ works clean. subst (IsGroup rules limits c.args.most.number (stored (state g.S.Store c.args.records.now)) connections texts) (sym c.deref.ensures.value) (c.in-Ok.ensures.decided works clean))
    (λ works. c.lives_are_whole.ensures.whole works.clean works.live) (λ works. c.lives_are_whole.ensures.kept works.clean works.live)
    c.make_all.ensures.works c.make_all.ensures.crash
