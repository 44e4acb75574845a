use Rattle.std.proofs.Common.{rules, ◌≡◌, get_or, sym, subst}
use Rattle.sqlite.specs.Held.{state}
use Rattle.osb_orders.specs.declared.order.Order.{Order}
use Rattle.osb_file.proofs.TrimmingLemmas.{append_keeps, next_appended}
use Rattle.osb_file.proofs.trimming.append_all.Goals as goal

pub commit-requires-clause-whole : goal.commit-requires-clause-whole
commit-requires-clause-whole g c clean live =
    let old = state g.S.Store c.args.records.now in
    let now = state g.S.Store c.loop-order.records in
    let same : c.in_ok-clone.field-0 ≡ c.order-item.result = search rules in
    let at = subst (λ (order : Order). order ≡ get_or c.args.orders.now c.loop-order.order-index order) (sym same) c.order-item.is in
    append_keeps old now c.args.id.now c.args.orders.now c.loop-order.order-index c.in_ok-clone.field-0 c.loop-order-test.true at c.loop-order.invariant c.exclusive.ensures.changes c.requires.id c.requires.life live (c.lives_are_whole.ensures.whole clean live)

pub loop-order-preserved : goal.loop-order-preserved
loop-order-preserved g c =
    let old = state g.S.Store c.args.records.now in
    let now = state g.S.Store c.loop-order.records in
    let next = state g.S.Store c.commit.new.self in
    let same : c.in_ok-clone.field-0 ≡ c.order-item.result = search rules in
    let at = subst (λ (order : Order). order ≡ get_or c.args.orders.now c.loop-order.order-index order) (sym same) c.order-item.is in
    next_appended old now c.args.id.now c.args.orders.now c.loop-order.order-index c.in_ok-clone.field-0 c.loop-order-test.true at c.loop-order.invariant next
    (c.in_ok-commit.ensures.was_open (c.requires.clean c.commit.new.self)) (c.in_ok-commit.ensures.ok (c.requires.clean c.commit.new.self))
