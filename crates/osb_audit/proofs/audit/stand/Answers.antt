use Rattle.std.proofs.Common.{false, refl, ◌∙◌, ◌+◌, ◌∷◌, drop, ap, sym, arith}
use Rattle.std.proofs.lemmas.List.{drop_more, drop_all}
use Rattle.osb_audit.specs.Instances.{InstanceEntry}
use Rattle.osb_audit.proofs.TreeLemmas.{refused}
use Rattle.osb_audit.proofs.StandLemmas.{stepped, stopped, orders_left, no_orders_left}
use Rattle.osb_audit.proofs.audit.stand.Goals as goal

pub returns-then-not-branch : goal.returns-then-not-branch
returns-then-not-branch c = λ rise.
    let instances = c.args.instances.now in
    let i = c.loop-id.id-index in
    let entry = c.loop-id-item.result in
    let front = drop_more instances i entry c.loop-id-test.true ∙ ap (λ (entry : InstanceEntry). entry ∷ drop (i + 1) instances) (sym c.loop-id-item.is) in
    refused false refl (stopped entry.0 entry.1 _ _ front _ _ _ _ _ _ c.orders_of-life.ensures.front c.orders_of-life.ensures.back c.bindings_of-bound.ensures.front c.bindings_of-bound.ensures.back (c.loop-id.invariant rise)
    (λ alone. let yes = c.in_ok-is_consistent.ensures.1 alone in let no_more = c.if-not-branch.true in cc))

pub loop-id-preserved : goal.loop-id-preserved
loop-id-preserved c = λ rise.
    let instances = c.args.instances.now in
    let i = c.loop-id.id-index in
    let entry = c.loop-id-item.result in
    let front = drop_more instances i entry c.loop-id-test.true ∙ ap (λ (entry : InstanceEntry). entry ∷ drop (i + 1) instances) (sym c.loop-id-item.is) in
    stepped entry.0 entry.1 _ _ front _ _ _ _ _ _ c.orders_of-life.ensures.front c.orders_of-life.ensures.back c.bindings_of-bound.ensures.front c.bindings_of-bound.ensures.back (c.loop-id.invariant rise)
    (c.in_ok-is_consistent.ensures.0 c.if-not-branch.false)

pub returns-then-is_empty : goal.returns-then-is_empty
returns-then-is_empty c = λ rise.
    no_orders_left (drop c.loop-id.id-index c.args.instances.now) (drop_all c.loop-id.id-index c.args.instances.now (omega arith)) c.loop-id.later.now c.loop-id.others.now (c.loop-id.invariant rise).1
    (sym c.is_empty.ensures ∙ c.if-is_empty.true) c.is_empty-then-is_empty.result c.is_empty-then-is_empty.ensures

pub returns-else-is_empty : goal.returns-else-is_empty
returns-else-is_empty c = λ rise.
    refused c.is_empty.result c.if-is_empty.false (orders_left (drop c.loop-id.id-index c.args.instances.now) (drop_all c.loop-id.id-index c.args.instances.now (omega arith)) c.loop-id.later.now c.loop-id.others.now (c.loop-id.invariant rise).1
    (sym c.is_empty.ensures ∙ c.if-is_empty.false))
