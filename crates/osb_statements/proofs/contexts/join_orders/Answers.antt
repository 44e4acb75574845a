use Rattle.std.proofs.Common.{rules, ◌≡◌, refl, ap, ◌∙◌}
use Rattle.osb_contexts.specs.Reads.{behind}
use Rattle.osb_contexts.specs.Steps.{contexts}
use Rattle.osb_joined.specs.Joined.{joined_order}
use Rattle.osb_statements.proofs.ContextLemmas.{none_joined, next_joined}
use Rattle.osb_statements.proofs.contexts.join_orders.Goals as goal

pub loop-order-init : goal.loop-order-init
loop-order-init g c = (refl, none_joined (λ s. joined_order (contexts s) c.args.instance.now) (behind g.S.Store c.args.tx.now) c.args.orders.now c.new-joined.result.items c.new-joined.ensures.items c.requires)

pub joined_order-requires : goal.joined_order-requires
joined_order-requires g c = c.loop-order.invariant.1.shows

pub loop-order-preserved : goal.loop-order-preserved
loop-order-preserved g c =
    let old = behind g.S.Store c.args.tx.now in
    let now = behind g.S.Store c.loop-order.tx in
    let next = behind g.S.Store c.joined_order.new.tx in
    let copied : c.in_ok-clone.field-0 ≡ c.order-item.result = search rules in (
      c.in_ok-joined_order.ensures.reads.same_reference ∙ c.loop-order.invariant.0,
      next_joined (λ s. joined_order (contexts s) c.args.instance.now) (λ _ _ is order. ap (λ entries. joined_order entries c.args.instance.now order) is) old now next c.args.orders.now c.loop-order.order-index c.order-item.result c.loop-order.joined.items c.push.new.self.items c.in_ok-joined_order.field-0 c.loop-order.invariant.1
          c.in_ok-joined_order.ensures.reads.survives c.in_ok-joined_order.ensures.reads.same (rw copied at c.in_ok-joined_order.ensures.ok) c.loop-order-test.true c.order-item.is c.in_ok-push.ensures.items,
    )
