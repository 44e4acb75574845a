use Rattle.std.proofs.Common.{◌∙◌, ◌+◌, ◌∷◌, ◌++◌, [], drop, ap, sym}
use Rattle.std.proofs.lemmas.List.{nil_from_length}
use Rattle.osb_audit.specs.Orders.{Entry}
use Rattle.osb_joined.specs.Join.{is_of_order}
use Rattle.osb_joined.specs.Fits.{fits_order}
use Rattle.osb_joined.proofs.PassLemmas.{passes_first, passes_by, passes_none, passes_other, passes_on, passed, items_left}
use Rattle.osb_joined.proofs.WithLemmas.{order_joins, orders_given, no_orders, front, back, of_order, not_of_order, none_left, first_left}
use Rattle.osb_joined.proofs.pass.join_orders.Goals as goal

pub loop-context-init : goal.loop-context-init
loop-context-init c = passes_first is_of_order fits_order order_joins c.args.contexts.now c.args.orders.now c.new-joined.result.items c.new-joined.ensures.items

pub loop-context-preserved-then-context-eq0 : goal.loop-context-preserved-then-context-eq0
loop-context-preserved-then-context-eq0 c =
    let contexts = c.args.contexts.now in
    let i = c.loop-context.context-index in
    let context = c.context-item.result in
    passes_by is_of_order fits_order order_joins contexts c.args.orders.now c.loop-context.joined.items c.loop-context.left.now (drop i contexts) context (drop (i + 1) contexts) (front contexts i context c.loop-context-test.true c.context-item.is) c.loop-context.invariant
    (not_of_order context.number c.if-context-eq0.true)

pub returns-in-None-clause-none : goal.returns-in-None-clause-none
returns-in-None-clause-none c =
    let contexts = c.args.contexts.now in
    let i = c.loop-context.context-index in
    let context = c.context-item.result in
    no_orders contexts c.args.orders.now
    (passes_none is_of_order fits_order order_joins contexts c.args.orders.now c.loop-context.joined.items c.loop-context.left.now (drop i contexts) context (drop (i + 1) contexts) (front contexts i context c.loop-context-test.true c.context-item.is) c.loop-context.invariant
    (of_order context.number c.if-context-eq0.false) (nil_from_length c.loop-context.left.now c.in-None.ensures.cases))

pub returns-then-not-fits_order-clause-none : goal.returns-then-not-fits_order-clause-none
returns-then-not-fits_order-clause-none c =
    let contexts = c.args.contexts.now in
    let i = c.loop-context.context-index in
    let context = c.context-item.result in
    no_orders contexts c.args.orders.now
    (passes_other is_of_order fits_order order_joins contexts c.args.orders.now c.loop-context.joined.items c.loop-context.left.now (drop i contexts) context (drop (i + 1) contexts) (front contexts i context c.loop-context-test.true c.context-item.is) c.loop-context.invariant
    (of_order context.number c.if-context-eq0.false) c.in-Some.parts.0.now c.in-Some.parts.1.now c.in-Some.ensures.cases.0 (sym c.fits_order.ensures ∙ c.if-not-fits_order.true))

pub loop-context-preserved : goal.loop-context-preserved
loop-context-preserved c =
    let contexts = c.args.contexts.now in
    let i = c.loop-context.context-index in
    let context = c.context-item.result in
    let done = c.loop-context.joined.items in
    passes_on is_of_order fits_order order_joins contexts c.args.orders.now done c.loop-context.left.now (drop i contexts) context (drop (i + 1) contexts) (front contexts i context c.loop-context-test.true c.context-item.is) c.loop-context.invariant
    (of_order context.number c.if-context-eq0.false) c.in-Some.parts.0.now c.in-Some.parts.1.now c.in-Some.ensures.cases.0 (sym c.fits_order.ensures ∙ c.if-not-fits_order.false)
    c.push.new.self.items (c.in_ok-push.ensures.items ∙ ap (λ (entry : Entry). done ++ entry ∷ []) c.in_ok-join_order.ensures)

pub returns-then-is_empty-clause-some : goal.returns-then-is_empty-clause-some
returns-then-is_empty-clause-some c =
    let contexts = c.args.contexts.now in
    let i = c.loop-context.context-index in
    orders_given contexts c.args.orders.now c.loop-context.joined.items
    (passed is_of_order fits_order order_joins contexts c.args.orders.now c.loop-context.joined.items c.loop-context.left.now (drop i contexts) (back contexts i c.loop-context-test.false) c.loop-context.invariant
    (none_left c.loop-context.left.now (sym c.is_empty.ensures ∙ c.if-is_empty.true)))

pub returns-else-is_empty-clause-none : goal.returns-else-is_empty-clause-none
returns-else-is_empty-clause-none c =
    let contexts = c.args.contexts.now in
    let i = c.loop-context.context-index in
    let left = first_left c.loop-context.left.now (sym c.is_empty.ensures ∙ c.if-is_empty.false) in
    no_orders contexts c.args.orders.now
    (items_left is_of_order fits_order order_joins contexts c.args.orders.now c.loop-context.joined.items c.loop-context.left.now (drop i contexts) (back contexts i c.loop-context-test.false) c.loop-context.invariant left.0 left.1 left.2)
