use Rattle.std.proofs.Common.{◌∙◌, ◌+◌, drop, ap, sym}
use Rattle.std.proofs.lemmas.List.{nil_from_length}
use Rattle.osb_joined.proofs.WithLemmas.{front, back}
use Rattle.osb_joined.proofs.GatherLemmas.{TakesRow, takes_next, takes_none, passes_by, gathers_first, gathers_on, gathers_all, gathered_is}
use Rattle.osb_joined.proofs.gathered.gather.Goals as goal
use Rattle.osb_joined.proofs.gathered.gather.Goals.{then-entry-eq1+in-Some+in_ok-context_of_row+in_ok-push, then-entry-eq1+in_default, else-entry-eq1}

pub loop-entry-init : goal.loop-entry-init
loop-entry-init c = gathers_first c.args.instances.now c.args.orders.now c.new-contexts.result.items c.new-contexts.ensures.items

pub loop-entry-preserved : goal.loop-entry-preserved
loop-entry-preserved c =
    let orders = c.args.orders.now in
    let i = c.loop-entry.entry-index in
    let entry = c.entry-item.result in
    let rows = c.loop-entry.rows.now in
    let done = c.loop-entry.contexts.items in
    let next = c.if-entry-eq1.contexts.items in
    let left = c.if-entry-eq1.rows.now in
    let took : TakesRow entry rows done next left = elim c.if-entry-eq1.branch as (λ _. TakesRow entry rows done next left) [
      | then-entry-eq1+in-Some+in_ok-context_of_row+in_ok-push w ↦ takes_next entry rows done next left w.if-entry-eq1.true w.in-Some.row.now w.in-Some.later.now w.in-Some.ensures.cases.0 (ap (λ rows. rows.now) w.rows-is)
          w.push.new.self.items w.in_ok-context_of_row.field-0 (ap (λ contexts. contexts.items) w.contexts-is) w.in_ok-push.ensures.items w.in_ok-context_of_row.ensures
      | then-entry-eq1+in_default w ↦ takes_none entry rows done next left (nil_from_length rows w.in_default.ensures.cases) (ap (λ contexts. contexts.items) w.contexts-is) (ap (λ rows. rows.now) w.rows-is)
      | else-entry-eq1 w ↦ passes_by entry rows done next left w.if-entry-eq1.false (ap (λ contexts. contexts.items) w.contexts-is) (ap (λ rows. rows.now) w.rows-is)
    ] in
    gathers_on c.args.instances.now orders done rows (drop i orders) c.loop-entry.invariant entry (drop (i + 1) orders) (front orders i entry c.loop-entry-test.true c.entry-item.is) next left took
    c.push-in-loop-entry.new.self.items c.in_ok-context_of_entry.field-0 c.in_ok-push-2.ensures.items c.in_ok-context_of_entry.ensures

pub returns : goal.returns
returns c = λ bindings rows.
    let orders = c.args.orders.now in
    let instances = c.args.instances.now in
    let i = c.loop-entry.entry-index in
    sym (gathers_all instances orders c.loop-entry.contexts.items c.loop-entry.rows.now (drop i orders) c.loop-entry.invariant (back orders i c.loop-entry-test.false))
    ∙ gathered_is orders instances bindings rows
