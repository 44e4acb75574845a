use Rattle.std.proofs.Common.{ap, map, ◌∙◌}
use Rattle.osb_joined.specs.Joined.{joined_order}
use Rattle.osb_contexts.specs.Reads.{behind}
use Rattle.osb_contexts.specs.Steps.{contexts}
use Rattle.osb_rows.proofs.ResultLemmas.{if_ok}
use Rattle.osb_statements.proofs.ContextLemmas.{shows_records, shows_contexts, still_shown, same_contexts, life_read}
use Rattle.osb_statements.proofs.reading.list_life.Goals as goal
use Rattle.osb_contexts.proofs.StepLemmas.{clean_before}

pub select_orders-requires : goal.select_orders-requires
select_orders-requires g c = shows_records (behind g.S.Store c.args.tx.now) c.requires

pub join_orders-requires : goal.join_orders-requires
join_orders-requires g c =
    let old = behind g.S.Store c.args.tx.now in
    still_shown old (behind g.S.Store c.select_orders.new.tx) c.select_orders.ensures.reads.survives (shows_contexts old c.requires) c.in_ok-orders.ensures.reads.same

pub returns-clause-ok : goal.returns-clause-ok
returns-clause-ok g c clean =
    let old = behind g.S.Store c.args.tx.now in
    let mid = behind g.S.Store c.select_orders.new.tx in
    let new = behind g.S.Store c.join_orders.new.tx in
    let id = c.args.instance.now in
    let before = clean_before mid new _ c.join_orders.ensures.reads.survives clean in
    let unchanged = c.in_ok-orders.ensures.reads.same before in
    let has = c.requires (clean_before old mid _ c.select_orders.ensures.reads.survives before) unchanged.0.was_open in
    if_ok c.join_orders.result (λ orders is.
    is ∙ ap (λ entries. map (joined_order entries id) c.in_ok-orders.orders.items) (same_contexts old mid unchanged) ∙ ap (map (joined_order (contexts old) id)) (c.in_ok-orders.ensures.ok before) ∙ life_read old.now has id)
    (rw (c.deref.ensures.value) at (c.join_orders.ensures.ok clean unchanged.0.is_open))
