use Rattle.std.proofs.Common.{refl, ◌∙◌}
use Rattle.sqlite.specs.Held.{state}
use Rattle.osb_statements.proofs.ListingLemmas.{none_listed, next_listed}
use Rattle.osb_statements.proofs.NamedLemmas.{unchanged_records}
use Rattle.osb_statements.proofs.reading.listed_orders.Goals as goal

pub loop-row-init : goal.loop-row-init
loop-row-init g c = (refl, none_listed (state g.S.Store c.args.tx.now.conn.now) c.args.rows.now c.new-orders.result.items c.new-orders.ensures.items c.requires)

pub listed_order-requires : goal.listed_order-requires
listed_order-requires g c = c.loop-row.invariant.1.shows

pub loop-row-preserved : goal.loop-row-preserved
loop-row-preserved g c =
    let old = state g.S.Store c.args.tx.now.conn.now in
    let now = state g.S.Store c.loop-row.tx.conn.now in
    let next = state g.S.Store c.listed_order.new.tx.conn.now in (
      c.in_ok-listed_order.ensures.reads.same_reference ∙ c.loop-row.invariant.0,
      next_listed old now next c.args.rows.now c.loop-row.row-index c.row-item.result c.loop-row.orders.items c.push.new.self.items c.in_ok-listed_order.field-0 c.loop-row.invariant.1
          c.in_ok-listed_order.ensures.reads.survives c.in_ok-listed_order.ensures.reads.same (λ clean live. unchanged_records now next c.in_ok-listed_order.ensures.reads.survives c.loop-row.invariant.1.shows clean (c.in_ok-listed_order.ensures.reads.same clean)) c.in_ok-listed_order.ensures.ok c.loop-row-test.true c.row-item.is c.in_ok-push.ensures.items,
    )
