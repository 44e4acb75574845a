use Rattle.sqlite.specs.Held.{state}
use Rattle.osb_statements.specs.Steps.{bare_in, content}
use Rattle.osb_statements.proofs.ListingLemmas.{listing_found}
use Rattle.osb_statements.proofs.instances.read_busy.Goals as goal
use Rattle.osb_contexts.proofs.StepLemmas.{clean_before, if_ok_with}

pub returns-clause-ok : goal.returns-clause-ok
returns-clause-ok g c clean =
    let old = state g.S.Store c.args.tx.now.conn.now in
    let new = state g.S.Store c.select_busy.new.tx.conn.now in
    if_ok_with c.select_busy.result (λ rows same are found named.
    let records = c.requires (clean_before old new _ c.select_busy.ensures.reads.survives clean) same.0.was_open in
    listing_found c.listing_by_rows.ensures (bare_in old) c.args.after.now c.args.limit (content old).instances rows.items found records.lives records.tables.holds.instances.rising records.standing.instances are named)
    (c.select_busy.ensures.reads.same clean) (c.select_busy.ensures.ok clean)
