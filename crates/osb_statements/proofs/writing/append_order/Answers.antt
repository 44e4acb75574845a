use Rattle.std.proofs.lemmas.Bool.{eqb-true}
use Rattle.sqlite.specs.Held.{state}
use Rattle.osb_orders.specs.declared.order.Change.TheVariants.{Append}
use Rattle.osb_statements.specs.Steps.{content, bare_in}
use Rattle.osb_statements.proofs.NoRowLemmas.{no_row_before}
use Rattle.osb_statements.proofs.CommitLemmas.{append_written, written_after}
use Rattle.osb_bare.specs.Bare.{bare_order}
use Rattle.osb_statements.proofs.writing.append_order.Goals as goal
use Rattle.osb_contexts.proofs.StepLemmas.{clean_before}

pub returns-clause-ok : goal.returns-clause-ok
returns-clause-ok g c clean =
    let first = state g.S.Store c.args.tx.now.conn.now in
    let mid = state g.S.Store c.write_standing.new.tx.conn.now in
    let new = state g.S.Store c.insert_order.new.tx.conn.now in
    let clean_mid = clean_before mid new _ c.insert_order.ensures.inside.survives clean in
    let clean_first = clean_before first mid _ c.write_standing.ensures.inside.survives clean_mid in
    let rows = c.in_ok-write_standing.ensures.ok clean_mid in
    let id = c.args.instance.now in
    let order = bare_order c.args.order.now in
    let live = rows.steps.within.was_open in
    let written = append_written (bare_in first) id order (c.requires.records clean_first live).lives (c.requires.whole clean_first live) in
    written_after first mid new id (Append order) rows.steps (rows.stands (Append order) written (c.requires.records clean_first live).standing) (c.in_ok-insert_order.ensures.ok clean)

pub write_standing-requires-clause-no_row : goal.write_standing-requires-clause-no_row
write_standing-requires-clause-no_row g c clean live first =
    let old = state g.S.Store c.args.tx.now.conn.now in
    let id = c.args.instance.now in
    let order = bare_order c.args.order.now in
    let written = append_written (bare_in old) id order (c.requires.records clean live).lives (c.requires.whole clean live) in
    no_row_before (bare_in old) id order (content old).instances written (eqb-true order.number 1 first) (c.requires.records clean live).standing.instances
