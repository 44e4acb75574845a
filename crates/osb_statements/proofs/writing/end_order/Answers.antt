use Rattle.sqlite.specs.Held.{state}
use Rattle.osb_orders.specs.declared.order.Change.TheVariants.{Finish}
use Rattle.osb_statements.specs.Steps.{bare_in}
use Rattle.osb_statements.proofs.CommitLemmas.{finish_written, written_later}
use Rattle.osb_bare.specs.Bare.{bare_order}
use Rattle.osb_statements.proofs.BareLemmas.{ended_bare}
use Rattle.std.proofs.Common.{sym, subst}
use Rattle.osb_standing.specs.Written.{IsWritten}
use Rattle.osb_orders.specs.Lives.{life_of}
use Rattle.osb_statements.proofs.writing.end_order.Goals as goal
use Rattle.osb_contexts.proofs.StepLemmas.{clean_before}

pub returns-clause-ok : goal.returns-clause-ok
returns-clause-ok g c clean =
    let first = state g.S.Store c.args.tx.now.conn.now in
    let read = state g.S.Store c.ended_order.new.tx.conn.now in
    let mid = state g.S.Store c.write_standing.new.tx.conn.now in
    let new = state g.S.Store c.finish_order.new.tx.conn.now in
    let clean_mid = clean_before mid new _ c.finish_order.ensures.inside.survives clean in
    let clean_read = clean_before read mid _ c.write_standing.ensures.inside.survives clean_mid in
    let clean_first = clean_before first read _ c.ended_order.ensures.reads.survives clean_read in
    let same = c.in_ok-order.ensures.reads.same clean_read in
    let rows = c.in_ok-write_standing.ensures.ok clean_mid in
    let id = c.args.instance.now in
    let lives = (c.requires.records clean_first same.0.was_open).lives in
    let may = c.requires.last clean_first same.0.was_open in
    let written = finish_written (bare_in first) id c.args.number c.args.outcome.now c.in_ok-order.order lives may (c.in_ok-order.ensures.ok clean_read may) in
    let order = bare_order c.in_ok-order.order in
    let bare = ended_bare first.now.trees id c.args.number c.args.outcome.now c.in_ok-order.order (c.in_ok-order.ensures.ok clean_read may) in
    written_later first read mid new id order (Finish c.args.number c.args.outcome.now) same (subst (IsWritten (life_of (bare_in first) id) (Finish c.args.number c.args.outcome.now)) (sym bare) written) (c.requires.records clean_first same.0.was_open).standing
    rows.steps rows.stands (c.in_ok-finish_order.ensures.ok clean)
