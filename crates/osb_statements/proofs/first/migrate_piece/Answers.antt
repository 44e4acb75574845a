use Rattle.std.proofs.Common.{rules}
use Rattle.osb_contexts.specs.Reads.{behind}
use Rattle.osb_contexts.proofs.StepLemmas.{clean_before}
use Rattle.osb_statements.proofs.MigratedLemmas.{piece_rises, piece_migrated, still_running_on}
use Rattle.osb_statements.proofs.RowPieceLemmas.{rows_some}
use Rattle.osb_statements.proofs.first.migrate_piece.Goals as goal

pub insert_contexts-requires-clause-rising : goal.insert_contexts-requires-clause-rising
insert_contexts-requires-clause-rising g c clean live =
    let old = behind g.S.Store c.args.tx.now in
    let mid = behind g.S.Store c.gather_piece.new.tx in
    let before = clean_before old mid _ c.gather_piece.ensures.reads.survives clean in
    let may = c.requires.migrating before in
    rw (c.deref.ensures.value)
    (piece_rises old mid c.args.after.now _ c.in_ok-contexts.contexts.items c.requires.order may (c.requires.before before) (c.in_ok-contexts.ensures.ok clean may.rows) (c.in_ok-contexts.ensures.reads.same clean))

pub returns-clause-ok : goal.returns-clause-ok
returns-clause-ok g c clean =
    let old = behind g.S.Store c.args.tx.now in
    let mid = behind g.S.Store c.gather_piece.new.tx in
    let new = behind g.S.Store c.insert_contexts.new.tx in
    let clean_mid = clean_before mid new _ c.insert_contexts.ensures.inside.survives clean in
    let before = clean_before old mid _ c.gather_piece.ensures.reads.survives clean_mid in
    let may = c.requires.migrating before in
    let same = c.in_ok-contexts.ensures.reads.same clean_mid in
    piece_migrated old mid c.args.after.now _ c.in_ok-contexts.contexts.items c.requires.order may (c.requires.before before) (c.in_ok-contexts.ensures.ok clean_mid may.rows) same new
    (rw (c.deref.ensures.value) at (c.in_ok-insert_contexts.ensures.ok clean (still_running_on old mid may same)))

pub returns-in_err-contexts-clause-known : goal.returns-in_err-contexts-clause-known
returns-in_err-contexts-clause-known g c clean rows is =
    let old = behind g.S.Store c.args.tx.now in
    let mid = behind g.S.Store c.gather_piece.new.tx in
    let before = clean_before old mid _ c.gather_piece.ensures.reads.survives clean in
    c.in_err-contexts.ensures.known clean (c.requires.migrating before).rows (rows_some old.now.trees c.args.after.now _ rows) (search rules)
