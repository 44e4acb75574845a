use Rattle.std.proofs.Common.{◌∙◌, arith}
use Rattle.sqlite.specs.State.{HasCleanDisk}
use Rattle.sqlite.specs.Held.{state}
use Rattle.osb_statements.specs.Steps.{stored}
use Rattle.osb_file.proofs.FileLemmas.{empty_opened, found_lives, lives_found, new_opened, new_unless_kept, no_lives, opened_keeps, origin_opened, shown_to, store_not_missing, store_not_ours, taken_keeps}
use Rattle.osb_file.proofs.file.open_file.Goals as goal

pub returns-in-Ok-clause-found : goal.returns-in-Ok-clause-found
returns-in-Ok-clause-found g c clean live db has =
    let conn = state g.D.Store.Store c.in-Some.conn in
    let before : HasCleanDisk conn = omega (arith, clean, c.in-Ok.ensures.crash.clean) in
    let opened = c.in-Some.ensures.opened before in
    let shows = shown_to conn (g.D.Database.held c.args.database) db opened has in
    found_lives conn db (stored (state g.D.Store.Store c.in-Ok.records)) opened.opens opened.live shows (c.in-Ok.ensures.ok clean live)

pub returns-in-Err-clause-not_ours : goal.returns-in-Err-clause-not_ours
returns-in-Err-clause-not_ours g c is clean db has lives are =
    let conn = state g.D.Store.Store c.in-Some.conn in
    let before : HasCleanDisk conn = omega (arith, clean, c.in-Err.ensures.fault_crash.clean) in
    let opened = c.in-Some.ensures.opened before in
    let shows = shown_to conn (g.D.Database.held c.args.database) db opened has in
    let ours = store_not_ours c.in-Err.fault c.from.result c.from.ensures is in
    c.in-Err.ensures.not_ours clean ours lives (lives_found conn db lives opened.opens opened.live shows are)

pub returns-in-Ok-clause-origin : goal.returns-in-Ok-clause-origin
returns-in-Ok-clause-origin g c clean db has =
    let conn = state g.D.Store.Store c.in-Some.conn in
    let before : HasCleanDisk conn = omega (arith, clean, c.in-Ok.ensures.crash.clean) in
    let opened = c.in-Some.ensures.opened before in
    let shows = shown_to conn (g.D.Database.held c.args.database) db opened has in
    let origin = c.origin_of-origin in
    origin_opened conn db origin.result opened.opens opened.live shows origin.ensures.new origin.ensures.kept

pub returns-in-Ok-clause-existing : goal.returns-in-Ok-clause-existing
returns-in-Ok-clause-existing g c existing =
    c.is_missing.ensures.kept c.if-is_missing.false (c.is_existing.ensures ∙ existing)

pub returns-then-is_missing-clause-missing : goal.returns-then-is_missing-clause-missing
returns-then-is_missing-clause-missing g c is clean db has =
    let conn = state g.D.Store.Store c.in-Some.conn in
    let opened = c.in-Some.ensures.opened clean in
    let shows = shown_to conn (g.D.Database.held c.args.database) db opened has in
    new_opened conn db opened.opens opened.live shows (c.origin_of-origin.ensures.new (c.is_missing.ensures.new c.if-is_missing.true))

pub returns-in-Err-clause-missing : goal.returns-in-Err-clause-missing
returns-in-Err-clause-missing g c is = absurd (store_not_missing c.in-Err.fault c.from.result c.from.ensures is)

pub returns-in-Err-clause-asked : goal.returns-in-Err-clause-asked
returns-in-Err-clause-asked g c is = absurd (store_not_missing c.in-Err.fault c.from.result c.from.ensures is)

pub returns-in-Ok-clause-empty : goal.returns-in-Ok-clause-empty
returns-in-Ok-clause-empty g c clean none =
    let conn = state g.D.Store.Store c.in-Some.conn in
    let before : HasCleanDisk conn = omega (arith, clean, c.in-Ok.ensures.crash.clean) in
    let opened = c.in-Some.ensures.opened before in
    let bare = empty_opened conn (g.D.Database.held c.args.database) opened.opens opened.live opened.found.reads none in
    new_unless_kept c.origin_of-origin.result _ c.origin_of-origin.ensures.kept bare

pub returns-in-Ok-clause-none : goal.returns-in-Ok-clause-none
returns-in-Ok-clause-none g c clean live none =
    let conn = state g.D.Store.Store c.in-Some.conn in
    let lives = stored (state g.D.Store.Store c.in-Ok.records) in
    let before : HasCleanDisk conn = omega (arith, clean, c.in-Ok.ensures.crash.clean) in
    let opened = c.in-Some.ensures.opened before in
    let bare = empty_opened conn (g.D.Database.held c.args.database) opened.opens opened.live opened.found.reads none in
    no_lives conn.now lives bare (c.in-Ok.ensures.ok clean live)

pub returns-in-Ok-clause-kept : goal.returns-in-Ok-clause-kept
returns-in-Ok-clause-kept g c clean db has =
    let conn = state g.D.Store.Store c.in-Some.conn in
    let crash = c.in-Ok.ensures.crash in
    let before : HasCleanDisk conn = omega (arith, clean, crash.clean) in
    let opened = c.in-Some.ensures.opened before in
    let shows = shown_to conn (g.D.Database.held c.args.database) db opened has in
    taken_keeps conn (state g.D.Store.Store c.in-Ok.records) db opened.opens opened.live shows opened.only (crash.crash clean)

pub returns-then-is_missing-clause-fault_kept : goal.returns-then-is_missing-clause-fault_kept
returns-then-is_missing-clause-fault_kept g c clean db has =
    let conn = state g.D.Store.Store c.in-Some.conn in
    let opened = c.in-Some.ensures.opened clean in
    let shows = shown_to conn (g.D.Database.held c.args.database) db opened has in
    opened_keeps conn db opened.opens opened.live shows opened.only

pub returns-in-Err-clause-fault_kept : goal.returns-in-Err-clause-fault_kept
returns-in-Err-clause-fault_kept g c clean db has =
    let conn = state g.D.Store.Store c.in-Some.conn in
    let crash = c.in-Err.ensures.fault_crash in
    let before : HasCleanDisk conn = omega (arith, clean, crash.clean) in
    let opened = c.in-Some.ensures.opened before in
    let shows = shown_to conn (g.D.Database.held c.args.database) db opened has in
    taken_keeps conn (state g.D.Store.Store c.in-Err.conn) db opened.opens opened.live shows opened.only (crash.crash clean)

pub returns-in-Ok-clause-honest : goal.returns-in-Ok-clause-honest
returns-in-Ok-clause-honest g c clean = c.in-Some.ensures.honest (omega (arith, clean, c.in-Ok.ensures.crash.clean))

pub returns-in-Err-clause-fault_honest : goal.returns-in-Err-clause-fault_honest
returns-in-Err-clause-fault_honest g c clean = c.in-Some.ensures.honest (omega (arith, clean, c.in-Err.ensures.fault_crash.clean))
