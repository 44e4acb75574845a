use Rattle.std.proofs.Common.{rules, ◌≡◌}
use Rattle.sqlite.specs.Held.{state}
use Rattle.osb_statements.specs.Steps.{stored}
use Rattle.osb_file.specs.declared.unseen.Unseen.TheVariants.{NotOurs}
use Rattle.osb_file.proofs.FileLemmas.{seen_in_kept}
use Rattle.osb_file.proofs.LookLemmas.{if_ok_so}
use Rattle.osb_file.proofs.looking.look_at_kept.Goals as goal

pub returns-in-Ok-clause-seen : goal.returns-in-Ok-clause-seen
returns-in-Ok-clause-seen g c =
    let records = c.in-Ok.records in
    let conn = state g.S.Store c.args.conn in
    let lives = stored (state g.S.Store records) in
    if_ok_so c.seen_of.result (λ seen is. seen_in_kept conn.now lives seen c.requires.kept (c.in-Ok.ensures.ok (c.requires.clean records) is.0) is.1) c.seen_of.ensures.ok

pub returns-in-Err-clause-not_ours : goal.returns-in-Err-clause-not_ours
returns-in-Err-clause-not_ours g c is =
    let ours : c.unadopted.result ≡ NotOurs = search rules in
    c.in-Err.ensures.not_ours (c.requires.clean c.in-Err.left) (c.unadopted.ensures.ours ours)
