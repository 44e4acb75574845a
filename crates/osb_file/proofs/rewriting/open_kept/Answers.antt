use Rattle.sqlite.specs.Files.{file_state, image_of}
use Rattle.osb_statements.specs.Steps.{stored}
use Rattle.osb_file.proofs.FileLemmas.{lives_found, new_opened, opened_stand, shown_of}
use Rattle.osb_file.proofs.LookLemmas.{honest_is_clean}
use Rattle.osb_file.proofs.OneFileLemmas.{shown_kept}
use Rattle.osb_file.proofs.RewritingLemmas.{if_ok_known}
use Rattle.osb_file.proofs.rewriting.open_kept.Goals as goal

pub adopt_kept-requires : goal.adopt_kept-requires
adopt_kept-requires g c = record { clean = honest_is_clean c.requires.honest }

pub returns-in-Ok-clause-ok : goal.returns-in-Ok-clause-ok
returns-in-Ok-clause-ok g c =
    let conn = file_state c.in-Ok.conn in
    let clean = honest_is_clean c.requires.honest c.in-Ok.conn in
    let opened = c.in-Ok.ensures.opened clean in
    let found = c.in-Ok.ensures.found clean in
    if_ok_known c.adopt_kept.result (λ records some are. record {
      trees = conn.committed.trees;
      only = λ db has. shown_kept conn db some (shown_of conn (image_of g.D.Disk c.args.files) db opened.0 opened.1 (found.holds db) found.reads has);
      are = λ live. opened_stand conn (stored (file_state records)) opened.0 opened.1 (are live);
    }) c.adopt_kept.ensures.kept c.adopt_kept.ensures.ok

pub returns-in-Ok-clause-new : goal.returns-in-Ok-clause-new
returns-in-Ok-clause-new g c is db has =
    let conn = file_state c.in-Ok.conn in
    let clean = honest_is_clean c.requires.honest c.in-Ok.conn in
    let opened = c.in-Ok.ensures.opened clean in
    let found = c.in-Ok.ensures.found clean in
    new_opened conn db opened.0 opened.1
    (shown_of conn (image_of g.D.Disk c.args.files) db opened.0 opened.1 (found.holds db) found.reads has) (c.adopt_kept.ensures.new is)

pub returns-in-Ok-clause-not_ours : goal.returns-in-Ok-clause-not_ours
returns-in-Ok-clause-not_ours g c is db has lives are =
    let conn = file_state c.in-Ok.conn in
    let clean = honest_is_clean c.requires.honest c.in-Ok.conn in
    let opened = c.in-Ok.ensures.opened clean in
    let found = c.in-Ok.ensures.found clean in
    c.adopt_kept.ensures.not_ours is lives (lives_found conn db lives opened.0 opened.1
    (shown_of conn (image_of g.D.Disk c.args.files) db opened.0 opened.1 (found.holds db) found.reads has) are)
