use Rattle.sqlite.specs.Files.{file_state, image_of}
use Rattle.osb_file.proofs.FileLemmas.{new_opened, shown_of}
use Rattle.osb_file.proofs.LookLemmas.{honest_is_clean}
use Rattle.osb_file.proofs.OneFileLemmas.{if_ok_both, shown_kept}
use Rattle.osb_file.proofs.merging.merge.Goals as goal

pub returns-in-Ok-clause-merged : goal.returns-in-Ok-clause-merged
returns-in-Ok-clause-merged g c =
    let conn = file_state c.in-Ok.conn in
    let clean = honest_is_clean c.requires.honest c.in-Ok.conn in
    let opened = c.in-Ok.ensures.opened clean in
    let found = c.in-Ok.ensures.found clean in
    if_ok_both c.close_kept.result (λ files written some. (
      conn.committed.trees,
      record {
        written = written;
        read = λ db has. shown_kept conn db some (shown_of conn (image_of g.D.Disk c.args.files) db opened.0 opened.1 (found.holds db) found.reads has);
      },
    )) c.close_kept.ensures.written c.close_kept.ensures.kept

pub returns-in-Ok-clause-new : goal.returns-in-Ok-clause-new
returns-in-Ok-clause-new g c is db has =
    let conn = file_state c.in-Ok.conn in
    let clean = honest_is_clean c.requires.honest c.in-Ok.conn in
    let opened = c.in-Ok.ensures.opened clean in
    let found = c.in-Ok.ensures.found clean in
    new_opened conn db opened.0 opened.1
    (shown_of conn (image_of g.D.Disk c.args.files) db opened.0 opened.1 (found.holds db) found.reads has) (c.close_kept.ensures.new is)
