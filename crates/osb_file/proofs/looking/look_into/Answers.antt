use Rattle.sqlite.specs.Files.{file_state, image_of}
use Rattle.osb_file.proofs.FileLemmas.{empty_opened, lives_found, seen_opened, shown_of}
use Rattle.osb_file.proofs.LookLemmas.{honest_is_clean, if_ok_so}
use Rattle.osb_file.proofs.looking.look_into.Goals as goal

pub look_in-requires : goal.look_in-requires
look_in-requires g c = record { clean = honest_is_clean c.requires.honest }

pub returns-in-Ok-clause-seen : goal.returns-in-Ok-clause-seen
returns-in-Ok-clause-seen g c =
    let conn = file_state c.in-Ok.conn in
    let clean = honest_is_clean c.requires.honest c.in-Ok.conn in
    let opened = c.in-Ok.ensures.opened clean in
    let found = c.in-Ok.ensures.found clean in
    if_ok_so c.look_in.result (λ seen is db has. seen_opened conn db seen opened.0 opened.1
    (shown_of conn (image_of g.D.Disk c.args.files) db opened.0 opened.1 (found.holds db) found.reads has) is) c.look_in.ensures.seen

pub returns-in-Ok-clause-not_ours : goal.returns-in-Ok-clause-not_ours
returns-in-Ok-clause-not_ours g c is db has lives are =
    let conn = file_state c.in-Ok.conn in
    let clean = honest_is_clean c.requires.honest c.in-Ok.conn in
    let opened = c.in-Ok.ensures.opened clean in
    let found = c.in-Ok.ensures.found clean in
    c.look_in.ensures.not_ours is lives (lives_found conn db lives opened.0 opened.1
    (shown_of conn (image_of g.D.Disk c.args.files) db opened.0 opened.1 (found.holds db) found.reads has) are)

pub returns-in-Ok-clause-new : goal.returns-in-Ok-clause-new
returns-in-Ok-clause-new g c none =
    let clean = honest_is_clean c.requires.honest c.in-Ok.conn in
    let opened = c.in-Ok.ensures.opened clean in
    c.look_in.ensures.new (empty_opened (file_state c.in-Ok.conn) (image_of g.D.Disk c.args.files) opened.0 opened.1 (c.in-Ok.ensures.found clean).reads none)
