use Rattle.std.proofs.Common.{◌≡◌, Err, ap}
use Rattle.sqlite.specs.Files.{file_state, image_of}
use Rattle.osb_file.specs.declared.unseen.Unseen.TheVariants.{NotOurs, NoTables}
use Rattle.osb_file.proofs.LookLemmas.{honest_is_clean}
use Rattle.osb_file.proofs.RewritingLemmas.{if_ok_known, trimmed_in_one}
use Rattle.osb_file.proofs.rewriting.rewrite.Goals as goal

pub copy_into-requires-clause-clean : goal.copy_into-requires-clause-clean
copy_into-requires-clause-clean g c = honest_is_clean c.requires.honest

pub returns-in-Ok-clause-ok : goal.returns-in-Ok-clause-ok
returns-in-Ok-clause-ok g c =
    if_ok_known c.copy_into.result
    (λ made is_open holds. trimmed_in_one (image_of g.D.Disk c.args.source) (g.D.Disk.seen made.0.db) (file_state c.in-Ok.records) c.in-Ok.ensures.ok is_open holds)
    c.copy_into.ensures.open c.copy_into.ensures.ok

pub returns-in-Err-clause-new : goal.returns-in-Err-clause-new
returns-in-Err-clause-new g c is =
    let same : c.in-Err.unseen ≡ NoTables = cc in
    c.in-Err.ensures.new (ap Err same)

pub returns-in-Err-clause-not_ours : goal.returns-in-Err-clause-not_ours
returns-in-Err-clause-not_ours g c is =
    let same : c.in-Err.unseen ≡ NotOurs = cc in
    c.in-Err.ensures.not_ours (ap Err same)
