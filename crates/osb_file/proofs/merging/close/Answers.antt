use Rattle.osb_file.proofs.OneFileLemmas.{honest_are_clean}
use Rattle.osb_file.proofs.merging.close.Goals as goal

pub returns-in-Ok-clause-written : goal.returns-in-Ok-clause-written
returns-in-Ok-clause-written g c =
    (c.in-Ok.ensures.copied (honest_are_clean g.D.Disk c.requires.honest c.in-Ok.files.log c.in-Ok.files.db)).seen.alone

pub returns-in-Ok-clause-open : goal.returns-in-Ok-clause-open
returns-in-Ok-clause-open g c =
    (c.in-Ok.ensures.copied (honest_are_clean g.D.Disk c.requires.honest c.in-Ok.files.log c.in-Ok.files.db)).was_open
