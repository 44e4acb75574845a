use Rattle.std.proofs.Common.{subst}
use Rattle.osb_orders.specs.Lives.{Lives}
use Rattle.osb_file.specs.Trimmed.{HoldsLivesOf}
use Rattle.osb_file.proofs.LookLemmas.{honest_is_clean}
use Rattle.osb_file.proofs.rewriting.copy_into.Goals as goal

pub copied-requires-clause-clean_target : goal.copied-requires-clause-clean_target
copied-requires-clause-clean_target g c = honest_is_clean c.requires.honest

pub returns-clause-ok : goal.returns-clause-ok
returns-clause-ok g c =
    let closed = c.in_ok-close_records.ensures in
    subst (λ (lives : Lives). HoldsLivesOf (g.D.Disk.seen c.in_ok-close_records.field-0.db) lives) (c.in_ok-records.ensures.ok closed.open) closed.holds
