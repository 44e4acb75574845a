use Rattle.std.proofs.Common.{◌≡◌, ℕ, List, Err, ap, subst}
use Rattle.sqlite_wal.specs.Recovery.{Image}
use Rattle.sqlite.specs.Tree.{Trees}
use Rattle.osb_orders.specs.Lives.{Lives}
use Rattle.osb_file.specs.declared.unseen.Unseen.TheVariants.{NotOurs}
use Rattle.osb_file.specs.File.{AreLivesOf, HasTrees}
use Rattle.osb_file.specs.Trimmed.{IsTrimmedInOne}
use Rattle.osb_file.proofs.RewritingLemmas.{same_image}
use Rattle.osb_file.proofs.one_file.OneFile.trimmed.Goals as goal

pub returns-in-Err-clause-not_ours : goal.returns-in-Err-clause-not_ours
returns-in-Err-clause-not_ours c is =
    let same : c.in-Err.unseen ≡ NotOurs = cc in
    subst (λ (image : Image). (db : Trees) → HasTrees image db → (lives : Lives) → ¬ AreLivesOf db lives) (same_image _ _ _ _ c.deref.ensures.value c.deref-2.ensures.value) (c.in-Err.ensures.not_ours (ap Err same))

pub returns-in-Ok-count_alone-clause-whole : goal.returns-in-Ok-count_alone-clause-whole
returns-in-Ok-count_alone-clause-whole c =
    subst (λ (image : Image). IsTrimmedInOne image c.in-Ok.made.0.items) (same_image _ _ _ _ c.deref.ensures.value c.deref-2.ensures.value) c.in-Ok.ensures.trimmed
