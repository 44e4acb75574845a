use Rattle.std.proofs.Common.{◌≡◌, ℕ, List, Err, ap, subst, subst₂, sym}
use Rattle.sqlite_wal.specs.Recovery.{Image}
use Rattle.sqlite.specs.Tree.{Trees}
use Rattle.osb_orders.specs.Lives.{Lives}
use Rattle.osb_file.specs.declared.unseen.Unseen.TheVariants.{NotOurs, NoTables}
use Rattle.osb_file.specs.File.{AreLivesOf, HasNoTables, HasTrees}
use Rattle.osb_file.specs.Trimmed.{IsTrimmedInOne}
use Rattle.osb_file.proofs.RewritingLemmas.{same_image}
use Rattle.osb_file.proofs.rewriting.rewritten.Goals as goal

pub returns-in_ok-bytes_of-in-Ok-clause-trimmed : goal.returns-in_ok-bytes_of-in-Ok-clause-trimmed
returns-in_ok-bytes_of-in-Ok-clause-trimmed c =
    subst₂ (λ (image : Image) (bytes : List ℕ). IsTrimmedInOne image bytes)
    (same_image _ _ _ _ c.in-Ok-Ok.ensures.bytes c.in-Ok-Ok.ensures'.bytes) (sym c.in_ok-bytes_of-in-Ok.ensures.bytes) c.in-Ok.ensures.ok

pub returns-in-Err-clause-new : goal.returns-in-Err-clause-new
returns-in-Err-clause-new c is =
    let same : c.in-Err.unseen ≡ NoTables = cc in
    subst (λ (image : Image). (db : Trees) → HasTrees image db → HasNoTables db) (same_image _ _ _ _ c.in-Ok-Ok.ensures.bytes c.in-Ok-Ok.ensures'.bytes) (c.in-Err.ensures.new (ap Err same))

pub returns-in-Err-clause-not_ours : goal.returns-in-Err-clause-not_ours
returns-in-Err-clause-not_ours c is =
    let same : c.in-Err.unseen ≡ NotOurs = cc in
    subst (λ (image : Image). (db : Trees) → HasTrees image db → (lives : Lives) → ¬ AreLivesOf db lives) (same_image _ _ _ _ c.in-Ok-Ok.ensures.bytes c.in-Ok-Ok.ensures'.bytes) (c.in-Err.ensures.not_ours (ap Err same))
