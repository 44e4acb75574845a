use Rattle.std.proofs.Common.{subst, sym}
use Rattle.sqlite_wal.specs.Recovery.{Image}
use Rattle.sqlite.specs.Files.{HoldsDatabase}
use Rattle.osb_file.proofs.OneFileLemmas.{alone_as}
use Rattle.osb_file.proofs.merging.count_alone.Goals as goal

pub returns-in-Ok-clause-not_ours : goal.returns-in-Ok-clause-not_ours
returns-in-Ok-clause-not_ours c is db holds =
    let same = alone_as _ _ _ c.new-log.ensures.empty c.in-Ok.ensures.bytes in
    c.count_files.ensures.not_ours is db (subst (λ (file : Image). HoldsDatabase file db) (sym same) holds)
