-- A database in one file, which was made of a database file and its log.
use Rattle.std.specs.Prelude.{◌≡◌, ℕ, List, []}
use Rattle.sqlite_wal.specs.Recovery.{Image}
use Rattle.sqlite.specs.Tree.{Trees}
use Rattle.sqlite.specs.Files.{HoldsDatabase}
use Rattle.osb_audit.specs.declared.counting.Counts.{Counts}
use Rattle.osb_file.specs.File.{HasTrees}
use Rattle.osb_file.specs.Looked.{IsCounted}

-- a file of these bytes, with no log beside it
abbrev pub without_log : List ℕ → Image
without_log bytes = record { log = []; db = bytes }

-- A file of these bytes has these trees without a log. Trees that the two files have are no others.
pub record IsMerged (both : Image) (bytes : List ℕ) (db : Trees) : Type 0 where
  pub written : ∥ HoldsDatabase (without_log bytes) db ∥₁
  pub read : (found : Trees) → HasTrees both found → found ≡ db

-- and so much of everything is in the well-formed lives that are in these trees
abbrev pub IsInOne : Image → List ℕ → Counts → Type 0
IsInOne both bytes counts = (db : Trees) × IsMerged both bytes db × IsCounted db counts
