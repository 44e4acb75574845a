-- A database in one file whose lives are those of another one, trimmed.
use Rattle.std.specs.Prelude.{◌≡◌, ℕ, List}
use Rattle.sqlite_wal.specs.Recovery.{Image}
use Rattle.sqlite.specs.Tree.{Trees}
use Rattle.sqlite.specs.Files.{HoldsDatabase}
use Rattle.osb_orders.specs.Lives.{Lives}
use Rattle.osb_trim.specs.Trimmed.{trimmed_lives}
use Rattle.osb_file.specs.File.{AreLivesOf, HasTrees}
use Rattle.osb_file.specs.OneFile.{without_log}

-- The two files have no other trees than these, in which these lives are.
pub record HaveLives (both : Image) (lives : Lives) : Type 0 where
  pub trees : Trees
  pub only : (found : Trees) → HasTrees both found → found ≡ trees
  pub are : AreLivesOf trees lives

-- A file of these bytes has a database without a log, and these lives are in it.
pub record HoldsLivesOf (bytes : List ℕ) (lives : Lives) : Type 0 where
  pub trees : Trees
  pub written : ∥ HoldsDatabase (without_log bytes) trees ∥₁
  pub are : AreLivesOf trees lives

-- The lives of both files are in one file, trimmed.
abbrev pub IsTrimmedInOne : Image → List ℕ → Type 0
IsTrimmedInOne both bytes =
    (lives : Lives) × HaveLives both lives × HoldsLivesOf bytes (trimmed_lives lives)
