-- A database whose log was copied into its file.
use Rattle.std.proofs.Common.{◌≡◌, ◌≢◌, ℕ, true, List, [], inl, inr, refl, sym, subst, ap₂}
use Rattle.std.specs.Prelude.{Result, Ok, Err, IfOk}
use Rattle.std.proofs.Math.Logic.{∥∥₁_elim}
use Rattle.sqlite_disk.specs.declared.Disk as disk
use Rattle.sqlite_wal.specs.Recovery.{Image}
use Rattle.sqlite_wal.specs.Reads.{AreClean}
use Rattle.sqlite.specs.Tree.{Trees}
use Rattle.sqlite_trees.specs.Props.{Trees-set}
use Rattle.sqlite.specs.State.{State}
use Rattle.sqlite.specs.Files.{HoldsDatabase}
use Rattle.osb_orders.specs.Lives.{Lives}
use Rattle.osb_tables.specs.Tables.{no_schema}
use Rattle.osb_audit.specs.declared.counting.Counts.{Counts}
use Rattle.osb_file.specs.declared.copied.Copied.{Copied}
use Rattle.osb_file.specs.File.{AreLivesOf, HasTrees}
use Rattle.osb_file.specs.Looked.{IsCounted, image_in}
use Rattle.osb_file.specs.OneFile.{IsInOne, IsMerged, without_log}
use Rattle.osb_file.specs.Inside.{IsCountedIn}
use Rattle.osb_file.proofs.FileLemmas.{Shows}

-- where no disk lies, none of two has
pub honest_are_clean : {D : Type 0} (g : disk.Ghosts D) → ((it : D) → g.is_clean it ≡ true) → (log db : D) → AreClean g log db
honest_are_clean g honest log db = rw (honest log, honest db) refl

-- files that have the bytes that were copied are these files
pub image_as : (copied : Copied) (log db : List ℕ) → log ≡ copied.log.items → db ≡ copied.database.items → record { log = log; db = db } ≡ image_in copied
image_as copied log db is_log is_db = ap₂ (λ (x : List ℕ) (y : List ℕ). let image : Image = record { log = x; db = y } in image) is_log is_db

-- and one with an empty log stands by itself
pub alone_as : (log db bytes : List ℕ) → log ≡ [] → db ≡ bytes → record { log = log; db = db } ≡ without_log bytes
alone_as log db bytes none is = ap₂ (λ (x : List ℕ) (y : List ℕ). let image : Image = record { log = x; db = y } in image) none is

-- what an opening shows of a database with tables is what the files have
pub shown_kept : (conn : State) (db : Trees) → conn.now.schema ≢ no_schema → Shows conn db → db ≡ conn.committed.trees
shown_kept conn db some (inl same) = sym same
shown_kept conn db some (inr (none, bare)) = absurd (some none)

-- the trees that are in one file are those that were counted in it
counted_trees : (bytes : List ℕ) (counts : Counts) (db : Trees) → ∥ HoldsDatabase (without_log bytes) db ∥₁ → (counted : IsCountedIn (without_log bytes) counts) → db ≡ counted.0
counted_trees bytes counts db holds counted = ∥∥₁_elim holds (Trees-set _ _) (counted.1 db)

pub counted_one : (both : Image) (bytes : List ℕ) (counts : Counts) (db : Trees) → IsMerged both bytes db → IsCountedIn (without_log bytes) counts → IsInOne both bytes counts
counted_one both bytes counts db merged counted =
    (db, merged, subst (λ (trees : Trees). IsCounted trees counts) (sym (counted_trees bytes counts db merged.written counted)) counted.2)

-- lives that the two files have are in the one
pub others_in_one : (both : Image) (bytes : List ℕ) (db : Trees) → IsMerged both bytes db
    → ((found : Trees) → HoldsDatabase (without_log bytes) found → (lives : Lives) → ¬ AreLivesOf found lives)
    → (found : Trees) → HasTrees both found → (lives : Lives) → ¬ AreLivesOf found lives
others_in_one both bytes db merged none found has lives are =
    ∥∥₁_elim merged.written (λ x y. absurd x) (λ holds. none db holds lives (subst (λ (trees : Trees). AreLivesOf trees lives) (merged.read found has) are))

pub if_ok_both : {V E : Type 0} {A B C : V → Type 0} (result : Result V E) → ((value : V) → A value → B value → C value) → IfOk result A → IfOk result B → IfOk result C
if_ok_both (Ok value) so one other = so value one other
if_ok_both (Err error) so one other = one
