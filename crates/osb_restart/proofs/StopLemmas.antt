-- What the files of a store leave where both crash.
use Rattle.std.proofs.Common.{◌≡◌, ◌∙◌, IsTrue, subst, sym}
use Rattle.std.proofs.lemmas.Bool.{and_parts, and_from}
use Rattle.std.proofs.Math.Logic.{∥∥₁_map}
use Rattle.sqlite_disk.specs.declared.Disk.{Ghosts}
use Rattle.sqlite_wal.specs.Recovery.{Image}
use Rattle.sqlite_wal.specs.Files.{outcomes}
use Rattle.sqlite_wal.specs.Reads.{AreClean}
use Rattle.sqlite_trees.specs.Tree.{Trees}
use Rattle.sqlite_trees.specs.View.{IsClean}
use Rattle.sqlite_trees.proofs.Doubt.{no_doubt}
use Rattle.sqlite_pool.proofs.StateLemmas.{clean_is, may_leave_is}
use Rattle.sqlite_store.specs.declared.store.FileStore.{FileStore}
use Rattle.sqlite_store.specs.FileStore.{view, recovers, files}
use Rattle.sqlite.specs.Held.{AreDatabases}
use Rattle.sqlite.specs.Files.{HoldsDatabase}
use Rattle.sqlite.proofs.Theorems.{opens_again}

pub were_clean : {D : Type 0} (g : Ghosts D) (log db new_log new_db : D) → (IsTrue (g.is_clean new_log) → IsTrue (g.is_clean log)) → (IsTrue (g.is_clean new_db) → IsTrue (g.is_clean db)) → AreClean g new_log new_db → AreClean g log db
were_clean g log db new_log new_db of_log of_db clean =
    let both = and_parts _ _ clean in
    and_from _ _ (of_log both.0) (of_db both.1)

module _ {D : Type 0} {g : Ghosts D} (last : FileStore D g) (log db : D) (same : (log, db) ≡ files last) (clean : AreClean g log db) where
  its_files_are_clean : AreClean g (files last).0 (files last).1
  its_files_are_clean = subst (λ (pair : D × D). AreClean g pair.0 pair.1) same clean

  pub store_is_clean : IsClean (view last)
  store_is_clean = no_doubt _ (clean_is last.pool ∙ its_files_are_clean)

  -- whatever a stop leaves of them has a database that the store allowed
  pub images_hold : (image : Image) → outcomes g log db image → (IsClean (view last) → IsTrue (view last).is_numbered) → (IsClean (view last) → AreDatabases (recovers last))
      → ∥ ((trees : Trees) × recovers last trees × HoldsDatabase image trees) ∥₁
  images_hold image left numbered sound =
      let may = may_leave_is last.pool image its_files_are_clean (subst (λ (pair : D × D). outcomes g pair.0 pair.1 image) same left) in
      opens_again last (numbered store_is_clean) (sound store_is_clean) image may

  -- which is the one that the next open finds there
  pub trees_are_left : (image : Image) → outcomes g log db image → (IsClean (view last) → IsTrue (view last).is_numbered) → (IsClean (view last) → AreDatabases (recovers last))
      → (found : Trees) → ((trees : Trees) → HoldsDatabase image trees → found ≡ trees) → ∥ recovers last found ∥₁
  trees_are_left image left numbered sound found holds =
      ∥∥₁_map (images_hold image left numbered sound) (λ it. subst (recovers last) (sym (holds it.0 it.2)) it.1)
