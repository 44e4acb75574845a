-- Lives that were written into a database whose files are closed.
use Rattle.std.proofs.Common.{◌≡◌, List, ℕ, [], ap₂, inl, inr, refl, sym, subst, IsTrue}
use Rattle.std.specs.Prelude.{Result, Ok, Err, OnOk, IfOk}
use Rattle.std.specs.FinMap.{empty}
use Rattle.sqlite_wal.specs.Recovery.{Image}
use Rattle.sqlite.specs.Tree.{Trees}
use Rattle.sqlite.specs.Effect.{Database}
use Rattle.sqlite.specs.Files.{HoldsDatabase}
use Rattle.sqlite.specs.State.{State, HasCleanDisk, IsLive, Opens}
use Rattle.osb_orders.specs.Lives.{Lives}
use Rattle.osb_tables.specs.declared.schema.Indexes.TheVariants as indexes
use Rattle.osb_tables.specs.Tables.{no_schema}
use Rattle.osb_statements.specs.Steps.{IsReady, stored}
use Rattle.osb_records.specs.Opened.{AreLivesOfDatabase}
use Rattle.osb_trim.specs.Trimmed.{trimmed_lives}
use Rattle.osb_file.specs.File.{AreLivesOf, HasNoTables, HasTrees, HoldsNoTables}
use Rattle.osb_file.specs.OneFile.{without_log}
use Rattle.osb_file.specs.Inside.{IsOfFiles}
use Rattle.osb_file.specs.Trimmed.{HaveLives, HoldsLivesOf, IsTrimmedInOne}
use Rattle.osb_file.proofs.FileLemmas.{bare_lives, lives_found, opened_stand}
use Rattle.osb_file.proofs.OneFileLemmas.{alone_as}

pub if_ok_known : {V E : Type 0} {A B : V → Type 0} {C : Type 0} (result : Result V E) → ((value : V) → C → A value → B value) → OnOk result C → IfOk result A → IfOk result B
if_ok_known (Ok value) so known is = so value known is
if_ok_known (Err error) so known is = is

-- the lives that records show are in the trees of their last commit
pub ready_stand : (s : State) → IsReady s → HasCleanDisk s → IsLive s → IsTrue s.is_open → AreLivesOf s.committed.trees (stored s)
ready_stand s ready clean live is_open =
    let tables = ready.tables clean is_open in
    subst (λ (db : Database). AreLivesOf db.trees (stored s)) (ready.committed clean is_open) (
      s.now.schema,
      (live is_open).0,
      inr (inr (
        (indexes.Both, tables.schema),
        record { holds = tables.holds; lives = ready.lives clean is_open; standing = ready.standing clean is_open; contexts = ready.contexts clean is_open },
        refl,
      )),
    )

-- and in the file, once that is closed
pub closed_holds : {V E : Type 0} (result : Result V E) (bytes : V → List ℕ) (s : State) → IsReady s → HasCleanDisk s → IsLive s
    → IfOk result (λ files. ∥ HoldsDatabase (without_log (bytes files)) s.committed.trees ∥₁) → OnOk result (IsTrue s.is_open) → IfOk result (λ files. HoldsLivesOf (bytes files) (stored s))
closed_holds (Ok files) bytes s ready clean live written is_open = record { trees = s.committed.trees; written = written; are = ready_stand s ready clean live is_open }
closed_holds (Err fault) bytes s ready clean live written is_open = tt

-- files without tables have no lives
module _ (conn : State) (log db : List ℕ) (none : log ≡ []) (blank : HoldsNoTables db) (opens : Opens conn) (live : IsLive conn) (holds : (found : Trees) → HoldsDatabase (record { log = log; db = db }) found → conn.committed.trees ≡ found) where
  same_trees : conn.committed.trees ≡ blank.0
  same_trees = holds blank.0 (subst (λ (image : Image). HoldsDatabase image blank.0) (sym (alone_as log db db none refl)) blank.1)

  pub blank_lives : (lives : Lives) → AreLivesOfDatabase conn.now lives → lives ≡ empty
  blank_lives lives are = bare_lives blank.0 lives blank.2 (subst (λ (trees : Trees). AreLivesOf trees lives) same_trees (opened_stand conn lives opens live are))

  pub blank_has_lives : AreLivesOfDatabase conn.now empty
  blank_has_lives = lives_found conn blank.0 empty opens live (inl same_trees) (no_schema, blank.2, inl (refl, refl))

-- what was copied into the one file is trimmed
pub trimmed_in_one : (both : Image) (bytes : List ℕ) (s : State) → IsOfFiles both s → IsTrue s.is_open → HoldsLivesOf bytes (trimmed_lives (stored s)) → IsTrimmedInOne both bytes
trimmed_in_one both bytes s of_files is_open holds = (stored s, record { trees = of_files.trees; only = of_files.only; are = of_files.are is_open }, holds)

-- files that have these bytes are these files
pub same_image : (log db new_log new_db : List ℕ) → log ≡ new_log → db ≡ new_db → ◌≡◌ {A = Image} (record { log = log; db = db }) (record { log = new_log; db = new_db })
same_image log db new_log new_db is_log is_db = ap₂ (λ (x : List ℕ) (y : List ℕ). let image : Image = record { log = x; db = y } in image) is_log is_db
