-- What was seen in a database that was opened. For contracts inside the crate.
use Rattle.std.specs.Prelude.{◌≡◌, ◌≢◌, ℕ, false, List, bytes_eq, IsTrue}
use Rattle.sqlite_wal.specs.Recovery.{Image}
use Rattle.sqlite.specs.Tree.{Trees}
use Rattle.sqlite.specs.Files.{HoldsDatabase}
use Rattle.sqlite.specs.Effect.{Database}
use Rattle.sqlite.specs.State.{State}
use Rattle.osb_orders.specs.Life.{Life}
use Rattle.osb_orders.specs.Lives.{Lives, life_of}
use Rattle.osb_audit.specs.declared.counting.Counts.{Counts}
use Rattle.osb_audit.specs.Counts.{AreCounts}
use Rattle.osb_audit.specs.Plans.{plans_in_use}
use Rattle.osb_tables.specs.Tables.{no_schema}
use Rattle.osb_records.specs.Opened.{AreLivesOfDatabase}
use Rattle.osb_file.specs.declared.seen.Seen.{Seen}
use Rattle.osb_file.specs.declared.seen.Seen.TheVariants.{New, Counted}
use Rattle.osb_statements.specs.Steps.{stored}
use Rattle.osb_file.specs.File.{AreLivesOf, HasTrees}
use Rattle.osb_file.specs.Looked.{IsCounted}

-- lives have so much of everything, with these plans in use
abbrev pub IsSeenOf : Lives → Seen → Type 0
IsSeenOf lives New = ⊥
IsSeenOf lives (Counted counts plans) = AreCounts lives counts × (plans.items ≡ plans_in_use lives)

-- it has no tables; or it has some, and so much of everything, with these plans in use
abbrev pub IsSeenIn : Database → Seen → Type 0
IsSeenIn db New = db.schema ≡ no_schema
IsSeenIn db (Counted counts plans) = (db.schema ≢ no_schema)
    × ((lives : Lives) × AreLivesOfDatabase db lives × AreCounts lives counts
    × (plans.items ≡ plans_in_use lives))

-- any trees that a file has are these, in which so much of everything is
abbrev pub IsCountedIn : Image → Counts → Type 0
IsCountedIn file counts =
    (db : Trees) × ((found : Trees) → HoldsDatabase file found → found ≡ db) × IsCounted db counts

-- with these lives, the instance has this one too, and every other instance has its own
pub record HasLifeToo (lives : Lives) (id : List ℕ) (life : Life) (new : Lives) : Type 0 where
  pub here : life_of new id ≡ life
  pub others : (other : List ℕ) → bytes_eq other id ≡ false →
      life_of new other ≡ life_of lives other

-- the two files have no other trees than these, and the lives in them are those that the records show
pub record IsOfFiles (both : Image) (s : State) : Type 0 where
  pub trees : Trees
  pub only : (found : Trees) → HasTrees both found → found ≡ trees
  pub are : IsTrue s.is_open → AreLivesOf trees (stored s)
