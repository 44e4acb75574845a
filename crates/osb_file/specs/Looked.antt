-- What was seen in a database.
use Rattle.std.specs.Prelude.{◌≡◌, ◌+◌, ℕ, List, length, nat_lt, if◌then◌else◌}
use Rattle.sqlite.specs.Tree.{Trees}
use Rattle.sqlite_wal.specs.Recovery.{Image}
use Rattle.osb_orders.specs.Lives.{Lives}
use Rattle.osb_audit.specs.declared.counting.Counts.{Counts}
use Rattle.osb_audit.specs.Counts.{AreCounts}
use Rattle.osb_audit.specs.Plans.{Pair, plans_in_use}
use Rattle.osb_file.specs.declared.copied.Copied.{Copied}
use Rattle.osb_file.specs.declared.seen.Seen.{Seen}
use Rattle.osb_file.specs.declared.seen.Seen.TheVariants.{New, Counted}
use Rattle.osb_file.specs.File.{AreLivesOf, HasNoTables}

-- the files of these bytes
abbrev pub image_in : Copied → Image
image_in copied = record { log = copied.log.items; db = copied.database.items }

-- how many bytes the two files have; a log with a change has 568 at least (SQLite's file format, 4.1)
abbrev pub length_of : Copied → ℕ
length_of copied = let log = length copied.log.items in
    if nat_lt log 568 then length copied.database.items else length copied.database.items + log

-- the lives in these trees have so much of everything
abbrev pub IsCounted : Trees → Counts → Type 0
IsCounted db counts = (lives : Lives) × AreLivesOf db lives × AreCounts lives counts

-- they have these plans in use, too
abbrev pub IsCountedWith : Trees → Counts → List Pair → Type 0
IsCountedWith db counts plans =
    (lives : Lives) × AreLivesOf db lives × AreCounts lives counts × (plans ≡ plans_in_use lives)

-- a database without tables is new; of any other its lives were counted, and their plans found
abbrev pub IsSeenAs : Trees → Seen → Type 0
IsSeenAs db New = HasNoTables db
IsSeenAs db (Counted counts plans) = (¬ HasNoTables db) × IsCountedWith db counts plans.items
