-- What a command that ends with status 0 has written.
use Rattle.std.specs.Prelude.{◌≡◌, ◌⊎◌, ⊤, Bool, true, false, ℕ, List, [], ◌∷◌, ◌++◌, length, codes, decimal, Option, None, Some, IfSome, unwrap_or}
use Rattle.sqlite_trees.specs.Tree.{Trees}
use Rattle.osb_catalog.specs.Rules.{rules_of}
use Rattle.osb_catalog.specs.SettingsData.{SettingsData}
use Rattle.osb_file.specs.declared.copied.Copied.{Copied}
use Rattle.osb_file.specs.declared.seen.Seen.{Seen}
use Rattle.osb_file.specs.declared.unseen.Unseen.{Unseen}
use Rattle.osb_file.specs.Faults.{unseen_text}
use Rattle.osb_file.specs.declared.seen.Seen.TheVariants.{New, Counted}
use Rattle.osb_orders.specs.Lives.{Lives}
use Rattle.osb_broker.specs.Plans.{OffersInUse}
use Rattle.osb_file.specs.File.{AreLivesOf, HasNoTables, HasTrees}
use Rattle.osb_file.specs.Looked.{IsSeenAs, image_in, length_of}
use Rattle.osb_file.specs.OneFile.{IsInOne}
use Rattle.osb_file.specs.Trimmed.{IsTrimmedInOne}
use Rattle.osb_audit.specs.declared.counting.Counts.{Counts}
use Rattle.osb_cli.specs.Replay.{IsReplayed}
use Rattle.osb_listen.specs.Listen.{IsAddress, listening_line}
use Rattle.osb_advice.specs.Remarks.{remarks_of}
use Rattle.osb_cli.specs.Files.{AreBytesOf, AreBytesOfAll, Contents, IsCopyOf, IsShared}
use Rattle.osb_cli.specs.Settings.{AreOfFile, AreSettingsOf}
use Rattle.osb_cli.specs.Words.{FoundCommand, HasExplain, HasPerConnection, Names, text_in, texts_in}

abbrev pub counts_line : ℕ → ℕ → List ℕ
counts_line services plans =
    codes "services " ++ (decimal services ++ (codes ", plans " ++ (decimal plans ++ codes "\n")))

-- the remark on a file that every user may read or write
abbrev pub shared_line : Bool → List ℕ
shared_line true = codes "every user may read or write it\n"
shared_line false = []

-- these are the remarks on a file that are asked for
abbrev pub AreRemarks : Contents → List ℕ → Bool → List ℕ → Type 0
AreRemarks contents name false remarks = remarks ≡ []
AreRemarks contents name true remarks =
    (text : List ℕ) × AreBytesOf contents name text
    × (shared : Bool) × IsShared contents name shared
    × (remarks ≡ remarks_of text ++ shared_line shared)

-- the line of the settings of a file was written, and the remarks on it
pub record IsChecked (contents : Contents) (name : List ℕ) (explain : Bool)
    (old new : List ℕ) : Type 0 where
  pub settings : SettingsData
  pub are : AreOfFile contents name settings
  pub remarks : List ℕ
  pub explained : AreRemarks contents name explain remarks
  pub written : new ≡ old ++ (counts_line (length settings.services) (length settings.plans)
      ++ remarks)

abbrev pub counted_line : Counts → List ℕ
counted_line counts =
    codes "instances " ++ (decimal counts.instances
    ++ (codes ", bindings " ++ (decimal counts.bindings
    ++ (codes ", running " ++ (decimal counts.running ++ codes "\n")))))

abbrev pub database_line : Seen → List ℕ
database_line New = codes "new\n"
database_line (Counted counts plans) = counted_line counts

abbrev pub refused_line : Unseen → List ℕ
refused_line cause = codes "a start is refused: " ++ (unseen_text cause ++ codes "\n")

-- behind that of a file that can be read it may be said why a start refuses it, if it is explained
abbrev pub IsNote : Bool → List ℕ → Type 0
IsNote false note = note ≡ []
IsNote true note = (note ≡ []) ⊎ ((cause : Unseen) × (note ≡ refused_line cause))

-- the line of a database file was written, by what any database has that is in it and its log
pub record IsLookedAt (contents : Contents) (name : List ℕ) (explain : Bool)
    (old new : List ℕ) : Type 0 where
  pub files : Copied
  pub copy : IsCopyOf contents name files
  pub seen : Seen
  pub is : (db : Trees) → HasTrees (image_in files) db → IsSeenAs db seen
  pub note : List ℕ
  pub noted : IsNote explain note
  pub written : new ≡ old ++ (database_line seen ++ note)

-- One file was made of a database file and its log, and needs none. It has their database, and its line was written.
pub record IsBackedUp (contents : Contents) (IsMade : List ℕ → List ℕ → Type 0)
    (name to old new : List ℕ) : Type 0 where
  pub files : Copied
  pub copy : IsCopyOf contents name files
  pub bytes : List ℕ
  pub made : IsMade to bytes
  pub counts : Counts
  pub has : IsInOne (image_in files) bytes counts
  pub written : new ≡ old ++ counted_line counts

-- where a file is named, its line
abbrev pub AreSettingsChecked : Contents → Bool → Option (List ℕ) → List ℕ → List ℕ → Type 0
AreSettingsChecked contents explain None old new = new ≡ old
AreSettingsChecked contents explain (Some name) old new = IsChecked contents name explain old new

abbrev pub IsDatabaseChecked : Contents → Bool → Option (List ℕ) → List ℕ → List ℕ → Type 0
IsDatabaseChecked contents explain None old new = new ≡ old
IsDatabaseChecked contents explain (Some name) old new = IsLookedAt contents name explain old new

-- The settings of a file have each plan that the database of another file has in use, unless that has no tables.
pub record HasItsPlans (contents : Contents) (name database : List ℕ) : Type 0 where
  pub settings : SettingsData
  pub are : AreOfFile contents name settings
  pub files : Copied
  pub copy : IsCopyOf contents database files
  pub has : (db : Trees) → HasTrees (image_in files) db → ¬ HasNoTables db →
      (lives : Lives) × AreLivesOf db lives × OffersInUse (rules_of settings) lives

-- where both are named
abbrev pub AreAccepted : Contents → Option (List ℕ) → Option (List ℕ) → Type 0
AreAccepted contents None database = ⊤
AreAccepted contents (Some name) None = ⊤
AreAccepted contents (Some name) (Some database) = HasItsPlans contents name database

-- the lines of the settings, and behind them that of the database; a start with the two lacks no plan
pub record AreChecked (contents : Contents) (explain : Bool) (settings database : Option (List ℕ))
    (old new : List ℕ) : Type 0 where
  pub between : List ℕ
  pub settings_checked : AreSettingsChecked contents explain settings old between
  pub database_checked : IsDatabaseChecked contents explain database between new
  pub accepted : AreAccepted contents settings database

-- each of these files is a connection; without any, all of the input is one, as far as it is known
abbrev pub AreConnections : Contents → List (List ℕ) → Option (List ℕ) → List (List ℕ) → Type 0
AreConnections contents [] input connections =
    (bytes : List ℕ) × (connections ≡ bytes ∷ []) × IfSome input (λ all. all ≡ bytes)
AreConnections contents (name ∷ names) input connections =
    AreBytesOfAll contents (name ∷ names) connections

-- the replies to the connections of these files, or of the input, were written, from a broker with the settings of
-- this file, or the built-in ones
pub record IsReplayedBy (contents : Contents) (file : Option (List ℕ)) (most : ℕ)
    (names : List (List ℕ)) (input : Option (List ℕ)) (old new : List ℕ) : Type 0 where
  pub settings : SettingsData
  pub are : AreSettingsOf contents file settings
  pub connections : List (List ℕ)
  pub given : AreConnections contents names input connections
  pub replayed : IsReplayed (rules_of settings) most connections old new

abbrev pub trimmed_line : ℕ → ℕ → ℕ → List ℕ
trimmed_line count before after =
    codes "trimmed " ++ (decimal count ++ (codes ", bytes " ++ (decimal before
    ++ (codes ", now " ++ (decimal after ++ codes "\n")))))

-- In the place of a database file and its log is one file, in which their lives are trimmed, and the line was written.
pub record IsTrimmed (contents : Contents) (IsMade : List ℕ → List ℕ → Type 0)
    (name old new : List ℕ) : Type 0 where
  pub files : Copied
  pub copy : IsCopyOf contents name files
  pub bytes : List ℕ
  pub made : IsMade name bytes
  pub trimmed : IsTrimmedInOne (image_in files) bytes
  pub count : ℕ
  pub written : new ≡ old ++ trimmed_line count (length_of files) (length bytes)

-- what `backup` has made and written, what `check` has written, what `serve`, what `trim` has made and written, and what
-- `replay` has written, also without its name; `ready` was given an address, and has written nothing
pub record IsDone (contents : Contents) (IsMade : List ℕ → List ℕ → Type 0) (found : FoundCommand)
    (input : Option (List ℕ)) (old new : List ℕ) : Type 0 where
  pub backup : Names (codes "backup") found → IsBackedUp contents IsMade
      (unwrap_or (text_in (codes "database") found) []) (unwrap_or (text_in (codes "to") found) [])
      old new
  pub check : Names (codes "check") found → (explain : Bool) × HasExplain found explain
      × AreChecked contents explain (text_in (codes "settings") found)
      (text_in (codes "database") found) old new
  pub ready : Names (codes "ready") found →
      IsAddress (unwrap_or (text_in (codes "address") found) []) × (new ≡ old)
  pub serve : Names (codes "serve") found →
      new ≡ old ++ listening_line (unwrap_or (text_in (codes "listen") found) [])
  pub trim : Names (codes "trim") found →
      IsTrimmed contents IsMade (unwrap_or (text_in (codes "database") found) []) old new
  pub replay : ¬ Names (codes "backup") found → ¬ Names (codes "check") found →
      ¬ Names (codes "ready") found → ¬ Names (codes "serve") found
      → ¬ Names (codes "trim") found → (most : ℕ) × HasPerConnection found most
      × IsReplayedBy contents (text_in (codes "settings") found) most
      (texts_in (codes "connections") found) input old new
