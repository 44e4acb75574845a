-- What `serve` did, and what it leaves of a database file, of which is supposed what it held. And the plans that keep it
-- from serving, as `serve` and `check` find them.
use Rattle.std.specs.Prelude.{◌⊎◌, ℕ, Bool, List, [], codes, unwrap_or}
use Rattle.sqlite.specs.Tree.{Trees}
use Rattle.sqlite.specs.State.{State}
use Rattle.osb_catalog.specs.Rules.{rules_of}
use Rattle.osb_catalog.specs.SettingsData.{SettingsData}
use Rattle.osb_broker.specs.Exchanges.{Exchange}
use Rattle.osb_listen.specs.Held.{HasServed, IsInUse, LeavesFile, Serving}
use Rattle.osb_file.specs.declared.copied.Copied.{Copied}
use Rattle.osb_file.specs.File.{HasTrees}
use Rattle.osb_file.specs.Looked.{image_in}
use Rattle.osb_cli.specs.Files.{Contents, IsCopyOf}
use Rattle.osb_cli.specs.Settings.{AreOfFile}
use Rattle.osb_cli.specs.Words.{FoundCommand, HasConnections, HasExisting, HasPerConnection, Names, text_in}

-- the settings file that the words name
abbrev pub settings_name : FoundCommand → List ℕ
settings_name found = unwrap_or (text_in (codes "settings") found) []

-- what serving by the settings of a file leaves, where the database file held these trees
pub record Leaves (contents : Contents) (name : List ℕ) (per_connection : ℕ) (existing : Bool)
    (db : Trees) (serving : Serving) (now : State) : Type 0 where
  pub settings : SettingsData
  pub are : AreOfFile contents name settings
  pub leaves : LeavesFile (rules_of settings) per_connection existing db serving now

-- by the settings that the words name, with as many requests of each client as they say, and from an existing database
-- where they ask for one
pub record LeavesAs (contents : Contents) (found : FoundCommand) (db : Trees) (serving : Serving)
    (now : State) : Type 0 where
  pub per_connection : ℕ
  pub of_each : HasPerConnection found per_connection
  pub existing : Bool
  pub of_file : HasExisting found existing
  pub left : Leaves contents (settings_name found) per_connection existing db serving now

-- as many clients as the words say were served, or fewer
pub record HasServedAs (found : FoundCommand) (serving : Serving)
    (journal_old journal_new : List Exchange) (said_old said_new : List ℕ)
    (failed_old failed_new : ℕ) : Type 0 where
  pub connections : ℕ
  pub of_all : HasConnections found connections
  pub per_connection : ℕ
  pub of_each : HasPerConnection found per_connection
  pub served : HasServed connections per_connection serving journal_old journal_new said_old
      said_new failed_old failed_new

-- the settings of a file lack this plan, which the lives in these trees have in use
pub record LacksPlan (contents : Contents) (name : List ℕ) (db : Trees)
    (service plan : List ℕ) : Type 0 where
  pub settings : SettingsData
  pub are : AreOfFile contents name settings
  pub lacks : IsInUse (rules_of settings) db service plan

-- the same, of the database of another file
pub record LacksPlanOf (contents : Contents) (name database service plan : List ℕ) : Type 0 where
  pub files : Copied
  pub copy : IsCopyOf contents database files
  pub lacks : (db : Trees) → HasTrees (image_in files) db → LacksPlan contents name db service plan

-- the words name a command that may find a plan in use
abbrev pub MayFindPlans : FoundCommand → Type 0
MayFindPlans found = Names (codes "serve") found ⊎ Names (codes "check") found

-- some plan that the database which the words name has in use is lacking
abbrev pub FindsSome : Contents → FoundCommand → Type 0
FindsSome contents found = (service plan : List ℕ)
    × LacksPlanOf contents (settings_name found) (unwrap_or (text_in (codes "database") found) [])
    service plan

-- some plan that the lives in these trees have in use is lacking
abbrev pub NamesSome : Contents → FoundCommand → Trees → Type 0
NamesSome contents found db =
    (service plan : List ℕ) × LacksPlan contents (settings_name found) db service plan
