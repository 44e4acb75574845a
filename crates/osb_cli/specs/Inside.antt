-- What the words ask for, and what was done of it. For contracts inside the crate.
use Rattle.std.specs.Prelude.{ℕ, List, map, Option, None, Some, option_map, ◌≡◌, ⊤, ◌*◌, [], codes, string_bytes, unwrap_or}
use Rattle.osb_cli.specs.declared.words.Replay.{Replay}
use Rattle.osb_file.specs.declared.copied.Copied.{Copied}
use Rattle.osb_file.specs.declared.fault.FileFault.{FileFault}
use Rattle.osb_file.specs.declared.fault.FileFault.TheVariants.{NotOurs, Refused}
use Rattle.osb_file.specs.Faults.{unseen_fault_of}
use Rattle.osb_file.specs.File.{HasTrees}
use Rattle.osb_file.specs.Looked.{IsSeenAs, image_in, length_of}
use Rattle.osb_file.specs.Trimmed.{IsTrimmedInOne}
use Rattle.osb_cli.specs.declared.trim.Trimmed.{Trimmed}
use Rattle.osb_cli.specs.Files.{Contents, IsCopyOf}
use Rattle.osb_cli.specs.Done.{IsReplayedBy}
use Rattle.sqlite.specs.Tree.{Trees}
use Rattle.osb_listen.specs.declared.fault.ListenFault.{ListenFault}
use Rattle.osb_listen.specs.declared.fault.ListenFault.TheVariants as listen
use Rattle.osb_catalog.specs.declared.fault.SettingsFault.{SettingsFault}
use Rattle.osb_cli.specs.declared.fault.Fault.TheVariants as fault
use Rattle.osb_cli.specs.declared.fault.Fault as faults
use Rattle.osb_catalog.specs.declared.fault.SettingsFault.TheVariants.{Text as NoText}
use Rattle.osb_cli.specs.Reported.{HasPlace, HasReason}
use Rattle.osb_cli.specs.declared.fault.Unserved.{Unserved}
use Rattle.osb_cli.specs.declared.fault.Unserved.TheVariants.{Fault, PlanInUse}
use Rattle.osb_cli.specs.Serve.{LacksPlan, LacksPlanOf, settings_name}
use Rattle.osb_catalog.specs.Rules.{Rules}
use Rattle.osb_broker.specs.Plans.{first_lacking}
use Rattle.osb_file.specs.declared.seen.Seen.{Seen}
use Rattle.osb_file.specs.declared.seen.Seen.TheVariants.{New, Counted}
use Rattle.std.specs.Duration.{as_nanos}
use Rattle.clap.specs.Words.{all_of, found_of, one_of, rows_of}
use Rattle.clap.specs.declared.parser.matches.ArgMatches.{ArgMatches}
use Rattle.osb_cli.specs.declared.words.Backup.{Backup}
use Rattle.osb_cli.specs.declared.words.Check.{Check}
use Rattle.osb_cli.specs.declared.words.Listen.{Listen}
use Rattle.osb_cli.specs.declared.words.Ready.{Ready}
use Rattle.osb_cli.specs.declared.words.Trim.{Trim}
use Rattle.osb_cli.specs.declared.words.Job.{Job}
use Rattle.osb_cli.specs.declared.words.Job.TheVariants as order
use Rattle.osb_cli.specs.Words.{FoundCommand, Names, text_in, texts_in, one_text_in, HasNumber, HasPerConnection, HasConnections, HasExisting, HasExplain, HasTogether}

-- as a replay was asked for
abbrev pub IsReplayedFor : Contents → Replay → Option (List ℕ) → List ℕ → List ℕ → Type 0
IsReplayedFor contents asked =
    IsReplayedBy contents (option_map (λ it. it.now) asked.settings) asked.per_connection.number
    (map (λ it. it.now) asked.connections.items)

-- a plan that is named as in use is one
abbrev pub NamesInUse : Contents → List ℕ → Trees → Unserved → Type 0
NamesInUse contents name db (PlanInUse service plan) = LacksPlan contents name db service plan
NamesInUse contents name db (Fault fault) = ⊤

-- a plan that is found in use is one, by the settings and the database of these files
abbrev pub FindsInUse : Contents → Option (List ℕ) → Option (List ℕ) → Unserved → Type 0
FindsInUse contents name database (PlanInUse service plan) =
    LacksPlanOf contents (unwrap_or name []) (unwrap_or database []) service plan
FindsInUse contents name database (Fault fault) = ⊤

-- it was seen in the database of a file
abbrev pub IsOfCopy : Contents → List ℕ → Seen → Type 0
IsOfCopy contents name seen = (files : Copied) × IsCopyOf contents name files
    × ((db : Trees) → HasTrees (image_in files) db → IsSeenAs db seen)

-- the catalog has each plan that was seen in use
abbrev pub OffersSeen : Rules → Seen → Type 0
OffersSeen rules New = ⊤
OffersSeen rules (Counted counts plans) = first_lacking rules plans.items ≡ None

-- a plan was seen in use, and is the first that the catalog lacks
abbrev pub LacksSeen : Rules → Seen → Unserved → Type 0
LacksSeen rules (Counted counts plans) (PlanInUse service plan) =
    first_lacking rules plans.items ≡ Some (service, plan)
LacksSeen rules (Counted counts plans) (Fault fault) = ⊥
LacksSeen rules New fault = ⊥

-- a fault of serving and the one that the command has for it name the same plan, or none
abbrev pub NameOne : ListenFault → Unserved → Type 0
NameOne (listen.PlanInUse service plan) (PlanInUse found named) = (found ≡ service) × (named ≡ plan)
NameOne fault (PlanInUse found named) = ⊥
NameOne fault (Fault other) = ⊤

-- it is this fault of a database, maybe with a cause
abbrev pub IsFaultOf : FileFault → faults.Fault → Type 0
IsFaultOf of (fault.Database found) = found ≡ of
IsFaultOf of (fault.Unseen cause) = unseen_fault_of cause ≡ of
IsFaultOf of (fault.Differs difference) = of ≡ NotOurs
IsFaultOf of _ = ⊥

-- a fault of a database stays that; a file that was taken away is refused
abbrev pub KeepsDatabase : ListenFault → Unserved → Type 0
KeepsDatabase (listen.Database found) (Fault other) = IsFaultOf found other
KeepsDatabase listen.FileTaken (Fault other) = IsFaultOf Refused other
KeepsDatabase _ told = ⊤

-- the fault names a plan
abbrev pub IsPlan : Unserved → Type 0
IsPlan (PlanInUse service plan) = ⊤
IsPlan (Fault fault) = ⊥

-- the same of what clap found behind the command's name
abbrev pub one_text_of : List ℕ → ArgMatches → Option (List ℕ)
one_text_of id found = one_of id (rows_of (found_of found))

abbrev pub option_texts_of : List ℕ → ArgMatches → List (List ℕ)
option_texts_of id found = unwrap_or (all_of id (rows_of (found_of found))) []

abbrev pub HasTimeLimit : FoundCommand → ℕ → Type 0
HasTimeLimit found = HasNumber 86400 10 (one_text_in (codes "time-limit") found)

abbrev pub HasIdleLimit : FoundCommand → ℕ → Type 0
HasIdleLimit found = HasNumber 86400 60 (one_text_in (codes "idle-limit") found)

pub record AsksReplay (found : FoundCommand) (asked : Replay) : Type 0 where
  pub no_backup : ¬ Names (codes "backup") found
  pub no_check : ¬ Names (codes "check") found
  pub no_ready : ¬ Names (codes "ready") found
  pub no_serve : ¬ Names (codes "serve") found
  pub no_trim : ¬ Names (codes "trim") found
  pub settings : option_map (λ it. it.now) asked.settings ≡ text_in (codes "settings") found
  pub connections : map (λ it. it.now) asked.connections.items
      ≡ texts_in (codes "connections") found
  pub per_connection : HasPerConnection found asked.per_connection.number

pub record AsksServe (found : FoundCommand) (asked : Listen) : Type 0 where
  pub named : Names (codes "serve") found
  pub settings : asked.settings.now ≡ settings_name found
  pub database : asked.place.database.now ≡ unwrap_or (text_in (codes "database") found) []
  pub existing : HasExisting found asked.place.existing
  pub address : asked.place.address.now ≡ unwrap_or (text_in (codes "listen") found) []
  pub connections : HasConnections found asked.place.connections
  pub per_connection : HasPerConnection found asked.per_connection.number
  pub seconds : ℕ
  pub time_limit : as_nanos asked.place.time_limit ≡ seconds * 1000000000
  pub limit : HasTimeLimit found seconds
  pub idle_seconds : ℕ
  pub idle_limit : as_nanos asked.place.idle_limit ≡ idle_seconds * 1000000000
  pub idle : HasIdleLimit found idle_seconds
  pub together : HasTogether found asked.place.together
  pub explain : HasExplain found asked.explain
  pub wanted : HasNumber 1024 0 (one_text_in (codes "together") found) (unwrap_or asked.wanted 0)

pub record AsksCheck (found : FoundCommand) (asked : Check) : Type 0 where
  pub named : Names (codes "check") found
  pub settings : option_map (λ it. it.now) asked.settings ≡ text_in (codes "settings") found
  pub explain : HasExplain found asked.explain
  pub database : option_map (λ it. it.now) asked.database ≡ text_in (codes "database") found

pub record AsksBackup (found : FoundCommand) (asked : Backup) : Type 0 where
  pub named : Names (codes "backup") found
  pub database : asked.database.now ≡ unwrap_or (text_in (codes "database") found) []
  pub to : asked.to.now ≡ unwrap_or (text_in (codes "to") found) []

-- without a number of seconds it is 10, and without one of a process none, or 0, which no process has
pub record AsksReady (found : FoundCommand) (asked : Ready) : Type 0 where
  pub named : Names (codes "ready") found
  pub address : asked.address.now ≡ unwrap_or (text_in (codes "address") found) []
  pub seconds : ℕ
  pub within : as_nanos asked.within ≡ seconds * 1000000000
  pub limit : HasNumber 86400 10 (one_text_in (codes "within") found) seconds
  pub process : HasNumber 4194304 0 (one_text_in (codes "pid") found) (unwrap_or asked.process 0)

pub record AsksTrim (found : FoundCommand) (asked : Trim) : Type 0 where
  pub named : Names (codes "trim") found
  pub database : asked.database.now ≡ unwrap_or (text_in (codes "database") found) []

-- the lives of the file of this name and its log, trimmed
pub record IsTrimmedOf (contents : Contents) (name : List ℕ) (trimmed : Trimmed) : Type 0 where
  pub files : Copied
  pub copy : IsCopyOf contents name files
  pub is : IsTrimmedInOne (image_in files) trimmed.file.bytes.items
  pub before : trimmed.before ≡ length_of files

-- the order is what the words ask for
abbrev pub Asks : FoundCommand → Job → Type 0
Asks found (order.Backup asked) = AsksBackup found asked
Asks found (order.Check asked) = AsksCheck found asked
Asks found (order.Ready asked) = AsksReady found asked
Asks found (order.Replay asked) = AsksReplay found asked
Asks found (order.Serve asked) = AsksServe found asked
Asks found (order.Trim asked) = AsksTrim found asked

-- the fault isn't one of settings
abbrev pub IsOther : faults.Fault → Type 0
IsOther (fault.Settings found) = ⊥
IsOther (fault.Placed found place) = ⊥
IsOther (fault.Unreadable reason) = ⊥
IsOther _ = ⊤

abbrev pub IsOtherUnserved : Unserved → Type 0
IsOtherUnserved (Fault other) = IsOther other
IsOtherUnserved (PlanInUse service plan) = ⊤

-- what the command says of a fault of serving: the same plan or none, no fault of settings, and the same of a database
abbrev pub IsSaidOf : ListenFault → Unserved → Type 0
IsSaidOf fault told = NameOne fault told × IsOtherUnserved told × KeepsDatabase fault told

-- the same fault of settings, at its place where one was found, or with the reason why there is no object
abbrev pub IsPlacedBy : (List ℕ → Type 0) → SettingsFault → faults.Fault → Type 0
IsPlacedBy IsText of (fault.Settings found) = found ≡ of
IsPlacedBy IsText of (fault.Placed found place) = (found ≡ of) × HasPlace IsText of place
IsPlacedBy IsText of (fault.Unreadable reason) =
    (of ≡ NoText) × HasReason IsText (string_bytes reason)
IsPlacedBy IsText of _ = ⊤
