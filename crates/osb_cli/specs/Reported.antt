-- The fault that a command reports, and that one of the settings is one that they have.
use Rattle.std.specs.Prelude.{◌≡◌, ◌≤◌, ℕ, List, Option, None, Some, Result, Err, IsOk, codes, string_bytes, ⊤}
use Rattle.osb_advice.specs.Unreadable.{IsReason}
use Rattle.osb_catalog.specs.declared.fault.SettingsFault.{SettingsFault}
use Rattle.osb_catalog.specs.declared.fault.SettingsFault.TheVariants.{Text}
use Rattle.osb_catalog.specs.declared.found.Place.{Place}
use Rattle.osb_catalog.specs.Faults.{settings_of}
use Rattle.osb_catalog.specs.Found.{place_of}
use Rattle.osb_cli.specs.declared.fault.Fault.{Fault}
use Rattle.osb_cli.specs.declared.fault.Fault.TheVariants as the
use Rattle.osb_cli.specs.declared.fault.Unserved.{Unserved}
use Rattle.osb_cli.specs.declared.fault.Unserved.TheVariants.{PlanInUse}
use Rattle.osb_cli.specs.declared.fault.Unserved.TheVariants as served
use Rattle.osb_cli.specs.Files.{AreBytesOf, Contents}
use Rattle.osb_cli.specs.BuiltIn.{built_in}
use Rattle.osb_listen.specs.declared.fault.ListenFault.{ListenFault}
use Rattle.osb_listen.specs.Lines.{Says}
use Rattle.osb_cli.specs.Lines.{unserved_lines, unserved_status}
use Rattle.osb_cli.specs.Serve.{settings_name}
use Rattle.osb_cli.specs.Words.{FoundCommand, Names, text_in}

-- such a text has this fault
abbrev pub HasFault : (List ℕ → Type 0) → SettingsFault → Type 0
HasFault IsText fault = (text : List ℕ) × IsText text × (settings_of text ≡ Err fault)

-- and the first object in it that has the fault is at this place
abbrev pub HasPlace : (List ℕ → Type 0) → SettingsFault → Place → Type 0
HasPlace IsText fault place = (text : List ℕ) × IsText text × (place_of fault text ≡ Some place)

-- and this is why it has no object
abbrev pub HasReason : (List ℕ → Type 0) → List ℕ → Type 0
HasReason IsText reason = (text : List ℕ) × IsText text × IsReason text (Some reason)

-- a fault of settings is one that such a text has, at the place or for the reason that is said; any other has to do with
-- none
abbrev pub IsOfText : (List ℕ → Type 0) → Fault → Type 0
IsOfText IsText (the.Settings fault) = HasFault IsText fault
IsOfText IsText (the.Placed fault place) = HasFault IsText fault × HasPlace IsText fault place
IsOfText IsText (the.Unreadable reason) =
    HasFault IsText Text × HasReason IsText (string_bytes reason)
IsOfText IsText _ = ⊤

abbrev pub IsUnservedOf : (List ℕ → Type 0) → Unserved → Type 0
IsUnservedOf IsText (served.Fault fault) = IsOfText IsText fault
IsUnservedOf IsText (PlanInUse service plan) = ⊤

-- the text of the settings of a file, or of the built-in ones, where no file is named
abbrev pub IsTextOf : Contents → Option (List ℕ) → List ℕ → Type 0
IsTextOf contents None text = text ≡ built_in
IsTextOf contents (Some name) text = AreBytesOf contents name text

-- of those that the words name; `serve` has no others
pub record IsSettingsText (contents : Contents) (found : FoundCommand)
    (text : List ℕ) : Type 0 where
  pub serve : Names (codes "serve") found → AreBytesOf contents (settings_name found) text
  pub other : ¬ Names (codes "serve") found →
      IsTextOf contents (text_in (codes "settings") found) text

-- the fault has this status, and its lines were written
pub record IsReported (fault : Unserved) (status : ℕ) (old new : List ℕ)
    (failed_old failed_new : ℕ) : Type 0 where
  pub is : status ≡ unserved_status fault
  pub lines : Says (unserved_lines fault) old new failed_old failed_new

-- a fault was reported, and if it is one of settings, they have it
pub record Reports (contents : Contents) (found : FoundCommand) (status : ℕ) (old new : List ℕ)
    (failed_old failed_new : ℕ) : Type 0 where
  pub fault : Unserved
  pub has : IsUnservedOf (IsSettingsText contents found) fault
  pub reported : IsReported fault status old new failed_old failed_new

-- Status 0 says that serving ended well, and nothing was written behind it. Behind any other its fault was reported.
pub record IsStatusOf (contents : Contents) (found : FoundCommand)
    (ended : Result (Unit {0}) ListenFault) (status : ℕ) (old new : List ℕ)
    (failed_old failed_new : ℕ) : Type 0 where
  pub well : status ≡ 0 → IsOk ended × (new ≡ old)
  pub other : 1 ≤ status → Reports contents found status old new failed_old failed_new
