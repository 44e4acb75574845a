-- The order of the faults: of those anywhere in a file, the one of the lowest number is named.
use Rattle.std.specs.Prelude.{◌≡◌, ◌≤◌, ℕ, List, true, Some, Result, Ok, Err}
use Rattle.serde_json.specs.Data.{Data}
use Rattle.osb_text.specs.Reading.{object_of}
use Rattle.osb_text.specs.declared.fault.TextFault.{TextFault}
use Rattle.osb_catalog.specs.declared.fault.SettingsFault.{SettingsFault}
use Rattle.osb_catalog.specs.declared.fault.SettingsFault.TheVariants.{Text, Missing, DoubleId, LeftOut, Version, Mode, Credential, Memory}
use Rattle.osb_catalog.specs.FaultNames.{fault_number}
use Rattle.osb_catalog.specs.Missing.{first_missing, first_left_out}
use Rattle.osb_catalog.specs.Ids.{has_double_id}
use Rattle.osb_catalog.specs.Versions.{refuses_versions}
use Rattle.osb_catalog.specs.Modes.{refuses_modes}
use Rattle.osb_catalog.specs.Logins.{refuses_logins}
use Rattle.osb_catalog.specs.SettingsData.{SettingsData}

-- the fault is in the object, whichever others are beside it
abbrev pub StandsInObject : Data → SettingsFault → Type 0
StandsInObject file Text = ⊥
StandsInObject file (Missing field) = first_missing file ≡ Some field
StandsInObject file DoubleId = has_double_id file ≡ true
StandsInObject file (LeftOut field) = first_left_out file ≡ Some field
StandsInObject file Version = refuses_versions file ≡ true
StandsInObject file Mode = refuses_modes file ≡ true
StandsInObject file Credential = refuses_logins file ≡ true
StandsInObject file Memory = ⊥

-- what gives no object has only the fault Text
abbrev pub StandsIn : Result Data TextFault → SettingsFault → Type 0
StandsIn (Err fault) e = e ≡ Text
StandsIn (Ok file) e = StandsInObject file e

abbrev pub Stands : List ℕ → SettingsFault → Type 0
Stands bytes e = StandsIn (object_of bytes) e

-- the fault is there, and none of a lower number
pub record IsLowest (Standing : SettingsFault → Type 0) (e : SettingsFault) : Type 0 where
  pub stands : Standing e
  pub lowest : (other : SettingsFault) → Standing other → fault_number e ≤ fault_number other

-- no fault is there where the file has settings, and otherwise the lowest is named
abbrev pub IsJudged : (SettingsFault → Type 0) → Result SettingsData SettingsFault → Type 0
IsJudged Standing (Ok settings) = (fault : SettingsFault) → ¬ Standing fault
IsJudged Standing (Err fault) = IsLowest Standing fault
