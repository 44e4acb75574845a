-- Which settings a file has, or the first fault anywhere in it.
use Rattle.std.specs.Prelude.{ℕ, List, [], ◌∷◌, Bool, Option, Some, None, option_map, Result, Ok, Err, if◌then◌else◌}
use Rattle.serde_json.specs.Data.{Data}
use Rattle.osb_text.specs.Reading.{object_of}
use Rattle.osb_text.specs.declared.fault.TextFault.{TextFault}
use Rattle.osb_catalog.specs.declared.fault.SettingsFault.{SettingsFault}
use Rattle.osb_catalog.specs.declared.fault.SettingsFault.TheVariants.{Text, Missing, DoubleId, LeftOut, Version, Mode, Credential}
use Rattle.osb_catalog.specs.Items.{first_of}
use Rattle.osb_catalog.specs.Missing.{first_missing, first_left_out}
use Rattle.osb_catalog.specs.Ids.{has_double_id}
use Rattle.osb_catalog.specs.Versions.{refuses_versions}
use Rattle.osb_catalog.specs.Modes.{refuses_modes}
use Rattle.osb_catalog.specs.Logins.{refuses_logins}
use Rattle.osb_catalog.specs.Contents.{contents_of}
use Rattle.osb_catalog.specs.SettingsData.{SettingsData}

abbrev pub fault_if : SettingsFault → Bool → Option SettingsFault
fault_if fault b = if b then Some fault else None

-- the first fault of an object, in the order of their numbers
abbrev pub first_fault : Data → Option SettingsFault
first_fault file = first_of (
    option_map Missing (first_missing file) ∷
    fault_if DoubleId (has_double_id file) ∷
    option_map LeftOut (first_left_out file) ∷
    fault_if Version (refuses_versions file) ∷
    fault_if Mode (refuses_modes file) ∷
    fault_if Credential (refuses_logins file) ∷
    [])

abbrev pub contents_unless : Data → Option SettingsFault → Result SettingsData SettingsFault
contents_unless file None = Ok (contents_of file)
contents_unless file (Some fault) = Err fault

abbrev pub settings_in : Result Data TextFault → Result SettingsData SettingsFault
settings_in (Err fault) = Err Text
settings_in (Ok file) = contents_unless file (first_fault file)

-- the settings that the bytes of a file have, or their first fault
abbrev pub settings_of : List ℕ → Result SettingsData SettingsFault
settings_of bytes = settings_in (object_of bytes)
