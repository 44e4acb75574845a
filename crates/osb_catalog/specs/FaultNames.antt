-- The numbers and names of the faults.
use Rattle.std.specs.Prelude.{ℕ, List, codes, Option, Some, None}
use Rattle.osb_catalog.specs.declared.field.Field.{Field}
use Rattle.osb_catalog.specs.declared.fault.SettingsFault.{SettingsFault}
use Rattle.osb_catalog.specs.declared.fault.SettingsFault.TheVariants.{Text, Missing, DoubleId, LeftOut, Version, Mode, Credential, Memory}

abbrev pub fault_number : SettingsFault → ℕ
fault_number Text = 1
fault_number (Missing field) = 2
fault_number DoubleId = 3
fault_number (LeftOut field) = 4
fault_number Version = 5
fault_number Mode = 6
fault_number Credential = 7
fault_number Memory = 8

abbrev pub fault_name : SettingsFault → List ℕ
fault_name Text = codes "Text"
fault_name (Missing field) = codes "Missing"
fault_name DoubleId = codes "DoubleId"
fault_name (LeftOut field) = codes "LeftOut"
fault_name Version = codes "Version"
fault_name Mode = codes "Mode"
fault_name Credential = codes "Credential"
fault_name Memory = codes "Memory"

abbrev pub field_in : SettingsFault → Option Field
field_in Text = None
field_in (Missing field) = Some field
field_in DoubleId = None
field_in (LeftOut field) = Some field
field_in Version = None
field_in Mode = None
field_in Credential = None
field_in Memory = None
