-- The lines on standard error that report why a command ends with another status than 0.
use Rattle.std.specs.Prelude.{ℕ, List, [], ◌∷◌, codes, decimal, string_bytes, Option, None, Some}
use Rattle.std.specs.List.{concat}
use Rattle.osb_catalog.specs.declared.fault.SettingsFault.{SettingsFault}
use Rattle.osb_catalog.specs.declared.fault.SettingsFault.TheVariants as a
use Rattle.osb_catalog.specs.declared.field.Field.{Field}
use Rattle.osb_advice.specs.Past.{shown}
use Rattle.osb_advice.specs.Wanted.{wanted}
use Rattle.osb_catalog.specs.declared.found.Place.{Place}
use Rattle.osb_catalog.specs.declared.found.Place.TheVariants as place
use Rattle.osb_catalog.specs.FaultNames.{fault_number, fault_name, field_in}
use Rattle.osb_catalog.specs.Fields.{field_name}
use Rattle.osb_file.specs.declared.fault.FileFault.{FileFault}
use Rattle.osb_file.specs.declared.fault.FileFault.TheVariants as file
use Rattle.osb_file.specs.declared.unseen.Unseen.{Unseen}
use Rattle.osb_file.specs.declared.unseen.Unseen.TheVariants as unseen
use Rattle.osb_file.specs.Faults.{unseen_fault_of, unseen_text}
use Rattle.osb_file.specs.declared.difference.Difference.{Difference}
use Rattle.osb_file.specs.declared.difference.Difference.TheVariants as differs
use Rattle.osb_listen.specs.declared.unbound.Unbound.{Unbound}
use Rattle.osb_listen.specs.Listen.{unbound_text}
use Rattle.osb_cli.specs.declared.fault.Fault.{Fault}
use Rattle.osb_cli.specs.declared.fault.Fault.TheVariants as the
use Rattle.osb_cli.specs.declared.fault.Unserved.{Unserved}
use Rattle.osb_cli.specs.declared.fault.Unserved.TheVariants.{PlanInUse}
use Rattle.osb_cli.specs.declared.fault.Unserved.TheVariants as served

-- the number, the name and the field of a fault of the settings, as `settings: 2 Missing id`
abbrev pub settings_line : SettingsFault → Option Field → List ℕ
settings_line fault None = concat (codes "settings: " ∷ decimal (fault_number fault) ∷ codes " "
    ∷ fault_name fault ∷ codes "\n" ∷ [])
settings_line fault (Some field) =
    concat (codes "settings: " ∷ decimal (fault_number fault) ∷ codes " "
    ∷ fault_name fault ∷ codes " " ∷ field_name field ∷ codes "\n" ∷ [])

-- where in the settings it is
abbrev pub place_line : Place → List ℕ
place_line place.File = concat (codes "at the top\n" ∷ [])
place_line place.Catalog = concat (codes "at catalog\n" ∷ [])
place_line place.Platform = concat (codes "at platform\n" ∷ [])
place_line place.Backend = concat (codes "at backend\n" ∷ [])
place_line (place.Service at) =
    concat (codes "at catalog.services[" ∷ decimal at ∷ codes "]\n" ∷ [])
place_line (place.Plan service at) = concat (codes "at catalog.services[" ∷ decimal service
    ∷ codes "].plans[" ∷ decimal at ∷ codes "]\n" ∷ [])
place_line (place.Mode name) = concat (codes "at modes." ∷ shown name ∷ codes "\n" ∷ [])

-- and what it would have to be
abbrev pub wanted_line : SettingsFault → Place → List ℕ
wanted_line fault at = concat (wanted fault (Some at) ∷ codes "\n" ∷ [])

-- the number and the name of a fault of the database
abbrev pub database_fault_line : FileFault → List ℕ
database_fault_line file.Refused = concat (codes "database: 1 Refused\n" ∷ [])
database_fault_line file.NotOurs = concat (codes "database: 2 NotOurs\n" ∷ [])
database_fault_line file.Missing = concat (codes "database: 3 Missing\n" ∷ [])

-- why a database file wasn't looked at: the fault, and behind it its cause, where that isn't said yet
abbrev pub unseen_lines : Unseen → List (List ℕ)
unseen_lines unseen.NotOurs = database_fault_line file.NotOurs ∷ []
unseen_lines cause = database_fault_line (unseen_fault_of cause)
    ∷ concat (unseen_text cause ∷ codes "\n" ∷ []) ∷ []

-- in what a database differs from one of this broker
abbrev pub difference_line : Difference → List ℕ
difference_line differs.Tables = concat (codes "the tables of another program\n" ∷ [])
difference_line (differs.Newer version) =
    concat (codes "version " ∷ decimal version ∷ codes ": newer\n" ∷ [])
difference_line (differs.TableMore name) =
    concat (codes "a table more: " ∷ shown (string_bytes name) ∷ codes "\n" ∷ [])
difference_line (differs.IndexMore name) =
    concat (codes "an index more: " ∷ shown (string_bytes name) ∷ codes "\n" ∷ [])
difference_line (differs.ViewMore name) =
    concat (codes "a view more: " ∷ shown (string_bytes name) ∷ codes "\n" ∷ [])
difference_line differs.Rows = concat (codes "rows that don't fit\n" ∷ [])

-- connections can't be taken at an address, and why
abbrev pub unbound_lines : List ℕ → Unbound → List (List ℕ)
unbound_lines address cause =
    concat (codes "osb-broker: cannot listen on " ∷ address ∷ codes "\n" ∷ [])
    ∷ concat (unbound_text cause ∷ codes "\n" ∷ []) ∷ []

-- how many descriptors are needed, and how many allowed
abbrev pub descriptors_line : ℕ → ℕ → List ℕ
descriptors_line needed allowed = concat (codes "osb-broker: too few descriptors: " ∷ decimal needed
    ∷ codes " needed, " ∷ decimal allowed ∷ codes " allowed\n" ∷ [])

-- the line of these words, and of a name behind them
abbrev pub line_with : List ℕ → List ℕ → List (List ℕ)
line_with words name = concat (words ∷ name ∷ codes "\n" ∷ []) ∷ []

-- those of a fault; the text for words that aren't those of a command is clap's
abbrev pub fault_lines : Fault → List (List ℕ)
fault_lines (the.CannotRead name) = line_with (codes "osb-broker: cannot read ") name.now
fault_lines (the.TooLarge name) = line_with (codes "osb-broker: too large ") name.now
fault_lines the.OutOfMemory = concat (codes "osb-broker: out of memory\n" ∷ []) ∷ []
fault_lines (the.Database fault) = database_fault_line fault ∷ []
fault_lines the.CannotWrite = concat (codes "osb-broker: cannot write\n" ∷ []) ∷ []
fault_lines (the.CannotListen address) =
    line_with (codes "osb-broker: cannot listen on ") address.now
fault_lines (the.Unbound address cause) = unbound_lines address.now cause
fault_lines the.CannotAccept = concat (codes "osb-broker: cannot accept\n" ∷ []) ∷ []
fault_lines (the.NoAddress text) = line_with (codes "osb-broker: no address ") text.now
fault_lines (the.NotReady address) = line_with (codes "osb-broker: not ready ") address.now
fault_lines (the.TooFewDescriptors needed allowed) = descriptors_line needed allowed ∷ []
fault_lines (the.Words text) = concat (string_bytes text ∷ []) ∷ []
fault_lines (the.Settings fault) = settings_line fault (field_in fault) ∷ []
fault_lines (the.Placed fault at) =
    settings_line fault (field_in fault) ∷ place_line at ∷ wanted_line fault at ∷ []
fault_lines (the.Unreadable reason) =
    settings_line a.Text None ∷ concat (string_bytes reason ∷ codes "\n" ∷ []) ∷ []
fault_lines (the.Unseen cause) = unseen_lines cause
fault_lines (the.Differs difference) =
    database_fault_line file.NotOurs ∷ difference_line difference ∷ []
fault_lines (the.IsThere name) = line_with (codes "osb-broker: already there ") name.now
fault_lines (the.DraftIsThere name) =
    concat (codes "osb-broker: already there " ∷ name.now ∷ codes "-new\n" ∷ []) ∷ []
fault_lines (the.CannotMake name) = line_with (codes "osb-broker: cannot make ") name.now

abbrev pub unserved_lines : Unserved → List (List ℕ)
unserved_lines (served.Fault fault) = fault_lines fault
unserved_lines (PlanInUse service plan) =
    concat (codes "plan in use: " ∷ service ∷ codes " " ∷ plan ∷ codes "\n" ∷ []) ∷ []

-- the status of each
abbrev pub fault_status : Fault → ℕ
fault_status (the.Words text) = 2
fault_status (the.Settings fault) = 3
fault_status (the.Placed fault at) = 3
fault_status (the.Unreadable reason) = 3
fault_status _ = 1

abbrev pub unserved_status : Unserved → ℕ
unserved_status (served.Fault fault) = fault_status fault
unserved_status (PlanInUse service plan) = 4
