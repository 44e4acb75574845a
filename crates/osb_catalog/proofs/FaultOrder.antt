-- Of the faults that stand, the one of the lowest number is named.
use Rattle.std.proofs.Common.{◌≡◌, ◌≤◌, ℕ, List, [], ◌∷◌, Bool, true, false, Option, Some, None, Result, Ok, Err, refl, arith}
use Rattle.std.specs.Prelude.{option_map}
use Rattle.std.proofs.lemmas.Bool.{false≢true}
use Rattle.serde_json.specs.Data.{Data}
use Rattle.osb_text.specs.Reading.{object_of}
use Rattle.osb_text.specs.declared.fault.TextFault.{TextFault}
use Rattle.osb_catalog.specs.declared.field.Field.{Field}
use Rattle.osb_catalog.specs.declared.fault.SettingsFault.{SettingsFault}
use Rattle.osb_catalog.specs.declared.fault.SettingsFault.TheVariants.{Text, Missing, DoubleId, LeftOut, Version, Mode, Credential, Memory}
use Rattle.osb_catalog.specs.FaultNames.{fault_number}
use Rattle.osb_catalog.specs.Items.{first_of}
use Rattle.osb_catalog.specs.Missing.{first_missing, first_left_out}
use Rattle.osb_catalog.specs.Ids.{has_double_id}
use Rattle.osb_catalog.specs.Versions.{refuses_versions}
use Rattle.osb_catalog.specs.Modes.{refuses_modes}
use Rattle.osb_catalog.specs.Logins.{refuses_logins}
use Rattle.osb_catalog.specs.Faults.{fault_if, first_fault, contents_unless, settings_in, settings_of}
use Rattle.osb_catalog.specs.Order.{Stands, StandsIn, StandsInObject, IsLowest, IsJudged}

-- a fault stands by what each look at the object found
abbrev StandsBy : Option Field → Bool → Option Field → Bool → Bool → Bool → SettingsFault → Type 0
StandsBy missing double left version mode credential Text = ⊥
StandsBy missing double left version mode credential (Missing field) = missing ≡ Some field
StandsBy missing double left version mode credential DoubleId = double ≡ true
StandsBy missing double left version mode credential (LeftOut field) = left ≡ Some field
StandsBy missing double left version mode credential Version = version ≡ true
StandsBy missing double left version mode credential Mode = mode ≡ true
StandsBy missing double left version mode credential Credential = credential ≡ true
StandsBy missing double left version mode credential Memory = ⊥

from_missing : (g : Field) (double : Bool) (left : Option Field) (version mode credential : Bool) (other : SettingsFault) → StandsBy (Some g) double left version mode credential other → 2 ≤ fault_number other
from_missing g double left version mode credential Text h = absurd h
from_missing g double left version mode credential (Missing field) h = omega arith
from_missing g double left version mode credential DoubleId h = omega arith
from_missing g double left version mode credential (LeftOut field) h = omega arith
from_missing g double left version mode credential Version h = omega arith
from_missing g double left version mode credential Mode h = omega arith
from_missing g double left version mode credential Credential h = omega arith
from_missing g double left version mode credential Memory h = omega arith

from_double_id : (left : Option Field) (version mode credential : Bool) (other : SettingsFault) → StandsBy None true left version mode credential other → 3 ≤ fault_number other
from_double_id left version mode credential Text h = absurd h
from_double_id left version mode credential (Missing field) h = cc
from_double_id left version mode credential DoubleId h = omega arith
from_double_id left version mode credential (LeftOut field) h = omega arith
from_double_id left version mode credential Version h = omega arith
from_double_id left version mode credential Mode h = omega arith
from_double_id left version mode credential Credential h = omega arith
from_double_id left version mode credential Memory h = omega arith

from_left_out : (g : Field) (version mode credential : Bool) (other : SettingsFault) → StandsBy None false (Some g) version mode credential other → 4 ≤ fault_number other
from_left_out g version mode credential Text h = absurd h
from_left_out g version mode credential (Missing field) h = cc
from_left_out g version mode credential DoubleId h = absurd (false≢true h)
from_left_out g version mode credential (LeftOut field) h = omega arith
from_left_out g version mode credential Version h = omega arith
from_left_out g version mode credential Mode h = omega arith
from_left_out g version mode credential Credential h = omega arith
from_left_out g version mode credential Memory h = omega arith

from_version : (mode credential : Bool) (other : SettingsFault) → StandsBy None false None true mode credential other → 5 ≤ fault_number other
from_version mode credential Text h = absurd h
from_version mode credential (Missing field) h = cc
from_version mode credential DoubleId h = absurd (false≢true h)
from_version mode credential (LeftOut field) h = cc
from_version mode credential Version h = omega arith
from_version mode credential Mode h = omega arith
from_version mode credential Credential h = omega arith
from_version mode credential Memory h = omega arith

from_mode : (credential : Bool) (other : SettingsFault) → StandsBy None false None false true credential other → 6 ≤ fault_number other
from_mode credential Text h = absurd h
from_mode credential (Missing field) h = cc
from_mode credential DoubleId h = absurd (false≢true h)
from_mode credential (LeftOut field) h = cc
from_mode credential Version h = absurd (false≢true h)
from_mode credential Mode h = omega arith
from_mode credential Credential h = omega arith
from_mode credential Memory h = omega arith

none_but_credential : (credential : Bool) (other : SettingsFault) → StandsBy None false None false false credential other → other ≡ Credential
none_but_credential credential Text h = absurd h
none_but_credential credential (Missing field) h = cc
none_but_credential credential DoubleId h = absurd (false≢true h)
none_but_credential credential (LeftOut field) h = cc
none_but_credential credential Version h = absurd (false≢true h)
none_but_credential credential Mode h = absurd (false≢true h)
none_but_credential credential Credential h = refl
none_but_credential credential Memory h = absurd h

from_credential : (other : SettingsFault) → StandsBy None false None false false true other → 7 ≤ fault_number other
from_credential other h = rw (none_but_credential true other h) (omega arith)

none_stands : (other : SettingsFault) → StandsBy None false None false false false other → ⊥
none_stands Text h = h
none_stands (Missing field) h = cc
none_stands DoubleId h = false≢true h
none_stands (LeftOut field) h = cc
none_stands Version h = false≢true h
none_stands Mode h = false≢true h
none_stands Credential h = false≢true h
none_stands Memory h = h

abbrev IsJudgedBy : (SettingsFault → Type 0) → Option SettingsFault → Type 0
IsJudgedBy Standing None = (fault : SettingsFault) → ¬ Standing fault
IsJudgedBy Standing (Some fault) = IsLowest Standing fault

judged_by : (missing : Option Field) (double : Bool) (left : Option Field) (version mode credential : Bool) → IsJudgedBy (StandsBy missing double left version mode credential) (first_of (option_map Missing missing ∷ fault_if DoubleId double ∷ option_map LeftOut left ∷ fault_if Version version ∷ fault_if Mode mode ∷ fault_if Credential credential ∷ []))
judged_by (Some g) double left version mode credential = record { stands = refl; lowest = from_missing g double left version mode credential }
judged_by None true left version mode credential = record { stands = refl; lowest = from_double_id left version mode credential }
judged_by None false (Some g) version mode credential = record { stands = refl; lowest = from_left_out g version mode credential }
judged_by None false None true mode credential = record { stands = refl; lowest = from_version mode credential }
judged_by None false None false true credential = record { stands = refl; lowest = from_mode credential }
judged_by None false None false false true = record { stands = refl; lowest = from_credential }
judged_by None false None false false false = none_stands

-- the same of the settings that the faults leave
judged_unless : (Standing : SettingsFault → Type 0) (file : Data) (fault : Option SettingsFault) → IsJudgedBy Standing fault → IsJudged Standing (contents_unless file fault)
judged_unless Standing file None h = h
judged_unless Standing file (Some fault) h = h

-- the looks at an object, each for itself
abbrev FaultInTurn : Data → SettingsFault → Type 0
FaultInTurn file = StandsBy (first_missing file) (has_double_id file) (first_left_out file) (refuses_versions file) (refuses_modes file) (refuses_logins file)

to_object : (file : Data) (fault : SettingsFault) → FaultInTurn file fault → StandsInObject file fault
to_object file Text h = h
to_object file (Missing field) h = h
to_object file DoubleId h = h
to_object file (LeftOut field) h = h
to_object file Version h = h
to_object file Mode h = h
to_object file Credential h = h
to_object file Memory h = h

from_object : (file : Data) (fault : SettingsFault) → StandsInObject file fault → FaultInTurn file fault
from_object file Text h = h
from_object file (Missing field) h = h
from_object file DoubleId h = h
from_object file (LeftOut field) h = h
from_object file Version h = h
from_object file Mode h = h
from_object file Credential h = h
from_object file Memory h = h

judged_alike : (Standing Other : SettingsFault → Type 0) → ((fault : SettingsFault) → Standing fault → Other fault) → ((fault : SettingsFault) → Other fault → Standing fault) → (found : Option SettingsFault) → IsJudgedBy Standing found → IsJudgedBy Other found
judged_alike Standing Other to from None h = λ fault other. h fault (from fault other)
judged_alike Standing Other to from (Some fault) h = record { stands = to fault h.stands; lowest = λ other o. h.lowest other (from other o) }

judged_object : (file : Data) → IsJudged (StandsInObject file) (contents_unless file (first_fault file))
judged_object file = judged_unless (StandsInObject file) file (first_fault file) (judged_alike (FaultInTurn file) (StandsInObject file) (to_object file) (from_object file) (first_fault file) (judged_by (first_missing file) (has_double_id file) (first_left_out file) (refuses_versions file) (refuses_modes file) (refuses_logins file)))

text_is_lowest : (other : SettingsFault) → 1 ≤ fault_number other
text_is_lowest Text = omega arith
text_is_lowest (Missing field) = omega arith
text_is_lowest DoubleId = omega arith
text_is_lowest (LeftOut field) = omega arith
text_is_lowest Version = omega arith
text_is_lowest Mode = omega arith
text_is_lowest Credential = omega arith
text_is_lowest Memory = omega arith

judged_in : (found : Result Data TextFault) → IsJudged (StandsIn found) (settings_in found)
judged_in (Err fault) = record { stands = refl; lowest = λ other h. text_is_lowest other }
judged_in (Ok file) = judged_object file

pub judged : (bytes : List ℕ) → IsJudged (Stands bytes) (settings_of bytes)
judged bytes = judged_in (object_of bytes)
