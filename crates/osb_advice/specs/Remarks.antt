-- Remarks on a settings file. With any of them it may be accepted, and not be meant so.
use Rattle.std.specs.Prelude.{ℕ, List, [], ◌++◌, codes, Result, Ok, Err, if◌then◌else◌}
use Rattle.serde_json.specs.Data.{Data}
use Rattle.osb_text.specs.Reading.{object_of}
use Rattle.osb_text.specs.declared.fault.TextFault.{TextFault}
use Rattle.osb_advice.specs.Timings.{timings}
use Rattle.osb_advice.specs.Past.{past}
use Rattle.osb_advice.specs.Names.{same_names}
use Rattle.osb_advice.specs.Spaces.{spaces}
use Rattle.osb_advice.specs.SameLogin.{doors_share_a_login}
use Rattle.osb_advice.specs.Passwords.{passwords}
use Rattle.osb_advice.specs.Nothing.{nothing}

abbrev pub login_line : Data → List ℕ
login_line file = if doors_share_a_login file then codes "one login for both doors\n" else []

-- what is about logins and credentials
abbrev pub warnings : Data → List ℕ
warnings file = login_line file ++ passwords file ++ nothing file

abbrev pub remarks_on : Data → List ℕ
remarks_on file =
    timings file ++ past file ++ same_names file ++ spaces file ++ warnings file

abbrev pub remarks_read : Result Data TextFault → List ℕ
remarks_read (Ok file) = remarks_on file
remarks_read (Err fault) = []

-- the lines about a file, each with its end
abbrev pub remarks_of : List ℕ → List ℕ
remarks_of bytes = remarks_read (object_of bytes)
