-- What a body says: a JSON object whose numbers are whole, and its members, each of its kind. Where a member isn't
-- what it has to be, the body isn't usable. The names and kinds are those of OSB API 2.17, in the section of each
-- request; the limits are this project's choice.
use Rattle.std.specs.Prelude.{[], ◌&&◌, nat_le, length, Option, Some, None, Result, Ok, Err, option_map, unwrap_or, codes, bytes_eq, if◌then◌else◌}
use Rattle.std.specs.Result.{result_ok}
use Rattle.serde_json.specs.Data.{Data}
use Rattle.serde_json.specs.Find.{as_str}
use Rattle.serde_json.specs.Written.{compact_text}
use Rattle.osb_text.specs.Names.{Bytes, Id, Json}
use Rattle.osb_text.specs.Id.{has_no_controls}
use Rattle.osb_text.specs.declared.fault.TextFault.{TextFault}
use Rattle.osb_text.specs.Reading.{object_of}
use Rattle.osb_text.specs.Member.{if_given, field, object_value}
use Rattle.osb_asks.specs.declared.ask.ReportState.{ReportState}
use Rattle.osb_asks.specs.declared.ask.ReportState.TheVariants.{Succeeded, Failed}
use Rattle.osb_asks.specs.declared.ask_fault.AskFault.{AskFault}
use Rattle.osb_asks.specs.declared.content.NamedPlan.{NamedPlan}
use Rattle.osb_asks.specs.declared.content.NamedSpace.{NamedSpace}
use Rattle.osb_asks.specs.declared.content.Details.{Details}
use Rattle.osb_asks.specs.declared.ask_fault.AskFault.TheVariants.{Body}
use Rattle.osb_asks.specs.Reads.{◌>>=◌, needed}
use Rattle.osb_asks.specs.Ids.{id_or, id_unless_empty_or}

-- whatever the fault of the text, the body isn't usable
abbrev pub or_body : {A : Type 0} → Result A TextFault → Result A AskFault
or_body read = needed Body (result_ok read)

-- the object that a body has
abbrev pub body_of : Bytes → Result Data AskFault
body_of bytes = or_body (object_of bytes)

-- ---- texts

-- the text of the name, if it is there
abbrev pub body_text_at : Bytes → Data → Result (Option Bytes) AskFault
body_text_at name v = or_body (field as_str name v)

-- an id that has to be there
abbrev pub id_at : Bytes → Data → Result Id AskFault
id_at name v = body_text_at name v >>= needed Body >>= id_or Body

-- an id that may be there
abbrev pub given_id_at : Bytes → Data → Result (Option Id) AskFault
given_id_at name v = body_text_at name v >>= if_given (id_or Body)

-- the app of a binding, of which an empty text counts as absent
abbrev pub app_guid_at : Data → Result (Option Id) AskFault
app_guid_at v = body_text_at (codes "app_guid") v >>= id_unless_empty_or Body

abbrev pub description_by : Option Bytes → Result Bytes AskFault
description_by None = Ok []
description_by (Some text) = if nat_le (length text) 1000 && has_no_controls text then Ok text else Err Body

-- the description of a report: at most 1,000 bytes without control characters, and empty where there is none
abbrev pub description_at : Data → Result Bytes AskFault
description_at v = body_text_at (codes "description") v >>= description_by

-- how an order ended, by its report
abbrev pub state_at : Data → Result ReportState AskFault
state_at v = do
  text ← body_text_at (codes "state") v >>= needed Body
  if bytes_eq text (codes "succeeded") then Ok Succeeded
      else if bytes_eq text (codes "failed") then Ok Failed else Err Body

-- the plan that a body names, and its service
unfoldable pub plan_at : Data → Result NamedPlan AskFault
plan_at v = do
  service ← id_at (codes "service_id") v
  plan ← id_at (codes "plan_id") v
  Ok (record { service = service; plan = plan })

-- the space that a body names, and its organization
unfoldable pub space_at : Data → Result NamedSpace AskFault
space_at v = do
  organization ← id_at (codes "organization_guid") v
  space ← id_at (codes "space_guid") v
  Ok (record { organization = organization; space = space })

-- ---- objects

-- the compact text of an object that may be there
abbrev pub object_at : Bytes → Data → Result (Option Json) AskFault
object_at name v = or_body (field object_value name v) >>= λ o. Ok (option_map compact_text o)

-- the compact text of an object, `{}` where there is none
abbrev pub object_or_empty : Bytes → Data → Result Json AskFault
object_or_empty name v = object_at name v >>= λ o. Ok (unwrap_or o (codes "{}"))

unfoldable pub details_at : Data → Result Details AskFault
details_at v = do
  context ← object_or_empty (codes "context") v
  parameters ← object_or_empty (codes "parameters") v
  Ok (record { context = context; parameters = parameters })

-- the version in `maintenance_info`, which may be absent as a whole (OSB API 2.17, "Maintenance Info Object")
abbrev pub maintenance_at : Data → Result (Option Bytes) AskFault
maintenance_at v =
    or_body (field object_value (codes "maintenance_info") v)
    >>= if_given (λ info. body_text_at (codes "version") info >>= needed Body)
