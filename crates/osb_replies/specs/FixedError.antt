-- The errors that are always answered by the same status and body: a JSON object with a description, and with a code
-- where the standard defines one (OSB API 2.17, "Service Broker Errors").
use Prim.Native.String.{String}
use Rattle.std.specs.Prelude.{ℕ, Bool, List, ◌++◌, Option, codes}
use Rattle.osb_replies.specs.declared.status.Status.{Status}
use Rattle.osb_replies.specs.declared.status.Status.TheVariants.{BadRequest, LengthRequired, PreconditionFailed, PayloadTooLarge, UnprocessableEntity}
use Rattle.osb_replies.specs.declared.fixed_error.FixedError.{FixedError}
use Rattle.osb_replies.specs.declared.fixed_error.FixedError.TheVariants.{NoHead, Host, Coding, Length, TooLarge, Cut, Version, Id, Query, Body, NotInCatalog, Mismatch, NotBindable, Operation, AsyncRequired, ConcurrencyError, MaintenanceInfoConflict, NoPlanChange, BindingsRemain, Full}
use Rattle.osb_replies.specs.Text.{ReplyParts}

-- a body with the description
abbrev pub described : String → List ℕ
described text = codes "{\"description\":\"" ++ codes text ++ codes "\"}"

abbrev pub coded : String → String → List ℕ
coded code text = codes "{\"description\":\"" ++ codes text ++ codes "\",\"error\":\"" ++ codes code ++ codes "\"}"

-- the status and the body of an error
abbrev pub said : FixedError → Status × List ℕ
said NoHead = (BadRequest, described "No request head was found.")
said Host = (BadRequest, described "A request needs one Host line.")
said Coding = (LengthRequired, described "Transfer codings are not supported.")
said Length = (BadRequest, described "The Content-Length is not usable.")
said TooLarge = (PayloadTooLarge, described "The body is too large.")
said Cut = (BadRequest, described "The input ended inside the body.")
said Version = (PreconditionFailed, described "This broker speaks version 2 of the API.")
said Id = (BadRequest, described "An identifier is not usable.")
said Query = (BadRequest, described "The query is not usable.")
said Body = (BadRequest, described "The body is not usable.")
said NotInCatalog = (BadRequest, described "The catalog has no such service or plan.")
said Mismatch = (BadRequest, described "The service or plan is not the instance's.")
said NotBindable = (BadRequest, described "The plan is not bindable.")
said Operation = (BadRequest, described "The operation is not known for this resource.")
said AsyncRequired = (UnprocessableEntity, coded "AsyncRequired" "The plan needs asynchronous operations.")
said ConcurrencyError = (UnprocessableEntity, coded "ConcurrencyError" "Another operation is in progress.")
said MaintenanceInfoConflict = (UnprocessableEntity, coded "MaintenanceInfoConflict" "The maintenance version is not the catalog's.")
said NoPlanChange = (UnprocessableEntity, described "The plan does not allow a change of plan.")
said BindingsRemain = (UnprocessableEntity, described "The instance still has bindings.")
said Full = (UnprocessableEntity, described "The instance has no order numbers left.")

abbrev pub fixed_status : FixedError → Status
fixed_status error = (said error).0

abbrev pub fixed_body : FixedError → List ℕ
fixed_body error = (said error).1

abbrev pub fixed_reply : FixedError → Option (List ℕ) → Bool → ReplyParts
fixed_reply error echo close = record { status = fixed_status error; body = fixed_body error; echo = echo; close = close }
