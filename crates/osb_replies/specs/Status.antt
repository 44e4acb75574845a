-- Statuses: their codes and reason phrases (RFC 9110, section 15; RFC 9112, section 4). The phrases of 413 and 422
-- are the older ones (RFC 7231, RFC 4918).
use Rattle.std.specs.Prelude.{ℕ, List, codes}
use Rattle.osb_replies.specs.declared.status.Status.{Status}
use Rattle.osb_replies.specs.declared.status.Status.TheVariants.{Ok, Created, Accepted, BadRequest, Unauthorized, NotFound, Conflict, Gone, LengthRequired, PreconditionFailed, PayloadTooLarge, UnprocessableEntity, InternalServerError}

-- the code and the reason phrase
abbrev pub row_of : Status → ℕ × List ℕ
row_of Ok = (200, codes "OK")
row_of Created = (201, codes "Created")
row_of Accepted = (202, codes "Accepted")
row_of BadRequest = (400, codes "Bad Request")
row_of Unauthorized = (401, codes "Unauthorized")
row_of NotFound = (404, codes "Not Found")
row_of Conflict = (409, codes "Conflict")
row_of Gone = (410, codes "Gone")
row_of LengthRequired = (411, codes "Length Required")
row_of PreconditionFailed = (412, codes "Precondition Failed")
row_of PayloadTooLarge = (413, codes "Payload Too Large")
row_of UnprocessableEntity = (422, codes "Unprocessable Entity")
row_of InternalServerError = (500, codes "Internal Server Error")

abbrev pub code_of : Status → ℕ
code_of status = (row_of status).0

abbrev pub phrase_of : Status → List ℕ
phrase_of status = (row_of status).1
