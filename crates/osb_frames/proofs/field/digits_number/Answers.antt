use Rattle.std.proofs.Common.{sym}
use Rattle.osb_frames.proofs.FieldLemmas.{number_utf8, number_read}
use Rattle.osb_frames.proofs.field.digits_number.Goals as goal

pub returns-in_default : goal.returns-in_default
returns-in_default c = absurd (c.in_default.ensures.cases.0 (number_utf8 _ (sym c.if-not-is_number.ensures)))

pub returns-in-Err : goal.returns-in-Err
returns-in-Err c =
    let read = number_read c.in-Ok.digits.now c.parse.result (rw c.in-Ok.ensures.cases.0 (sym c.if-not-is_number.ensures)) c.parse.ensures.value.0 in
    let failed = c.in-Err.is in
    cc
