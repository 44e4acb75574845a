use Rattle.std.proofs.Common.{sym}
use Rattle.std.proofs.lemmas.Bool.{true≢false}
use Rattle.osb_text.proofs.Utf8.{no_object_text}
use Rattle.osb_text.proofs.reading.is_object_text.Goals as goal

-- a text that is refused, and not for memory, has no object
pub returns-in-Err-2 : goal.returns-in-Err-2
returns-in-Err-2 c = rw (← c.as_bytes.ensures.value) (no_object_text _ _ c.as_bytes.ensures.utf8 (c.in-Err.ensures.err (λ memory. true≢false (sym (rw memory at c.if-eq.ensures)))))
