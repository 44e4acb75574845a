-- The calls that were made of a reader or a writer, the oldest first.
use Rattle.std.specs.Prelude.{ℕ, Bool, true, false, List, [], ◌∷◌, flat_map, count_by, Option, Some, None}

-- the bytes that went over, or None where the call failed
abbrev pub Call : Type 0
Call = Option (List ℕ)

abbrev pub call_bytes : Call → List ℕ
call_bytes (Some bytes) = bytes
call_bytes None = []

abbrev pub is_failure : Call → Bool
is_failure (Some bytes) = false
is_failure None = true

-- the call failed, or no byte went over
abbrev pub is_failed_or_empty : Call → Bool
is_failed_or_empty (Some []) = true
is_failed_or_empty (Some (byte ∷ bytes)) = false
is_failed_or_empty None = true

-- the bytes that went over, in all
abbrev pub all_bytes : List Call → List ℕ
all_bytes calls = flat_map call_bytes calls

abbrev pub failure_count : List Call → ℕ
failure_count calls = count_by is_failure calls

abbrev pub failed_or_empty_count : List Call → ℕ
failed_or_empty_count calls = count_by is_failed_or_empty calls
