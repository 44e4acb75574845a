-- What the field lines of a head say (RFC 9110, 5).
use Rattle.std.specs.Prelude.{ℕ, Bool, ◌&&◌, List, [], ◌∷◌, map, length, Option, Some, None, if◌then◌else◌, nat_lt, nat_le, ◌==◌, bytes_eq}
use Rattle.std.specs.List.{list_all, list_any, slice_split}
use Rattle.std.specs.Char.{is_ascii_digit, to_ascii_lowercase}
use Rattle.std.specs.Str.Parse.{digits_value}
use Rattle.httparse.specs.Grammar.{trim_ows}

-- a name, and a value without the white space around it
abbrev pub Line : Type 0
Line = List ℕ × List ℕ

-- the same but for the case of ASCII letters
unfoldable pub same_ignoring_case : List ℕ → List ℕ → Bool
same_ignoring_case a b = bytes_eq (map to_ascii_lowercase a) (map to_ascii_lowercase b)

-- the values of the lines with that name: field names have no case (RFC 9110, 5.1)
abbrev pub values_of : List ℕ → List Line → List (List ℕ)
values_of name [] = []
values_of name (line ∷ lines) =
    if same_ignoring_case line.0 name then line.1 ∷ values_of name lines else values_of name lines

-- an item between its commas is the word, in any case, without white space around it (RFC 9110, 5.6.1)
abbrev pub lists_item : List ℕ → List ℕ → Bool
lists_item word value =
    list_any (λ item. same_ignoring_case (trim_ows item) word) (slice_split (λ b. b == 44) value)

abbrev pub is_number : List ℕ → Bool
is_number value = nat_lt 0 (length value) && (nat_le (length value) 19 && list_all is_ascii_digit value)

-- the number that 1 to 19 digits write
unfoldable pub digits_number : List ℕ → Option ℕ
digits_number value = if is_number value then Some (digits_value 10 value) else None

-- the length of the body by the values of Content-Length (RFC 9112, 6.3): 0 without one, no length with several
abbrev pub length_given : List (List ℕ) → Option ℕ
length_given [] = Some 0
length_given (value ∷ []) = digits_number value
length_given (value ∷ again ∷ values) = None
