-- The digits of a length, as std reads them.
use Rattle.std.proofs.Common.{◌≡◌, ℕ, ◌<◌, ◌≤◌, true, List, length, Result, Ok, IsUtf8, rules, arith, nat_lt, nat_le}
use Rattle.std.specs.List.{list_all}
use Rattle.std.specs.Char.{is_ascii_digit}
use Rattle.std.specs.Str.Parse.{digits_value, ParsesUnsigned}
use Rattle.std.proofs.lemmas.Bool.{and_parts, ltb-true, leb-true}
use Rattle.std.proofs.lemmas.Fmt.{IsAscii-from_digits}
use Rattle.std.proofs.lemmas.Str.{IsUtf8-from_ascii}
use Rattle.std.proofs.lemmas.Str.Parse.{IsNumeralModel, numerals_by_value, digits_value_short, parse_gives}
use Rattle.osb_frames.specs.Fields.{is_number}

abbrev AreDigits : List ℕ → Type 0
AreDigits bytes = list_all is_ascii_digit bytes ≡ true

numerals : IsNumeralModel AreDigits (digits_value 10)
numerals = numerals_by_value AreDigits (search rules)

parts : (value : List ℕ) → is_number value ≡ true → (0 < length value) × (length value ≤ 19) × AreDigits value
parts value h =
    let some = and_parts (nat_lt 0 (length value)) _ h in
    let few = and_parts (nat_le (length value) 19) _ some.1 in
    (ltb-true _ _ some.0, leb-true _ _ few.0, few.1)

pub number_utf8 : (value : List ℕ) → is_number value ≡ true → IsUtf8 value
number_utf8 value h = IsUtf8-from_ascii value (IsAscii-from_digits value (numerals.to value (parts value h).2))

-- 19 digits at most write a number that fits 64 bits
pub number_read : {E : Type 0} (value : List ℕ) (r : Result ℕ E) → is_number value ≡ true → ParsesUnsigned 64 10 value r → r ≡ Ok (digits_value 10 value)
number_read value r h reads =
    let p = parts value h in
    parse_gives numerals 64 value r reads p.2 p.0 (omega (arith, digits_value_short numerals value 19 p.2 p.1))
