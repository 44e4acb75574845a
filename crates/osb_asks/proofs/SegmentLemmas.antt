-- The test of UTF-8, and the digits of an order's number.
use Rattle.std.proofs.Common.{◌≡◌, ℕ, ◌<◌, ◌≤◌, Bool, true, false, not, ◌==◌, List, length, slice_index, Result, Ok, IsUtf8, refl, rules, arith, nat_lt, nat_le}
use Rattle.std.specs.Str.{is_utf8}
use Rattle.std.specs.List.{list_all}
use Rattle.std.specs.Char.{is_ascii_digit}
use Rattle.std.specs.Str.Parse.{digits_value, ParsesUnsigned}
use Rattle.std.proofs.lemmas.Bool.{and_parts, ltb-true, leb-true}
use Rattle.std.proofs.lemmas.Fmt.{IsAscii-from_digits}
use Rattle.std.proofs.lemmas.Str.{is_utf8-from_IsUtf8, IsUtf8-from_is_utf8, IsUtf8-from_ascii}
use Rattle.std.proofs.lemmas.Str.Parse.{IsNumeralModel, numerals_by_value, digits_value_short, parse_gives}
use Rattle.osb_asks.specs.Ids.{is_order_number}

pub utf8_test : (bs : List ℕ) → IsUtf8 bs → is_utf8 bs ≡ true
utf8_test = is_utf8-from_IsUtf8

pub no_utf8 : (bs : List ℕ) → (IsUtf8 bs → ⊥) → is_utf8 bs ≡ false
no_utf8 bs h = not_true (is_utf8 bs) (λ e. h (IsUtf8-from_is_utf8 bs e))
  where
    not_true : (b : Bool) → (b ≡ true → ⊥) → b ≡ false
    not_true true h = absurd (h refl)
    not_true false h = refl

-- the digits of a number, as std reads them
abbrev AreDigits : List ℕ → Type 0
AreDigits ds = list_all is_ascii_digit ds ≡ true

numerals : IsNumeralModel AreDigits (digits_value 10)
numerals = numerals_by_value AreDigits (search rules)

parts : (v : List ℕ) → is_order_number v ≡ true → (0 < length v) × (length v ≤ 7) × AreDigits v
parts v h =
    let some = and_parts (nat_lt 0 (length v)) _ h in
    let few = and_parts (nat_le (length v) 7) _ some.1 in
    (ltb-true _ _ some.0, leb-true _ _ few.0, (and_parts (not (slice_index v 0 == 48)) _ few.1).1)

pub number_utf8 : (v : List ℕ) → is_order_number v ≡ true → IsUtf8 v
number_utf8 v h = IsUtf8-from_ascii v (IsAscii-from_digits v (numerals.to v (parts v h).2))

-- 7 digits at most are read as the number that they write
pub number_read : {E : Type 0} (v : List ℕ) (r : Result ℕ E) → is_order_number v ≡ true → ParsesUnsigned 32 10 v r → r ≡ Ok (digits_value 10 v)
number_read v r h reads =
    let p = parts v h in
    parse_gives numerals 32 v r reads p.2 p.0 (omega (arith, digits_value_short numerals v 7 p.2 p.1))
