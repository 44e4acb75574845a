-- Which versions of the API are spoken (OSB API 2.17, "API Version Header"): major 2, and any minor. That a minor has
-- one to three digits is this project's choice.
use Rattle.std.specs.Prelude.{ℕ, List, Bool, not, ◌==◌, ◌&&◌, ◌||◌, length, nat_lt, nat_le, slice_index, take, drop, codes, bytes_eq}
use Rattle.std.specs.List.{list_all}
use Rattle.std.specs.Char.{is_ascii_digit}

-- one to three digits, and no leading zero unless it is the only one
abbrev pub is_minor : List ℕ → Bool
is_minor digits =
    nat_lt 0 (length digits) && (nat_le (length digits) 3
    && (list_all is_ascii_digit digits
    && ((length digits == 1) || not (slice_index digits 0 == 48))))

-- `2.` and a minor
abbrev pub is_api_version : List ℕ → Bool
is_api_version value = bytes_eq (take 2 value) (codes "2.") && is_minor (drop 2 value)
