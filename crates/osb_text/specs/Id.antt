-- Texts that may be an id.
use Rattle.std.specs.Prelude.{ℕ, List, length, Bool, not, ◌&&◌, nat_le}
use Rattle.std.specs.Char.{is_control}
use Rattle.std.specs.List.{list_all}
use Rattle.std.specs.Str.{chars, is_utf8}

-- none of U+0000 to U+001F and U+007F to U+009F
abbrev pub has_no_controls : List ℕ → Bool
has_no_controls text = list_all (λ c. not (is_control c)) (chars text)

-- UTF-8 of 1 to 256 bytes, with no control character
abbrev pub is_id : List ℕ → Bool
is_id text = is_utf8 text && nat_le 1 (length text) && nat_le (length text) 256 && has_no_controls text
