-- Segments and query where the first separator stands, and where none does.
use Rattle.std.proofs.Common.{◌≡◌, ℕ, ◌+◌, ◌<◌, ◌≤◌, Bool, ◌==◌, List, [], ◌∷◌, length, take, drop, None, refl, false, arith}
use Rattle.std.specs.List.{position_or_len, onto_first, All}
use Rattle.std.proofs.lemmas.List.{drop_all}
use Rattle.std.proofs.lemmas.List.Elements.{All-from_get_or}
use Rattle.std.proofs.lemmas.List.Sums.{fails_before_first}
use Rattle.std.proofs.lemmas.List.Splits.{slice_split_first, slice_split_none}
use Rattle.osb_asks.specs.Targets.{segments, query_of}
use Rattle.osb_asks.specs.Doors.{entered}

abbrev is_question_mark : ℕ → Bool
is_question_mark byte = byte == 63

abbrev is_slash : ℕ → Bool
is_slash byte = byte == 47

pub split_here : (bytes : List ℕ) → position_or_len is_slash bytes < length bytes
    → segments bytes ≡ take (position_or_len is_slash bytes) bytes ∷ segments (drop (position_or_len is_slash bytes + 1) bytes)
split_here bytes h = slice_split_first is_slash bytes 0 h

pub split_whole : (bytes : List ℕ) → length bytes ≤ position_or_len is_slash bytes → segments bytes ≡ bytes ∷ []
split_whole bytes h =
    let none : All (λ byte. is_slash byte ≡ false) bytes =
    All-from_get_or (λ byte. is_slash byte ≡ false) bytes 0 (λ k within. fails_before_first is_slash bytes k 0 (omega arith)) in
    slice_split_none is_slash bytes none

pub no_query : (bytes : List ℕ) → length bytes ≤ position_or_len is_question_mark bytes → query_of bytes ≡ []
no_query bytes h = drop_all (position_or_len is_question_mark bytes + 1) bytes (omega arith)

-- a path that doesn't begin with a slash leads to no door
pub no_entry : (byte : ℕ) (bytes : List ℕ) → (byte == 47) ≡ false → entered (segments (byte ∷ bytes)) ≡ None
no_entry byte bytes other = rw other (by (segments bytes))
  where
    by : (parts : List (List ℕ)) → entered (onto_first byte parts) ≡ None
    by [] = refl
    by (part ∷ parts) = refl
