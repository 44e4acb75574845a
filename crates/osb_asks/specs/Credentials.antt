-- Basic credentials (RFC 7617, section 2): the scheme, whose case doesn't matter, one or more spaces (RFC 9110,
-- section 11.4), and the token, which is the padded base64 of user, colon and password.
use Rattle.std.specs.Prelude.{◌≡◌, ℕ, List, [], ◌∷◌, ◌++◌, replicate, Bool, false, ◌==◌, ◌&&◌, take, drop, codes, if◌then◌else◌, bytes_eq}
use Rattle.std.specs.List.{list_any}
use Rattle.std.specs.Str.{str_to_ascii_lowercase}

abbrev pub after_spaces : List ℕ → List ℕ
after_spaces [] = []
after_spaces (byte ∷ bytes) = if byte == 32 then after_spaces bytes else byte ∷ bytes

-- one or more spaces, and the token
abbrev pub is_spaced : List ℕ → List ℕ → Bool
is_spaced token [] = false
is_spaced token (byte ∷ bytes) = (byte == 32) && bytes_eq (after_spaces bytes) token

abbrev pub is_login : List ℕ → List ℕ → Bool
is_login token value = bytes_eq (str_to_ascii_lowercase (take 5 value)) (codes "basic") && is_spaced token (drop 5 value)

-- the value is the login with one of the tokens
abbrev pub is_some_login : List (List ℕ) → List ℕ → Bool
is_some_login tokens value = list_any (λ token. is_login token value) tokens

-- the value is the scheme in any case, one or more spaces, and the token
pub record IsLogin (token value : List ℕ) : Type 0 where
  pub scheme : List ℕ
  pub more_spaces : ℕ
  pub any_case : str_to_ascii_lowercase scheme ≡ codes "basic"
  pub parts : value ≡ scheme ++ (32 ∷ (replicate more_spaces 32 ++ token))
