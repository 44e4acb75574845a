-- Users, passwords and their tokens (RFC 7617, section 2).
use Rattle.std.specs.Prelude.{ℕ, List, [], ◌∷◌, ◌++◌, length, ◌==◌, nat_lt, Bool, not, ◌&&◌, ◌||◌}
use Rattle.std.specs.List.{list_any}
use Rattle.std.specs.Option.{option_map_or}
use Rattle.base64.specs.Engines.{standard}
use Rattle.base64.specs.GeneralPurpose.{encode_of}
use Rattle.serde_json.specs.Data.{Data}
use Rattle.osb_text.specs.Id.{has_no_controls}
use Rattle.osb_catalog.specs.declared.field.Field.{Field}
use Rattle.osb_catalog.specs.declared.field.Field.TheVariants as the
use Rattle.osb_catalog.specs.Fields.{value_at, text_at}
use Rattle.osb_catalog.specs.Kinds.{is_some_and}

-- 1 to 256 bytes with no control character
abbrev pub is_password : List ℕ → Bool
is_password text = not (length text == 0) && nat_lt (length text) 257 && has_no_controls text

abbrev pub has_colon : List ℕ → Bool
has_colon text = list_any (λ c. c == 58) text

-- the same, with no colon, which ends the user
abbrev pub is_user : List ℕ → Bool
is_user text = is_password text && not (has_colon text)

abbrev pub refuses_plain_login : Data → Bool
refuses_plain_login login =
    not (is_user (text_at the.User login)) || not (is_password (text_at the.Password login))

-- the login itself, or the one in its `also`
abbrev pub refuses_login : Data → Bool
refuses_login login =
    refuses_plain_login login || is_some_and refuses_plain_login (value_at the.Also login)

abbrev pub refuses_login_at : Field → Data → Bool
refuses_login_at door file = is_some_and refuses_login (value_at door file)

abbrev pub refuses_logins : Data → Bool
refuses_logins file = refuses_login_at the.Platform file || refuses_login_at the.Backend file

-- the padded standard base64 of user, colon, password
abbrev pub token : List ℕ → List ℕ → List ℕ
token user password = encode_of standard (user ++ 58 ∷ password)

abbrev pub token_of_login : Data → List ℕ
token_of_login login = token (text_at the.User login) (text_at the.Password login)

-- the login's own, and behind it that of its `also`, where that is there
abbrev pub tokens_of_login : Data → List (List ℕ)
tokens_of_login login =
    token_of_login login ∷ option_map_or (λ also. token_of_login also ∷ [])
    (value_at the.Also login) []

abbrev pub tokens_at : Field → Data → List (List ℕ)
tokens_at door file = option_map_or tokens_of_login (value_at door file) []
