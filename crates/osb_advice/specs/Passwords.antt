-- Passwords that are guessed easily.
use Rattle.std.specs.Prelude.{ℕ, List, [], ◌∷◌, ◌++◌, codes, length, nat_lt, bytes_eq, Bool, ◌||◌, if◌then◌else◌}
use Rattle.std.specs.List.{concat}
use Rattle.std.specs.Option.{option_map_or}
use Rattle.std.specs.Str.{chars}
use Rattle.serde_json.specs.Data.{Data}
use Rattle.osb_catalog.specs.declared.field.Field.TheVariants as the
use Rattle.osb_catalog.specs.Fields.{text_at, value_at}

-- fewer than 12 characters, or a password of the published examples
abbrev pub is_weak : List ℕ → Bool
is_weak password =
    nat_lt (length (chars password)) 12 || bytes_eq password (codes "correct horse")
    || bytes_eq password (codes "battery staple")

abbrev pub weak_line : List ℕ → List ℕ
weak_line path = concat (codes "a password that is easily guessed: " ∷ path ∷ codes "\n" ∷ [])

abbrev pub password_line : List ℕ → Data → List ℕ
password_line path login = if is_weak (text_at the.Password login) then weak_line path else []

-- of the login, and of its `also`
abbrev pub login_passwords : List ℕ → List ℕ → Data → List ℕ
login_passwords path also login =
    password_line path login ++ option_map_or (password_line also) (value_at the.Also login) []

-- a line for each login whose password is guessed easily
abbrev pub passwords : Data → List ℕ
passwords file =
    option_map_or (login_passwords (codes "platform") (codes "platform.also"))
    (value_at the.Platform file) []
    ++ option_map_or (login_passwords (codes "backend") (codes "backend.also"))
    (value_at the.Backend file) []
