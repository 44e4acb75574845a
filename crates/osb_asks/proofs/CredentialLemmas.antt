-- The test of a login holds of just the logins.
use Rattle.std.proofs.Common.{◌≡◌, ◌≢◌, ◌↔◌, ℕ, zero, suc, ◌==◌, List, [], ◌∷◌, ◌++◌, length, replicate, take, drop, slice_index, codes, true, refl, sym, ap, ap₂, ◌∙◌, bytes_eq}
use Rattle.std.proofs.lemmas.Bool.{and_parts, and_from, cond_both, eqb-true, ne_eqb}
use Rattle.std.proofs.lemmas.List.{take-append-drop, take_at, drop_at, length-map}
use Rattle.std.proofs.lemmas.Slice.Eq.{bytes_eq-Decides}
use Rattle.std.specs.Char.{to_ascii_lowercase}
use Rattle.std.specs.Str.{str_to_ascii_lowercase}
use Rattle.osb_asks.specs.Credentials.{after_spaces, is_spaced, is_login, IsLogin}

-- spaces stand before what is after them
spaces_before : (bytes : List ℕ) → (n : ℕ) × (bytes ≡ replicate n 32 ++ after_spaces bytes)
spaces_before [] = (0, refl)
spaces_before (byte ∷ bytes) =
    let later = spaces_before bytes in
    cond_both (byte == 32) (after_spaces bytes) (byte ∷ bytes) (λ after. (n : ℕ) × (byte ∷ bytes ≡ replicate n 32 ++ after))
    (λ e. (suc later.0, ap₂ (λ x xs. x ∷ xs) (eqb-true byte 32 e) later.1)) (λ e. (0, refl))

-- after spaces comes what doesn't begin with one
after_those : (n : ℕ) (token : List ℕ) → slice_index token 0 ≢ 32 → after_spaces (replicate n 32 ++ token) ≡ token
after_those zero [] other = refl
after_those zero (byte ∷ bytes) other = rw (ne_eqb byte 32 other) refl
after_those (suc n) token other = after_those n token other

spaced : (token bytes : List ℕ) → is_spaced token bytes ≡ true → (n : ℕ) × (bytes ≡ 32 ∷ (replicate n 32 ++ token))
spaced token [] e = cc
spaced token (byte ∷ bytes) e =
    let both = and_parts (byte == 32) _ e in
    let spaces = spaces_before bytes in
    let then_token = spaces.1 ∙ ap (λ t. replicate spaces.0 32 ++ t) ((bytes_eq-Decides _ token).0 both.1) in
    (spaces.0, ap₂ (λ x xs. x ∷ xs) (eqb-true byte 32 both.0) then_token)

pub login_exact : (token value : List ℕ) → slice_index token 0 ≢ 32 → (is_login token value ≡ true) ↔ IsLogin token value
login_exact token value other = (
  λ e.
      let both = and_parts (bytes_eq (str_to_ascii_lowercase (take 5 value)) (codes "basic")) _ e in
      let behind = spaced token (drop 5 value) both.1 in
      record {
        scheme = take 5 value;
        more_spaces = behind.0;
        any_case = (bytes_eq-Decides _ _).0 both.0;
        parts = sym (take-append-drop 5 value) ∙ ap (λ rest. take 5 value ++ rest) behind.1;
      },
  λ l.
      let rest = 32 ∷ (replicate l.more_spaces 32 ++ token) in
      let five : length l.scheme ≡ 5 = sym (length-map l.scheme to_ascii_lowercase) ∙ ap length l.any_case in
      rw (l.parts, take_at l.scheme rest 5 five, drop_at l.scheme rest 5 five)
      (and_from _ _ ((bytes_eq-Decides _ _).1 l.any_case) ((bytes_eq-Decides _ _).1 (after_those l.more_spaces token other))),
)
