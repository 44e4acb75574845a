-- The text of a reply in pieces. For contracts inside the crate.
use Rattle.std.specs.Prelude.{ℕ, List, [], map, Option, codes}
use Rattle.std.specs.Option.{option_map_or}
use Rattle.std.specs.Borrow.{Bor}
use Rattle.std.specs.List.{concat}

abbrev pub text_of : List (Bor (List ℕ)) → List ℕ
text_of pieces = concat (map (λ (piece : Bor (List ℕ)). piece.now) pieces)

-- what comes before the identity that a reply repeats, where it repeats one, and after it
abbrev pub before_identity : Option (List ℕ) → List ℕ
before_identity echo =
    option_map_or (λ (_ : List ℕ). codes "X-Broker-API-Request-Identity: ") echo []

abbrev pub after_identity : Option (List ℕ) → List ℕ
after_identity echo = option_map_or (λ (_ : List ℕ). codes "\r\n") echo []
