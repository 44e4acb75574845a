-- The bytes of named files, one after the other.
use Rattle.std.proofs.Common.{◌≡◌, ◌+◌, ◌<◌, ◌++◌, ℕ, Bor, List, [], ◌∷◌, drop, length, map, sym, subst}
use Rattle.std.proofs.Math.ListN.{get_or}
use Rattle.std.proofs.lemmas.List.{append_assoc, append-nil, drop_more}
use Rattle.osb_cli.specs.Files.{AreBytesOf, AreBytesOfAll, Contents}

-- what is read of the names that are left makes the files of all names
abbrev pub Makes : Contents → List (Bor (List ℕ)) → List (Bor (List ℕ)) → List (List ℕ) → Type 0
Makes contents names left read = (rest : List (List ℕ)) → AreBytesOfAll contents (map (λ it. it.now) left) rest →
    AreBytesOfAll contents (map (λ it. it.now) names) (read ++ rest)

-- one file more was read
pub one_more : (contents : Contents) (names : List (Bor (List ℕ))) (read : List (List ℕ)) (bytes : List ℕ) (i : ℕ) (d : Bor (List ℕ)) → i < length names
    → Makes contents names (drop i names) read → AreBytesOf contents (get_or names i d).now bytes
    → Makes contents names (drop (i + 1) names) (read ++ bytes ∷ [])
one_more contents names read bytes i d less before are rest more =
    subst (λ (all : List (List ℕ)). AreBytesOfAll contents (map (λ it. it.now) names) all) (sym (append_assoc read (bytes ∷ []) rest))
    (before (bytes ∷ rest) (subst (λ (left : List (Bor (List ℕ))). AreBytesOfAll contents (map (λ it. it.now) left) (bytes ∷ rest)) (sym (drop_more names i d less)) (are, more)))

-- all were read where no name is left
pub all_read : (contents : Contents) (names left : List (Bor (List ℕ))) (read : List (List ℕ)) → left ≡ [] → Makes contents names left read
    → AreBytesOfAll contents (map (λ it. it.now) names) read
all_read contents names left read none makes =
    subst (λ (all : List (List ℕ)). AreBytesOfAll contents (map (λ it. it.now) names) all) (append-nil read)
    (makes [] (subst (λ (names : List (Bor (List ℕ))). AreBytesOfAll contents (map (λ it. it.now) names) []) (sym none) tt))
