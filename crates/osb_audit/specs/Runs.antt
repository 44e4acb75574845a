-- The front of a list, up to the first item that fails a test, and what follows. For contracts inside the crate.
use Rattle.std.specs.Prelude.{Bool, List, [], ◌∷◌, if◌then◌else◌}

abbrev pub run : {A : Type 0} → (A → Bool) → List A → List A
run passes [] = []
run passes (item ∷ items) = if passes item then item ∷ run passes items else []

abbrev pub past : {A : Type 0} → (A → Bool) → List A → List A
past passes [] = []
past passes (item ∷ items) = if passes item then past passes items else item ∷ items
