-- The instance that comes next in the order of the ids' bytes.
use Rattle.std.specs.Prelude.{◌≡◌, ◌≢◌, ℕ, List, [], Option, None, Some}
use Rattle.std.specs.declared.cmp.Ordering.TheVariants.{Less}
use Rattle.std.specs.Ordering.{nat_cmp}
use Rattle.std.specs.Cmp.Lexicographic.{slice_cmp}
use Rattle.osb_orders.specs.Lives.{Lives, life_of}

abbrev pub IsBelow : List ℕ → List ℕ → Type 0
IsBelow id other = slice_cmp nat_cmp id other ≡ Less

-- It is the first id above this one of an instance that has orders; none where no instance above it has any.
abbrev pub IsNextId : Lives → List ℕ → Option (List ℕ) → Type 0
IsNextId lives after None = (id : List ℕ) → IsBelow after id → life_of lives id ≡ []
IsNextId lives after (Some next) =
    IsBelow after next × (life_of lives next ≢ [])
    × ((id : List ℕ) → IsBelow after id → IsBelow id next → life_of lives id ≡ [])
