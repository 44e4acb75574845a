-- Orders with the ids of their instances, and the lives that they make up.
use Rattle.std.specs.Prelude.{ℕ, Bool, List, [], ◌∷◌, bytes_eq}
use Rattle.std.specs.declared.cmp.Ordering.{Ordering}
use Rattle.std.specs.Ordering.{nat_cmp, ordering_then}
use Rattle.std.specs.Cmp.Lexicographic.{slice_cmp}
use Rattle.std.specs.FinMap.{empty, insert}
use Rattle.osb_orders.specs.declared.order.Order.{Order}
use Rattle.osb_orders.specs.Lives.{Lives, life_of}

-- an order with the id of its instance
abbrev pub Entry : Type 0
Entry = List ℕ × Order

-- by the ids' bytes, and for one instance by number
abbrev pub entry_cmp : Entry → Entry → Ordering
entry_cmp a b = ordering_then (slice_cmp nat_cmp a.0 b.0) (nat_cmp a.1.number b.1.number)

-- the entry is of the instance
abbrev pub is_of : List ℕ → Entry → Bool
is_of id entry = bytes_eq entry.0 id

-- each order comes before the later ones of its instance
abbrev pub lives_in : List Entry → Lives
lives_in [] = empty
lives_in (entry ∷ entries) = insert (lives_in entries) entry.0 (entry.1 ∷ life_of (lives_in entries) entry.0)
