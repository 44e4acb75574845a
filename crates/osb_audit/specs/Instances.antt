-- The rows of instances, and that they are those of lives.
use Rattle.std.specs.Prelude.{ℕ, ◌≡◌, Bool, List, Option, map, filter, bytes_eq}
use Rattle.std.specs.Option.{option_to_list}
use Rattle.std.specs.declared.cmp.Ordering.{Ordering}
use Rattle.std.specs.Ordering.{nat_cmp}
use Rattle.std.specs.Cmp.Lexicographic.{slice_cmp}
use Rattle.osb_orders.specs.Life.{Life}
use Rattle.osb_orders.specs.Lives.{Lives, life_of}
use Rattle.osb_standing.specs.declared.row.InstanceRow.{InstanceRow}
use Rattle.osb_standing.specs.Rows.{row_of}

-- the row of an instance with its id
abbrev pub InstanceEntry : Type 0
InstanceEntry = List ℕ × InstanceRow

-- by the ids' bytes
abbrev pub instance_cmp : InstanceEntry → InstanceEntry → Ordering
instance_cmp a b = slice_cmp nat_cmp a.0 b.0

-- the entry is of the instance
abbrev pub is_instance : List ℕ → InstanceEntry → Bool
is_instance id entry = bytes_eq entry.0 id

-- the instance has this row, or none
abbrev pub IsRowOf : List ℕ → Option InstanceRow → List InstanceEntry → Type 0
IsRowOf id row instances =
    filter (is_instance id) instances ≡ map (λ (row : InstanceRow). (id, row)) (option_to_list row)

-- it is that of this life, and none where the life has no orders
abbrev pub InstanceStands : List ℕ → Life → List InstanceEntry → Type 0
InstanceStands id life instances = IsRowOf id (row_of life) instances

abbrev pub InstancesStand : Lives → List InstanceEntry → Type 0
InstancesStand lives instances = (id : List ℕ) → InstanceStands id (life_of lives id) instances
