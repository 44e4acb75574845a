-- The listing of running orders, read off the rows of the instances (this project's own).
use Rattle.std.specs.Prelude.{ℕ, Bool, ◌&&◌, List, take, filter, filter_map, Option, option_map}
use Rattle.std.specs.Ordering.{nat_cmp, is_gt}
use Rattle.std.specs.Cmp.Lexicographic.{slice_cmp}
use Rattle.std.specs.FinMap.{entries}
use Rattle.osb_orders.specs.declared.order.Order.{Order}
use Rattle.osb_orders.specs.Life.{Life}
use Rattle.osb_orders.specs.Lives.{Lives, life_of}
use Rattle.osb_orders.specs.Named.{order_numbered}
use Rattle.osb_standing.specs.declared.row.InstanceRow.{InstanceRow}
use Rattle.osb_standing.specs.Rows.{row_of}

abbrev pub with_its_row : (List ℕ × Life) → Option (List ℕ × InstanceRow)
with_its_row entry = option_map (λ (row : InstanceRow). (entry.0, row)) (row_of entry.1)

-- the rows of all instances, in the order of their ids
abbrev pub instance_rows : Lives → List (List ℕ × InstanceRow)
instance_rows lives = filter_map with_its_row (entries lives)

-- the row is busy, and the instance's id is greater by bytes
abbrev pub is_listed_row : List ℕ → (List ℕ × InstanceRow) → Bool
is_listed_row after entry = entry.1.busy && is_gt (slice_cmp nat_cmp entry.0 after)

-- the instance's order that has the last number of the row
abbrev pub with_order : Lives → (List ℕ × InstanceRow) → Option (List ℕ × Order)
with_order lives entry =
    option_map (λ (order : Order). (entry.0, order))
    (order_numbered entry.1.last_number (life_of lives entry.0))

-- the busy rows of greater ids, each with its order, up to a limit
abbrev pub listing_by_rows : Lives → List ℕ → ℕ → List (List ℕ × Order)
listing_by_rows lives after limit =
    take limit (filter_map (with_order lives) (filter (is_listed_row after) (instance_rows lives)))
