-- The running orders of all instances, for the backend that carries them out (this project's own).
use Rattle.std.specs.Prelude.{ℕ, Bool, ◌&&◌, List, [], take, filter, filter_map, Option, option_map, unwrap_or}
use Rattle.std.specs.Ordering.{nat_cmp, is_gt}
use Rattle.std.specs.Cmp.Lexicographic.{slice_cmp}
use Rattle.std.specs.FinMap.{entries}
use Rattle.osb_text.specs.Names.{Bytes, Id}
use Rattle.osb_asks.specs.declared.ask.Ask.{Ask}
use Rattle.osb_asks.specs.declared.ask.Ask.TheVariants.{Orders}
use Rattle.osb_orders.specs.declared.order.OrderState.TheVariants.{Running}
use Rattle.osb_orders.specs.declared.order.Order.{Order}
use Rattle.osb_orders.specs.Lists.{last_of}
use Rattle.osb_orders.specs.Orders.{is_now}
use Rattle.osb_orders.specs.Life.{Life}
use Rattle.osb_orders.specs.Lives.{Lives}

-- an instance with its last order
abbrev pub with_last : (Id × Life) → Option (Id × Order)
with_last entry = option_map (λ order. (entry.0, order)) (last_of entry.1)

-- the order runs, and the instance's id is greater by bytes
abbrev pub is_listed : Bytes → (Id × Order) → Bool
is_listed after pair = is_now Running pair.1 && is_gt (slice_cmp nat_cmp pair.0 after)

-- the instances whose last order runs and whose id is greater, in the order of their ids, up to a limit
abbrev pub listing : Lives → Bytes → ℕ → List (Id × Order)
listing lives after limit = take limit (filter (is_listed after) (filter_map with_last (entries lives)))

-- the first 100 for the ask that lists them, nothing for others
abbrev pub listing_for : Lives → Ask → List (Id × Order)
listing_for lives (Orders ask) = listing lives (unwrap_or ask.after []) 100
listing_for lives _ = []
