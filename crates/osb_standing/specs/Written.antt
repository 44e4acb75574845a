-- The order that a change writes (this project's own: an order that ends does what it would have done at once).
use Rattle.std.specs.Prelude.{◌≡◌, Option, None, Some, option_map}
use Rattle.osb_orders.specs.declared.order.Order.{Order}
use Rattle.osb_orders.specs.declared.order.Change.{Change}
use Rattle.osb_orders.specs.declared.order.Change.TheVariants.{Nothing, Append, Finish}
use Rattle.osb_orders.specs.Lists.{last_of}
use Rattle.osb_orders.specs.Life.{Life}
use Rattle.osb_orders.specs.Changed.{with_outcome}
use Rattle.osb_orders.specs.IsLife.{IsLife}
use Rattle.osb_orders.specs.Allowed.{IsAllowed}

-- a new one, or the last one with the outcome that ends it
abbrev pub order_written : Option Order → Change → Option Order
order_written last Nothing = None
order_written last (Append order) = Some order
order_written last (Finish number outcome) = option_map (with_outcome outcome) last

-- the change may be made to the well-formed life, and writes the order
pub record IsWritten (life : Life) (change : Change) (order : Order) : Type 0 where
  pub is_life : IsLife life
  pub allowed : IsAllowed life change
  pub writes : order_written (last_of life) change ≡ Some order
