-- The lives that a map of the program keeps, as `PlainLives` is seen. For contracts inside the crate.
use Rattle.std.specs.Prelude.{ℕ, List, map}
use Rattle.std.specs.BTreeMap.{BTreeMap}
use Rattle.std.specs.FinMap.{from_entries}
use Rattle.std.specs.Global.{Vec}
use Rattle.osb_orders.specs.declared.order.Order.{Order}
use Rattle.osb_orders.specs.Life.{Life}
use Rattle.osb_orders.specs.Lives.{Lives}

abbrev pub life_in : (List ℕ × Vec Order) → (List ℕ × Life)
life_in entry = (entry.0, entry.1.items)

abbrev pub held_in : BTreeMap (List ℕ) (Vec Order) → Lives
held_in map_of = from_entries (map life_in map_of.entries)
