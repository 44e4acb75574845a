-- Lives without contexts: each context in them is an object without members. Nothing that is read off a life looks at a
-- context, so what is read off a bare life is bare and otherwise the same.
use Rattle.std.specs.Prelude.{ℕ, List, map, option_map}
use Rattle.std.specs.FinMap.{entries, from_sorted}
use Rattle.osb_orders.specs.declared.order.Attributes.{Attributes}
use Rattle.osb_orders.specs.declared.order.Order.{Order}
use Rattle.osb_orders.specs.declared.order.Change.{Change}
use Rattle.osb_orders.specs.declared.order.Change.TheVariants.{Nothing, Append, Finish}
use Rattle.osb_orders.specs.declared.view.Standing.{Standing}
use Rattle.osb_orders.specs.Orders.{empty_object}
use Rattle.osb_orders.specs.Life.{Life}
use Rattle.osb_orders.specs.Lives.{Lives}
use Rattle.osb_standing.specs.declared.row.InstanceRow.{InstanceRow}
use Rattle.osb_audit.specs.Orders.{Entry}

abbrev pub bare_attributes : Attributes → Attributes
bare_attributes attributes = record attributes { context = empty_object }

abbrev pub bare_order : Order → Order
bare_order order = record order { attributes = bare_attributes order.attributes }

abbrev pub bare_life : Life → Life
bare_life life = map bare_order life

-- an instance's id with its life
abbrev pub bare_instance : (List ℕ × Life) → (List ℕ × Life)
bare_instance instance = (instance.0, bare_life instance.1)

abbrev pub bare_lives : Lives → Lives
bare_lives lives = from_sorted (map bare_instance (entries lives))

abbrev pub bare_change : Change → Change
bare_change Nothing = Nothing
bare_change (Append order) = Append (bare_order order)
bare_change (Finish number outcome) = Finish number outcome

-- an instance's id with one of its orders
abbrev pub bare_entry : Entry → Entry
bare_entry entry = (entry.0, bare_order entry.1)

abbrev pub bare_standing : Standing → Standing
bare_standing standing = record standing { attributes = bare_attributes standing.attributes }

abbrev pub bare_row : InstanceRow → InstanceRow
bare_row row = record row { standing = option_map bare_standing row.standing }
