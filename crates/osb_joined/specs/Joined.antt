-- Orders, and the current state of instances, with the contexts that a list of entries has for them. A binding has none.
use Rattle.std.specs.Prelude.{ℕ, List, [], map, find, option_map}
use Rattle.std.specs.Option.{option_map_or}
use Rattle.std.specs.FinMap.{entries, from_sorted}
use Rattle.osb_orders.specs.declared.order.Attributes.{Attributes}
use Rattle.osb_orders.specs.declared.order.Order.{Order}
use Rattle.osb_orders.specs.declared.view.Standing.{Standing}
use Rattle.osb_orders.specs.Life.{Life}
use Rattle.osb_orders.specs.Lives.{Lives}
use Rattle.osb_standing.specs.declared.row.InstanceRow.{InstanceRow}
use Rattle.osb_audit.specs.Orders.{Entry}
use Rattle.osb_joined.specs.declared.entry.ContextEntry.{ContextEntry}
use Rattle.osb_joined.specs.Contexts.{is_context}

-- that of the key; empty where there is none
abbrev pub context_at : List ContextEntry → List ℕ → ℕ → List ℕ
context_at contexts id number = option_map_or (λ (entry : ContextEntry). entry.context) (find (is_context id number) contexts) []

abbrev pub attributes_with : List ℕ → Attributes → Attributes
attributes_with context attributes = record attributes { context = context }

abbrev pub order_with : List ℕ → Order → Order
order_with context order = record order { attributes = attributes_with context order.attributes }

abbrev pub standing_with : List ℕ → Standing → Standing
standing_with context standing =
    record standing { attributes = attributes_with context standing.attributes }

abbrev pub row_with : List ℕ → InstanceRow → InstanceRow
row_with context row = record row { standing = option_map (standing_with context) row.standing }

abbrev pub joined_order : List ContextEntry → List ℕ → Order → Order
joined_order contexts id order = order_with (context_at contexts id order.number) order

abbrev pub joined_life : List ContextEntry → List ℕ → Life → Life
joined_life contexts id life = map (joined_order contexts id) life

-- an instance's id with its life
abbrev pub joined_instance : List ContextEntry → (List ℕ × Life) → (List ℕ × Life)
joined_instance contexts instance = (instance.0, joined_life contexts instance.0 instance.1)

-- an instance's id with one of its orders
abbrev pub joined_entry : List ContextEntry → Entry → Entry
joined_entry contexts entry = (entry.0, joined_order contexts entry.0 entry.1)

abbrev pub joined_lives : List ContextEntry → Lives → Lives
joined_lives contexts lives = from_sorted (map (joined_instance contexts) (entries lives))

abbrev pub joined_standing : List ContextEntry → List ℕ → Standing → Standing
joined_standing contexts id standing = standing_with (context_at contexts id 0) standing

abbrev pub joined_row : List ContextEntry → List ℕ → InstanceRow → InstanceRow
joined_row contexts id row = row_with (context_at contexts id 0) row
