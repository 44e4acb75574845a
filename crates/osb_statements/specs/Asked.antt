-- What the rows of an answer mean. For contracts inside the crate.
use Rattle.std.specs.Prelude.{◌≡◌, ℕ, pos, Bool, ◌&&◌, ◌||◌, nat_lt, List, [], ◌∷◌, bytes_eq, Option, None, Some, option_map, slice_get, if◌then◌else◌}
use Rattle.std.specs.Ordering.{nat_cmp, is_gt}
use Rattle.std.specs.Cmp.Lexicographic.{slice_cmp}
use Rattle.sqlite.specs.declared.types.Value.TheVariants.{Int, Text as Words}
use Rattle.sqlite.specs.Order.{Row, column, bytes}
use Rattle.osb_orders.specs.declared.order.Order.{Order}
use Rattle.osb_orders.specs.declared.order.OrderKind.{OrderKind}
use Rattle.osb_orders.specs.declared.order.OrderKind.TheVariants.{Create, Update}
use Rattle.osb_orders.specs.Orders.{is_a}
use Rattle.osb_orders.specs.Lives.{Lives, life_of}
use Rattle.osb_orders.specs.Named.{order_numbered}
use Rattle.osb_standing.specs.declared.read.Read.{Read}
use Rattle.osb_audit.specs.Instances.{InstanceEntry}
use Rattle.osb_joined.specs.declared.entry.ContextEntry.{ContextEntry}
use Rattle.osb_joined.specs.Joined.{joined_order, joined_row}
use Rattle.osb_statements.specs.Columns.{number_in}
use Rattle.osb_statements.specs.Stored.{order_decoded}

-- the order that the first row has, if there is a row
abbrev pub first_order : List Row → Option Order
first_order rows = option_map order_decoded (slice_get rows 0)

-- what the listing reads of an instance
abbrev pub busy_row : InstanceEntry → Row
busy_row entry = Words entry.0 ∷ Int (pos entry.1.last_number) ∷ []

-- what is read of an instance for its id
abbrev pub id_row : InstanceEntry → Row
id_row entry = Words entry.0 ∷ []

-- the instance has an id above this one
abbrev pub is_above : List ℕ → InstanceEntry → Bool
is_above after entry = is_gt (slice_cmp nat_cmp entry.0 after)

-- the order that such cells name, with the id of its instance
abbrev pub order_for : Lives → Row → Option (List ℕ × Order)
order_for lives cells =
    option_map (λ (order : Order). (bytes (column cells 0), order))
    (order_numbered (number_in (column cells 1)) (life_of lives (bytes (column cells 0))))

-- the item, if it passes
abbrev pub only : {A : Type 0} → (A → Bool) → Option A → Option A
only passes None = None
only passes (Some item) = if passes item then Some item else None

-- an order of this kind about this binding; one about the instance itself names none
abbrev pub is_kind_of : List ℕ → OrderKind → Order → Bool
is_kind_of binding kind order = bytes_eq order.binding binding && is_a kind order

-- a creation or an update, which keep the instance
abbrev pub is_kept : Order → Bool
is_kept order = is_kind_of [] Create order || is_kind_of [] Update order

-- the one with the greater number
abbrev pub later_of : Option Order → Option Order → Option Order
later_of None other = other
later_of (Some order) None = Some order
later_of (Some order) (Some other) =
    if nat_lt order.number other.number then Some other else Some order

-- what was read of an instance, with the contexts
pub record IsJoinedRead (contexts : List ContextEntry) (id : List ℕ)
    (read joined : Read) : Type 0 where
  pub row : joined.row ≡ option_map (joined_row contexts id) read.row
  pub last : joined.last ≡ option_map (joined_order contexts id) read.last
  pub binding : joined.binding ≡ read.binding
  pub named : joined.named ≡ option_map (joined_order contexts id) read.named
  pub subject_last : joined.subject_last ≡ option_map (joined_order contexts id) read.subject_last
  pub bound : joined.bound ≡ read.bound
  pub listed : joined.listing.items ≡ read.listing.items
