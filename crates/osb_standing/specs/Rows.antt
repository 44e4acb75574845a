-- The rows that keep the current state of an instance and of its bindings, read off the list of all its orders. That they
-- are kept is this project's own choice; what they say is OSB API 2.17, "Provisioning" to "Unbinding", as the definitions
-- of lives have it.
use Rattle.std.specs.Prelude.{ℕ, Bool, false, List, [], ◌∷◌, filter, Option, None, Some, option_map, option_and_then}
use Rattle.std.specs.Option.{option_map_or}
use Rattle.std.specs.Ordering.{nat_cmp}
use Rattle.std.specs.Cmp.Lexicographic.{slice_cmp}
use Rattle.std.specs.FinMap.{FinMap, empty, insert}
use Rattle.osb_orders.specs.declared.order.OrderKind.TheVariants.{Create}
use Rattle.osb_orders.specs.declared.order.OrderState.TheVariants.{Running, Failed}
use Rattle.osb_orders.specs.declared.order.Order.{Order}
use Rattle.osb_orders.specs.declared.view.Standing.{Standing}
use Rattle.osb_orders.specs.declared.view.BindingNow.{BindingNow}
use Rattle.osb_orders.specs.Lists.{last_of}
use Rattle.osb_orders.specs.Orders.{is_a, is_now}
use Rattle.osb_orders.specs.Life.{Life, standing_of}
use Rattle.osb_orders.specs.Bindings.{binding_of}
use Rattle.osb_standing.specs.declared.row.InstanceRow.{InstanceRow}

abbrev pub row_by : Option Standing → Order → InstanceRow
row_by standing last =
    record { standing = standing; busy = is_now Running last; last_number = last.number }

-- the row of an instance; none where it never had an order
abbrev pub row_of : Life → Option InstanceRow
row_of life = option_map (row_by (standing_of life)) (last_of life)

-- the state of an instance by its row
abbrev pub standing_in : Option InstanceRow → Option Standing
standing_in row = option_and_then (λ (row : InstanceRow). row.standing) row

-- the last creation failed
abbrev pub birth_failed : Life → Bool
birth_failed life = option_map_or (is_now Failed) (last_of (filter (is_a Create) life)) false

-- the rows of an instance's bindings, by the binding's id
abbrev pub Bindings : Type 0
Bindings = FinMap (slice_cmp nat_cmp) BindingNow

abbrev pub with_binding : List ℕ → Option BindingNow → Bindings → Bindings
with_binding id None rows = rows
with_binding id (Some binding) rows = insert rows id binding

-- each binding that these orders name and that isn't absent after all orders of the life
abbrev pub bindings_named : Life → Life → Bindings
bindings_named life [] = empty
bindings_named life (order ∷ later) =
    with_binding order.binding (binding_of order.binding life) (bindings_named life later)

-- one for each binding that isn't absent
abbrev pub bindings_of : Life → Bindings
bindings_of life = bindings_named life life
