-- The plans that are in use (this project's own).
use Rattle.std.specs.Prelude.{ℕ, ◌&&◌, Bool, List, [], ◌∷◌, ◌++◌, map, filter}
use Rattle.std.specs.List.{flat_map}
use Rattle.std.specs.Option.{option_to_list}
use Rattle.std.specs.declared.cmp.Ordering.{Ordering}
use Rattle.std.specs.Ordering.{nat_cmp, ordering_then}
use Rattle.std.specs.Cmp.Lexicographic.{slice_cmp}
use Rattle.std.specs.FinMap.{entries}
use Rattle.std.specs.BTreeSet.{insert_key}
use Rattle.osb_orders.specs.declared.order.OrderKind.TheVariants.{Update}
use Rattle.osb_orders.specs.declared.order.OrderState.TheVariants.{Running}
use Rattle.osb_orders.specs.declared.order.Attributes.{Attributes}
use Rattle.osb_orders.specs.declared.order.Order.{Order}
use Rattle.osb_orders.specs.declared.view.Standing.{Standing}
use Rattle.osb_orders.specs.Lists.{last_of}
use Rattle.osb_orders.specs.Orders.{is_a, is_now}
use Rattle.osb_orders.specs.Life.{Life, standing_of}
use Rattle.osb_orders.specs.Lives.{Lives}

-- a service and a plan
abbrev pub Pair : Type 0
Pair = List ℕ × List ℕ

-- by the services' bytes, and for one service by the plans'
abbrev pub pair_cmp : Pair → Pair → Ordering
pair_cmp a b = ordering_then (slice_cmp nat_cmp a.0 b.0) (slice_cmp nat_cmp a.1 b.1)

abbrev pub pair_in : Attributes → Pair
pair_in attributes = (attributes.service, attributes.plan)

abbrev pub is_running_update : Order → Bool
is_running_update order = is_a Update order && is_now Running order

-- that of the instance, unless it is absent, and that of its last order, where that is an Update that runs
abbrev pub pairs_of : Life → List Pair
pairs_of life =
    map (λ (standing : Standing). pair_in standing.attributes) (option_to_list (standing_of life))
    ++ map (λ (order : Order). pair_in order.attributes)
    (filter is_running_update (option_to_list (last_of life)))

-- each once, in order
abbrev pub in_order : List Pair → List Pair
in_order [] = []
in_order (pair ∷ pairs) = insert_key pair_cmp (in_order pairs) pair

-- those of all instances
abbrev pub plans_in_use : Lives → List Pair
plans_in_use lives =
    in_order (flat_map (λ (entry : List ℕ × Life). pairs_of entry.1) (entries lives))

-- ---- as they are gathered
