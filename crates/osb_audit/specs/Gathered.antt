-- The plans in use as they are gathered from rows.
use Rattle.std.specs.Prelude.{◌≡◌, ◌||◌, List, [], ◌∷◌, map, filter}
use Rattle.std.specs.List.{list_any, flat_map}
use Rattle.std.specs.Option.{option_to_list}
use Rattle.std.specs.Ordering.{eq_by_cmp}
use Rattle.std.specs.BTreeSet.{BTreeSet, contains}
use Rattle.osb_orders.specs.declared.order.Order.{Order}
use Rattle.osb_orders.specs.declared.view.Standing.{Standing}
use Rattle.osb_standing.specs.declared.row.InstanceRow.{InstanceRow}
use Rattle.osb_audit.specs.Orders.{Entry}
use Rattle.osb_audit.specs.Instances.{InstanceEntry}
use Rattle.osb_audit.specs.Plans.{Pair, pair_cmp, pair_in, is_running_update}

abbrev pub pairs_in_row : InstanceRow → List Pair
pairs_in_row row =
    map (λ (standing : Standing). pair_in standing.attributes) (option_to_list row.standing)

abbrev pub pairs_in_order : Order → List Pair
pairs_in_order order =
    map (λ (order : Order). pair_in order.attributes) (filter is_running_update (order ∷ []))

abbrev pub pairs_in_rows : List InstanceEntry → List Pair
pairs_in_rows instances = flat_map (λ (entry : InstanceEntry). pairs_in_row entry.1) instances

abbrev pub pairs_in_orders : List Entry → List Pair
pairs_in_orders orders = flat_map (λ (entry : Entry). pairs_in_order entry.1) orders

-- the pairs are in the set now, beside those that were
abbrev pub Adds : List Pair → BTreeSet Pair → BTreeSet Pair → Type 0
Adds pairs old new =
    (pair : Pair) → contains pair_cmp new pair
    ≡ (list_any (eq_by_cmp pair_cmp pair) pairs || contains pair_cmp old pair)

-- the set has these pairs and no others
abbrev pub HasAdded : List Pair → BTreeSet Pair → Type 0
HasAdded pairs set =
    (pair : Pair) → contains pair_cmp set pair ≡ list_any (eq_by_cmp pair_cmp pair) pairs
