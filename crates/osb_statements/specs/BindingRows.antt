-- One binding among the rows, and what an order makes of the rows of its instance's bindings. For contracts inside the crate.
use Rattle.std.specs.Prelude.{◌≡◌, false, ℕ, List, Option, None, Some, map, filter, option_map, slice_get, bytes_eq}
use Rattle.std.specs.FinMap.{entries}
use Rattle.sqlite.specs.Order.{Row}
use Rattle.sqlite.specs.State.{State}
use Rattle.sqlite_keyed.specs.Lists.{insert_sorted, update_where, delete_where}
use Rattle.osb_orders.specs.declared.order.Order.{Order}
use Rattle.osb_orders.specs.declared.order.Change.{Change}
use Rattle.osb_orders.specs.declared.view.BindingNow.{BindingNow}
use Rattle.osb_orders.specs.Life.{Life}
use Rattle.osb_orders.specs.Changed.{changed}
use Rattle.osb_standing.specs.declared.row.BindingEdit.{BindingEdit}
use Rattle.osb_standing.specs.declared.row.BindingEdit.TheVariants.{Keep, Put, Remove, Clear}
use Rattle.osb_standing.specs.Rows.{Bindings, bindings_of}
use Rattle.osb_standing.specs.Written.{IsWritten}
use Rattle.osb_audit.specs.declared.entry.BindingEntry.{BindingEntry}
use Rattle.osb_audit.specs.Bindings.{binding_entry, binding_now, binding_cmp, is_bound, is_binding, BindingsStand}
use Rattle.osb_statements.specs.Bindings.{binding_decoded}
use Rattle.osb_statements.specs.Inside.{with_bindings, ContentSteps}
use Rattle.osb_statements.specs.Steps.{content}

-- the row of the binding, if it has one
abbrev pub binding_found : List ℕ → List ℕ → List BindingEntry → Option BindingNow
binding_found id binding bindings =
    option_map binding_now (slice_get (filter (is_binding id binding) bindings) 0)

-- the binding that the first cells have, if there are any
abbrev pub first_binding : List Row → Option BindingNow
first_binding rows = option_map (λ cells. binding_now (binding_decoded cells)) (slice_get rows 0)

-- the entry with another row
abbrev pub with_binding_row : BindingNow → BindingEntry → BindingEntry
with_binding_row row entry = binding_entry entry.instance (entry.binding, row)

-- a row more, or another row where there is one
abbrev pub binding_put : List ℕ → List ℕ → BindingNow → Option BindingNow → List BindingEntry →
    List BindingEntry
binding_put id binding row None bindings =
    insert_sorted binding_cmp (binding_entry id (binding, row)) bindings
binding_put id binding row (Some old) bindings =
    update_where (is_binding id binding) (with_binding_row row) bindings

-- the rows after an edit at the binding
abbrev pub bindings_edited : BindingEdit → List ℕ → List ℕ → List BindingEntry → List BindingEntry
bindings_edited Keep id binding bindings = bindings
bindings_edited (Put row) id binding bindings =
    binding_put id binding row (binding_found id binding bindings) bindings
bindings_edited Remove id binding bindings = delete_where (is_binding id binding) bindings
bindings_edited Clear id binding bindings = delete_where (is_bound id) bindings

-- the instance's bindings have these rows now, and those of the others what they had
pub record PutsBindings (id : List ℕ) (rows : Bindings)
    (before after : List BindingEntry) : Type 0 where
  pub here : filter (is_bound id) after ≡ map (binding_entry id) (entries rows)
  pub others : (other : List ℕ) → bytes_eq id other ≡ false →
      filter (is_bound other) after ≡ filter (is_bound other) before

-- Inside a transaction the bindings of the instance followed the written order. Nothing is committed.
pub record FollowsOrder (old new : State) (id : List ℕ) (order : Order) : Type 0 where
  pub steps : ContentSteps old new (with_bindings (content new).bindings (content old))
  pub puts : (life : Life) (change : Change) → IsWritten life change order →
      BindingsStand id life (content old).bindings
      → PutsBindings id (bindings_of (changed change life)) (content old).bindings
      (content new).bindings
