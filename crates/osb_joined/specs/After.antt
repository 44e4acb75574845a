-- What an order that is written makes of the contexts.
use Rattle.std.specs.Prelude.{ℕ, Bool, true, false, ◌==◌, List, Option, None, Some}
use Rattle.sqlite_keyed.specs.Lists.{insert_sorted, update_where}
use Rattle.osb_orders.specs.declared.order.Order.{Order}
use Rattle.osb_orders.specs.declared.order.Change.{Change}
use Rattle.osb_orders.specs.declared.order.Change.TheVariants.{Nothing, Append, Finish}
use Rattle.osb_bare.specs.Context.{context_edit}
use Rattle.osb_joined.specs.declared.entry.ContextEntry.{ContextEntry}
use Rattle.osb_joined.specs.Contexts.{context_entry, context_cmp, is_context, with_context, context_of_order}

-- The entry of the number 0 has the context that the order leaves standing, if it leaves another one. The first order of
-- an instance adds that entry.
abbrev pub standing_set : Bool → Option (List ℕ) → List ℕ → List ContextEntry → List ContextEntry
standing_set first None id contexts = contexts
standing_set true (Some context) id contexts =
    insert_sorted context_cmp (context_entry id 0 context) contexts
standing_set false (Some context) id contexts =
    update_where (is_context id 0) (with_context context) contexts

-- a new order adds its own entry, and the end of one leaves it
abbrev pub contexts_after : Change → Order → List ℕ → List ContextEntry → List ContextEntry
contexts_after Nothing order id contexts = contexts
contexts_after (Append _) order id contexts =
    standing_set (order.number == 1) (context_edit order) id
    (insert_sorted context_cmp (context_of_order id order) contexts)
contexts_after (Finish number outcome) order id contexts =
    standing_set false (context_edit order) id contexts
