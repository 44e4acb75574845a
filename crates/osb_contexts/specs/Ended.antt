-- What the end of an order does to the contexts.
use Rattle.std.specs.Prelude.{ℕ, false, List, [], Option, None, Some}
use Rattle.osb_orders.specs.declared.order.OrderKind.{OrderKind}
use Rattle.osb_orders.specs.declared.order.OrderKind.TheVariants.{Update, Delete}
use Rattle.osb_orders.specs.declared.order.OrderState.{OrderState}
use Rattle.osb_orders.specs.declared.order.OrderState.TheVariants.{Succeeded}
use Rattle.osb_orders.specs.declared.order.Order.{Order}
use Rattle.osb_joined.specs.declared.entry.ContextEntry.{ContextEntry}
use Rattle.osb_joined.specs.Joined.{context_at}
use Rattle.osb_joined.specs.After.{standing_set}

-- an Update that succeeds leaves its context standing, and a Delete none; a Create left its own when it began
abbrev pub ended_over : OrderKind → OrderState → List ℕ → Option (List ℕ)
ended_over Update Succeeded context = Some context
ended_over Delete Succeeded context = Some []
ended_over _ _ context = None

-- the order's context is the one that the entries have for it
abbrev pub contexts_ended : List ℕ → Order → List ContextEntry → List ContextEntry
contexts_ended id order contexts =
    standing_set false (ended_over order.kind order.outcome.state
    (context_at contexts id order.number)) id contexts
