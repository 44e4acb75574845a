-- The current context of an instance, and what an order that is written makes of it (this project's own).
use Rattle.std.specs.Prelude.{ℕ, List, [], Option, None, Some}
use Rattle.osb_orders.specs.declared.order.OrderKind.{OrderKind}
use Rattle.osb_orders.specs.declared.order.OrderKind.TheVariants.{Create, Update, Delete}
use Rattle.osb_orders.specs.declared.order.OrderState.{OrderState}
use Rattle.osb_orders.specs.declared.order.OrderState.TheVariants.{Succeeded}
use Rattle.osb_orders.specs.declared.order.Order.{Order}
use Rattle.osb_orders.specs.declared.view.Standing.{Standing}

-- empty where the instance is absent
abbrev pub standing_context : Option Standing → List ℕ
standing_context None = []
standing_context (Some standing) = standing.attributes.context

-- by the kind of the order and how far it is
abbrev pub context_over : OrderKind → OrderState → List ℕ → Option (List ℕ)
context_over Create state context = Some context
context_over Update Succeeded context = Some context
context_over Delete Succeeded context = Some []
context_over _ _ context = None

-- the current context after the order; nothing where the one before it stays
abbrev pub context_edit : Order → Option (List ℕ)
context_edit order = context_over order.kind order.outcome.state order.attributes.context
