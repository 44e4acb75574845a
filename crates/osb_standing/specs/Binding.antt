-- What an order that is written does to the rows of its instance's bindings (OSB API 2.17, "Binding", "Unbinding"; that a
-- failed Unbind leaves a failed binding, and that bindings go with their instance, are this project's own).
use Rattle.std.specs.Prelude.{ℕ, List, Option, None, Some}
use Rattle.std.specs.FinMap.{empty, insert, remove}
use Rattle.osb_orders.specs.declared.order.OrderKind.{OrderKind}
use Rattle.osb_orders.specs.declared.order.OrderKind.TheVariants.{Delete, Bind, Unbind}
use Rattle.osb_orders.specs.declared.order.OrderState.{OrderState}
use Rattle.osb_orders.specs.declared.order.OrderState.TheVariants.{Running, Succeeded, Failed}
use Rattle.osb_orders.specs.declared.order.Order.{Order}
use Rattle.osb_orders.specs.declared.view.BindingPhase.{BindingPhase}
use Rattle.osb_orders.specs.declared.view.BindingPhase.TheVariants as phase
use Rattle.osb_orders.specs.declared.view.BindingNow.{BindingNow}
use Rattle.osb_orders.specs.Bindings.{of_binding}
use Rattle.osb_standing.specs.declared.row.BindingEdit.{BindingEdit}
use Rattle.osb_standing.specs.declared.row.BindingEdit.TheVariants.{Keep, Put, Remove, Clear}
use Rattle.osb_standing.specs.Rows.{Bindings}

abbrev pub binding_by : BindingPhase → Order → BindingNow
binding_by now bind =
    record {
      phase = now;
      attributes = of_binding bind.attributes;
      credentials = bind.outcome.credentials;
    }

abbrev pub with_binding_phase : BindingPhase → BindingNow → BindingNow
with_binding_phase now binding = record binding { phase = now }

abbrev pub phase_of_bind : OrderState → BindingPhase
phase_of_bind Running = phase.Binding
phase_of_bind Succeeded = phase.Bound
phase_of_bind Failed = phase.Failed

-- another phase, where the binding has a row
abbrev pub put_phase : BindingPhase → Option BindingNow → BindingEdit
put_phase now None = Keep
put_phase now (Some binding) = Put (with_binding_phase now binding)

-- by the kind of the order and how far it is
abbrev pub edit_over : OrderKind → OrderState → Order → Option BindingNow → BindingEdit
edit_over Bind state order old = Put (binding_by (phase_of_bind state) order)
edit_over Unbind Running order old = put_phase phase.Unbinding old
edit_over Unbind Succeeded order old = Remove
edit_over Unbind Failed order old = put_phase phase.Failed old
edit_over Delete Succeeded order old = Clear
edit_over _ _ order old = Keep

-- what the order does, by the row of the binding that it names
abbrev pub edit_of : Order → Option BindingNow → BindingEdit
edit_of order old = edit_over order.kind order.outcome.state order old

-- the rows after the edit at an id
abbrev pub edited : BindingEdit → List ℕ → Bindings → Bindings
edited Keep id rows = rows
edited (Put binding) id rows = insert rows id binding
edited Remove id rows = remove rows id
edited Clear id rows = empty
