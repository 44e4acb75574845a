-- The state of a binding, read off the list of all orders of its instance (OSB API 2.17, "Binding", "Unbinding").
use Rattle.std.specs.Prelude.{Bool, ◌&&◌, [], ◌∷◌, Option, None, Some, is_some, if◌then◌else◌}
use Rattle.std.specs.List.{list_any}
use Rattle.osb_text.specs.Names.{Id}
use Rattle.osb_orders.specs.declared.order.OrderKind.{OrderKind}
use Rattle.osb_orders.specs.declared.order.OrderKind.TheVariants.{Bind, Unbind}
use Rattle.osb_orders.specs.declared.order.OrderState.{OrderState}
use Rattle.osb_orders.specs.declared.order.OrderState.TheVariants.{Running, Succeeded, Failed}
use Rattle.osb_orders.specs.declared.order.Attributes.{Attributes}
use Rattle.osb_orders.specs.declared.order.Order.{Order}
use Rattle.osb_orders.specs.declared.view.BindingPhase.{BindingPhase}
use Rattle.osb_orders.specs.declared.view.BindingPhase.TheVariants as phase
use Rattle.osb_orders.specs.declared.view.BindingNow.{BindingNow}
use Rattle.osb_orders.specs.Lists.{from_last, last_where}
use Rattle.osb_orders.specs.Orders.{is_a, has_succeeded, is_of_binding, empty_object}
use Rattle.osb_orders.specs.Life.{Life, since_birth}

-- from its birth on: the last Bind of the id after which no Unbind of it succeeded; nothing where the binding is absent
abbrev pub since_bind : Id → Life → Life
since_bind id life =
    let orders = from_last (λ order. is_a Bind order && is_of_binding id order) life in
    if list_any (λ order. has_succeeded Unbind order && is_of_binding id order) orders then [] else orders

-- by the last Unbind, and where there is none by the Bind
abbrev pub binding_phase_by : OrderKind → OrderState → BindingPhase
binding_phase_by Unbind Running = phase.Unbinding
binding_phase_by Unbind _ = phase.Failed
binding_phase_by _ Running = phase.Binding
binding_phase_by _ Succeeded = phase.Bound
binding_phase_by _ Failed = phase.Failed

-- of the Bind and the orders after it
abbrev pub binding_phase_since : Id → Order → Life → BindingPhase
binding_phase_since id bind later =
    let last = last_where (λ order. is_a Unbind order && is_of_binding id order) bind later in
    binding_phase_by last.kind last.outcome.state

-- a binding has no maintenance version and no context
abbrev pub of_binding : Attributes → Attributes
of_binding attributes = record attributes { maintenance = []; context = empty_object }

-- the attributes and the credentials are those of the Bind
abbrev pub binding_since : Id → Life → Option BindingNow
binding_since id [] = None
binding_since id (bind ∷ later) = Some (record { phase = binding_phase_since id bind later; attributes = of_binding bind.attributes; credentials = bind.outcome.credentials })

-- the binding, unless it is absent
abbrev pub binding_of : Id → Life → Option BindingNow
binding_of id life = binding_since id (since_bind id (since_birth life))

abbrev pub has_bindings : Life → Bool
has_bindings life = list_any (λ order. is_some (binding_of order.binding life)) life
