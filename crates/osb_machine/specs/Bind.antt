-- A new binding (OSB API 2.17, "Binding"; that an instance which isn't there isn't found, and that a failed binding has to
-- be unbound first, is this project's own).
use Rattle.std.specs.Prelude.{Bool, true, false, not, ◌&&◌, [], bytes_eq, Option, None, Some, if◌then◌else◌}
use Rattle.std.specs.Option.{option_map_or}
use Rattle.osb_catalog.specs.Rules.{Rules}
use Rattle.osb_replies.specs.declared.status.Status.TheVariants as status
use Rattle.osb_replies.specs.declared.fixed_error.FixedError.TheVariants.{ConcurrencyError, Mismatch, NotBindable}
use Rattle.osb_asks.specs.declared.ask.Bind.{Bind}
use Rattle.osb_orders.specs.declared.order.OrderKind.TheVariants as kind
use Rattle.osb_orders.specs.declared.order.Attributes.{Attributes}
use Rattle.osb_orders.specs.declared.view.InstancePhase.{InstancePhase}
use Rattle.osb_orders.specs.declared.view.InstancePhase.TheVariants as phase
use Rattle.osb_orders.specs.declared.view.BindingPhase.{BindingPhase}
use Rattle.osb_orders.specs.declared.view.BindingPhase.TheVariants as binding_phase
use Rattle.osb_orders.specs.declared.view.BindingNow.{BindingNow}
use Rattle.osb_orders.specs.ViewData.{ViewData}
use Rattle.osb_machine.specs.Decision.{Decision, says, refuses, not_found, conflict}
use Rattle.osb_machine.specs.Texts.{credentials_body}
use Rattle.osb_machine.specs.Plans.{is_bindable, bindings_are_asynchronous, plan_credentials}
use Rattle.osb_machine.specs.Same.{app_guid_of, is_same_binding}
use Rattle.osb_machine.specs.Opened.{Opening, instance_opening, opened, accepted, is_busy}

-- those of the request; a binding has no maintenance version
abbrev pub bound_attributes : Bind → Attributes
bound_attributes ask = record { service = ask.service; plan = ask.plan; place = app_guid_of ask; spot = ask.bind_resource; parameters = ask.parameters; maintenance = []; context = ask.context }

-- by the mode of the plan that the instance has
abbrev pub bind_opening : Rules → Attributes → Bind → Opening
bind_opening rules instance ask =
    let asynchronous = bindings_are_asynchronous rules instance.plan in
    record (instance_opening asynchronous ask.accepts_incomplete kind.Bind (bound_attributes ask) status.Created) {
      binding = ask.binding;
      credentials = plan_credentials rules instance.plan;
      body = credentials_body (plan_credentials rules instance.plan);
    }

module _ (facts : ViewData) (ask : Bind) where
  -- a binding of that id is there: by its phase, and whether it is the one that is asked for
  abbrev pub bind_again : BindingPhase → Bool → BindingNow → Decision
  bind_again binding_phase.Unbinding same binding = refuses ConcurrencyError
  bind_again binding_phase.Failed same binding = conflict
  bind_again binding_phase.Bound true binding = says status.Ok (credentials_body binding.credentials)
  bind_again binding_phase.Binding true binding = accepted ask.accepts_incomplete facts.last
  bind_again _ false binding = conflict

module _ (rules : Rules) (facts : ViewData) (ask : Bind) where
  -- none is
  abbrev pub bind_new : Attributes → Decision
  bind_new instance =
      if is_busy facts then refuses ConcurrencyError
      else if not (bytes_eq ask.service instance.service && bytes_eq ask.plan instance.plan) then refuses Mismatch
      else if not (is_bindable rules instance.service instance.plan) then refuses NotBindable
      else opened rules facts (bind_opening rules instance ask)

  -- by the phase of the instance, and whether there is a binding of that id
  abbrev pub bind_over : InstancePhase → Attributes → Option BindingNow → Decision
  bind_over phase.Failed instance binding = not_found
  bind_over phase.Creating instance binding = refuses ConcurrencyError
  bind_over _ instance (Some there) = bind_again facts ask there.phase (is_same_binding ask there.attributes) there
  bind_over _ instance None = bind_new instance

  abbrev pub bind : Decision
  bind = option_map_or (λ there. bind_over there.phase there.attributes facts.binding) facts.standing not_found
