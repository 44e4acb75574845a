-- The end of a binding (OSB API 2.17, "Unbinding"; that the mode is that of the plan which the instance has is this
-- project's own).
use Rattle.std.specs.Prelude.{false, Option, if◌then◌else◌}
use Rattle.std.specs.Option.{option_map_or}
use Rattle.osb_catalog.specs.Rules.{Rules}
use Rattle.osb_replies.specs.declared.status.Status.TheVariants as status
use Rattle.osb_replies.specs.declared.fixed_error.FixedError.TheVariants.{ConcurrencyError}
use Rattle.osb_asks.specs.declared.ask.Unbind.{Unbind}
use Rattle.osb_orders.specs.declared.order.OrderKind.TheVariants as kind
use Rattle.osb_orders.specs.declared.view.BindingPhase.{BindingPhase}
use Rattle.osb_orders.specs.declared.view.BindingPhase.TheVariants.{Unbinding}
use Rattle.osb_orders.specs.declared.view.Standing.{Standing}
use Rattle.osb_orders.specs.declared.view.BindingNow.{BindingNow}
use Rattle.osb_orders.specs.ViewData.{ViewData}
use Rattle.osb_machine.specs.Decision.{Decision, refuses, gone}
use Rattle.osb_machine.specs.Plans.{bindings_are_asynchronous}
use Rattle.osb_machine.specs.Opened.{Opening, instance_opening, opened, accepted, is_busy}

-- with what the binding has, by the mode of the plan that the instance has
abbrev pub unbind_opening : Rules → Option Standing → BindingNow → Unbind → Opening
unbind_opening rules standing binding ask =
    let asynchronous = option_map_or (λ there. bindings_are_asynchronous rules there.attributes.plan) standing false in
    record (instance_opening asynchronous ask.accepts_incomplete kind.Unbind binding.attributes status.Ok) {
      binding = ask.binding;
    }

module _ (rules : Rules) (facts : ViewData) (ask : Unbind) where
  -- by the phase of the binding: in each but Unbinding it is unbound
  abbrev pub unbind_over : BindingPhase → BindingNow → Decision
  unbind_over Unbinding binding = accepted ask.accepts_incomplete facts.last
  unbind_over _ binding =
      if is_busy facts then refuses ConcurrencyError
      else opened rules facts (unbind_opening rules facts.standing binding ask)

  abbrev pub unbind : Decision
  unbind = option_map_or (λ there. unbind_over there.phase there) facts.binding gone
