-- The end of an instance (OSB API 2.17, "Deprovisioning"; that an instance with bindings isn't deleted is this project's
-- own: the standard has platforms delete them first).
use Rattle.std.specs.Prelude.{if◌then◌else◌}
use Rattle.std.specs.Option.{option_map_or}
use Rattle.osb_catalog.specs.Rules.{Rules}
use Rattle.osb_replies.specs.declared.status.Status.TheVariants as status
use Rattle.osb_replies.specs.declared.fixed_error.FixedError.TheVariants.{ConcurrencyError, BindingsRemain}
use Rattle.osb_asks.specs.declared.ask.Deprovision.{Deprovision}
use Rattle.osb_orders.specs.declared.order.OrderKind.TheVariants.{Delete}
use Rattle.osb_orders.specs.declared.order.Attributes.{Attributes}
use Rattle.osb_orders.specs.declared.view.InstancePhase.{InstancePhase}
use Rattle.osb_orders.specs.declared.view.InstancePhase.TheVariants.{Deleting}
use Rattle.osb_orders.specs.ViewData.{ViewData}
use Rattle.osb_machine.specs.Decision.{Decision, refuses, gone}
use Rattle.osb_machine.specs.Plans.{instances_are_asynchronous}
use Rattle.osb_machine.specs.Opened.{Opening, instance_opening, opened, accepted, is_busy}

abbrev pub deletion : Rules → Attributes → Deprovision → Opening
deletion rules instance ask =
    let asynchronous = instances_are_asynchronous rules instance.plan in
    instance_opening asynchronous ask.accepts_incomplete Delete instance status.Ok

module _ (rules : Rules) (facts : ViewData) (ask : Deprovision) where
  -- by the phase of the instance: in each but Deleting it is deleted
  abbrev pub deprovision_over : InstancePhase → Attributes → Decision
  deprovision_over Deleting instance = accepted ask.accepts_incomplete facts.last
  deprovision_over _ instance =
      if is_busy facts then refuses ConcurrencyError
      else if facts.bound then refuses BindingsRemain
      else opened rules facts (deletion rules instance ask)

  abbrev pub deprovision : Decision
  deprovision = option_map_or (λ there. deprovision_over there.phase there.attributes) facts.standing gone
