-- A change of an instance (OSB API 2.17, "Updating a Service Instance"; that an instance that isn't there, or failed, isn't
-- found, that a change to what is there already is done, and that the same change again gets the running order, is this
-- project's own).
use Rattle.std.specs.Prelude.{Bool, false, not, ◌&&◌, bytes_eq, Option, None, Some, unwrap_or, if◌then◌else◌}
use Rattle.std.specs.Option.{option_map_or}
use Rattle.osb_text.specs.Names.{Bytes, Id}
use Rattle.osb_catalog.specs.Rules.{Rules, allows_context_updates}
use Rattle.osb_replies.specs.declared.status.Status.TheVariants as status
use Rattle.osb_replies.specs.declared.fixed_error.FixedError.TheVariants.{ConcurrencyError, MaintenanceInfoConflict, Mismatch, NoPlanChange}
use Rattle.osb_asks.specs.declared.ask.Update.{Update}
use Rattle.osb_orders.specs.declared.order.OrderKind.TheVariants as kind
use Rattle.osb_orders.specs.declared.order.Attributes.{Attributes}
use Rattle.osb_orders.specs.declared.order.Order.{Order}
use Rattle.osb_orders.specs.declared.view.InstancePhase.{InstancePhase}
use Rattle.osb_orders.specs.declared.view.InstancePhase.TheVariants as phase
use Rattle.osb_orders.specs.declared.view.Standing.{Standing}
use Rattle.osb_orders.specs.ViewData.{ViewData}
use Rattle.osb_machine.specs.Decision.{Decision, refuses, done, not_found}
use Rattle.osb_machine.specs.Plans.{catalog_version, is_plan_updateable, instances_are_asynchronous}
use Rattle.osb_machine.specs.Same.{are_same}
use Rattle.osb_machine.specs.Opened.{Opening, instance_opening, opened, accepted, is_busy, is_unlike}

-- the plan that the instance is to have: the given one, or the one that it has
abbrev pub target_plan : Attributes → Update → Id
target_plan instance ask = unwrap_or ask.plan instance.plan

-- the given version; without one, that of the catalog where the plan changes, and otherwise the one that it has
abbrev pub target_maintenance : Rules → Attributes → Update → Option Bytes → Bytes
target_maintenance rules instance ask (Some given) = given
target_maintenance rules instance ask None =
    if bytes_eq (target_plan instance ask) instance.plan then instance.maintenance
    else catalog_version rules instance.service (target_plan instance ask)

-- what the instance is to have: what the request gives, a context only where the service allows it, and the rest as it is
abbrev pub target : Rules → Attributes → Update → Attributes
target rules instance ask = record instance {
  plan = target_plan instance ask;
  parameters = unwrap_or ask.parameters instance.parameters;
  maintenance = target_maintenance rules instance ask ask.maintenance;
  context = if allows_context_updates rules instance.service then unwrap_or ask.context instance.context else instance.context;
}

-- by the mode of the plan that the instance has
abbrev pub update_opening : Rules → Attributes → Update → Attributes → Opening
update_opening rules instance ask aim =
    let asynchronous = instances_are_asynchronous rules instance.plan in
    instance_opening asynchronous ask.accepts_incomplete kind.Update aim status.Ok

-- the plan changes, and the instance's plan doesn't allow it
abbrev pub forbids_change : Rules → Attributes → Attributes → Bool
forbids_change rules instance aim =
    not (bytes_eq aim.plan instance.plan) && not (is_plan_updateable rules instance.service instance.plan)

-- the order that runs has this target
abbrev pub is_order_to : Attributes → Option Order → Bool
is_order_to aim last = option_map_or (λ order. are_same aim order.attributes) last false

-- an update runs: the same one is accepted again
abbrev pub update_running : ViewData → Update → Attributes → Decision
update_running facts ask aim =
    if is_order_to aim facts.last then accepted ask.accepts_incomplete facts.last
    else refuses ConcurrencyError

module _ (rules : Rules) (facts : ViewData) (ask : Update) (instance aim : Attributes) where
  -- no update runs
  abbrev pub update_ready : Decision
  update_ready =
      if are_same aim instance then done
      else if is_busy facts then refuses ConcurrencyError
      else if forbids_change rules instance aim then refuses NoPlanChange
      else opened rules facts (update_opening rules instance ask aim)

  -- what is asked in both
  abbrev pub update_checked : Decision → Decision
  update_checked next =
      if not (bytes_eq ask.service instance.service) then refuses Mismatch
      else if is_unlike ask.maintenance (catalog_version rules instance.service aim.plan) then refuses MaintenanceInfoConflict
      else next

  -- by the phase of the instance
  abbrev pub update_over : InstancePhase → Decision
  update_over phase.Failed = not_found
  update_over phase.Creating = refuses ConcurrencyError
  update_over phase.Deleting = refuses ConcurrencyError
  update_over phase.Updating = update_checked (update_running facts ask aim)
  update_over phase.Ready = update_checked update_ready

abbrev pub update : Rules → ViewData → Update → Decision
update rules facts ask =
    let by = λ (there : Standing). update_over rules facts ask there.attributes (target rules there.attributes ask) there.phase in
    option_map_or by facts.standing not_found
