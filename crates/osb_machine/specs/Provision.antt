-- A new instance (OSB API 2.17, "Provisioning"; that a failed one has to be deleted first is this project's own).
use Rattle.std.specs.Prelude.{Bool, true, false, if◌then◌else◌}
use Rattle.std.specs.Option.{option_map_or}
use Rattle.osb_catalog.specs.Rules.{Rules}
use Rattle.osb_replies.specs.declared.status.Status.TheVariants as status
use Rattle.osb_replies.specs.declared.fixed_error.FixedError.TheVariants.{ConcurrencyError, MaintenanceInfoConflict}
use Rattle.osb_asks.specs.declared.ask.Provision.{Provision}
use Rattle.osb_orders.specs.declared.order.OrderKind.TheVariants.{Create}
use Rattle.osb_orders.specs.declared.order.Attributes.{Attributes}
use Rattle.osb_orders.specs.declared.view.InstancePhase.{InstancePhase}
use Rattle.osb_orders.specs.declared.view.InstancePhase.TheVariants as phase
use Rattle.osb_orders.specs.declared.view.Standing.{Standing}
use Rattle.osb_orders.specs.ViewData.{ViewData}
use Rattle.osb_machine.specs.Decision.{Decision, refuses, done, conflict}
use Rattle.osb_machine.specs.Plans.{catalog_version, instances_are_asynchronous}
use Rattle.osb_machine.specs.Same.{is_same_instance}
use Rattle.osb_machine.specs.Opened.{Opening, instance_opening, opened, accepted, is_unlike}

-- those of the request, with the catalog's maintenance version
abbrev pub created_attributes : Rules → Provision → Attributes
created_attributes rules ask = record { service = ask.service; plan = ask.plan; place = ask.organization; spot = ask.space; parameters = ask.parameters; maintenance = catalog_version rules ask.service ask.plan; context = ask.context }

abbrev pub creation : Rules → Provision → Opening
creation rules ask =
    let asynchronous = instances_are_asynchronous rules ask.plan in
    instance_opening asynchronous ask.accepts_incomplete Create (created_attributes rules ask) status.Created

-- by the phase of the instance, and whether it is the one that is asked for
abbrev pub provision_over : ViewData → Provision → InstancePhase → Bool → Decision
provision_over facts ask phase.Deleting same = refuses ConcurrencyError
provision_over facts ask phase.Failed same = conflict
provision_over facts ask phase.Creating true = accepted ask.accepts_incomplete facts.last
provision_over facts ask phase.Ready true = done
provision_over facts ask phase.Updating true = done
provision_over facts ask _ false = conflict

abbrev pub provision : Rules → ViewData → Provision → Decision
provision rules facts ask =
    let over = λ (there : Standing). provision_over facts ask there.phase (is_same_instance ask there.attributes) in
    if is_unlike ask.maintenance (catalog_version rules ask.service ask.plan) then refuses MaintenanceInfoConflict
    else option_map_or over facts.standing (opened rules facts (creation rules ask))
