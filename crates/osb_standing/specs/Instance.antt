-- What an order that is written does to the row of its instance (OSB API 2.17, "Provisioning", "Updating a Service Instance",
-- "Deprovisioning"; that an update counts once it has succeeded, and that a failed deletion leaves the instance, are this
-- project's own).
use Rattle.std.specs.Prelude.{Bool, ◌&&◌, Option, None, Some, option_map, if◌then◌else◌}
use Rattle.osb_orders.specs.declared.order.OrderKind.{OrderKind}
use Rattle.osb_orders.specs.declared.order.OrderKind.TheVariants.{Create, Update, Delete, Bind, Unbind}
use Rattle.osb_orders.specs.declared.order.OrderState.{OrderState}
use Rattle.osb_orders.specs.declared.order.OrderState.TheVariants.{Running, Succeeded, Failed}
use Rattle.osb_orders.specs.declared.order.Attributes.{Attributes}
use Rattle.osb_orders.specs.declared.order.Order.{Order}
use Rattle.osb_orders.specs.declared.view.InstancePhase.{InstancePhase}
use Rattle.osb_orders.specs.declared.view.InstancePhase.TheVariants as phase
use Rattle.osb_orders.specs.declared.view.Standing.{Standing}
use Rattle.osb_orders.specs.Orders.{is_a, is_now}
use Rattle.osb_standing.specs.declared.row.InstanceRow.{InstanceRow}
use Rattle.osb_standing.specs.Rows.{row_by, standing_in}

abbrev pub stands : InstancePhase → Attributes → Standing
stands now attributes = record { phase = now; attributes = attributes }

abbrev pub in_phase : InstancePhase → Standing → Standing
in_phase now standing = record standing { phase = now }

abbrev pub updated : Attributes → Standing
updated attributes = stands phase.Ready attributes

abbrev pub phase_of_birth : OrderState → InstancePhase
phase_of_birth Running = phase.Creating
phase_of_birth Succeeded = phase.Ready
phase_of_birth Failed = phase.Failed

-- the phase after a deletion that failed
abbrev pub kept_phase : Bool → InstancePhase
kept_phase birth_failed = if birth_failed then phase.Failed else phase.Ready

-- by the kind of the order and how far it is
abbrev pub standing_over : OrderKind → OrderState → Bool → Attributes → Option Standing →
    Option Standing
standing_over Create state birth_failed attributes old =
    Some (stands (phase_of_birth state) attributes)
standing_over Update Running birth_failed attributes old = option_map (in_phase phase.Updating) old
standing_over Update Succeeded birth_failed attributes old =
    option_map (λ _. updated attributes) old
standing_over Update Failed birth_failed attributes old = option_map (in_phase phase.Ready) old
standing_over Delete Running birth_failed attributes old = option_map (in_phase phase.Deleting) old
standing_over Delete Succeeded birth_failed attributes old = None
standing_over Delete Failed birth_failed attributes old =
    option_map (in_phase (kept_phase birth_failed)) old
standing_over Bind state birth_failed attributes old = old
standing_over Unbind state birth_failed attributes old = old

-- the state of the instance after the order
abbrev pub standing_after : Bool → Order → Option Standing → Option Standing
standing_after birth_failed order old =
    standing_over order.kind order.outcome.state birth_failed order.attributes old

abbrev pub row_after : Bool → Order → Option InstanceRow → InstanceRow
row_after birth_failed order old =
    row_by (standing_after birth_failed order (standing_in old)) order

-- only here it matters whether the birth failed
abbrev pub is_failed_deletion : Order → Bool
is_failed_deletion order = is_a Delete order && is_now Failed order
