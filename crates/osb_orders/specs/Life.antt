-- The state of an instance, read off the list of all its orders (OSB API 2.17, "Provisioning", "Updating a Service
-- Instance", "Deprovisioning"; that an update counts once it has succeeded, and that a failed deletion leaves the instance
-- as it was, are this project's own).
use Rattle.std.specs.Prelude.{List, [], ◌∷◌, Option, None, Some, if◌then◌else◌}
use Rattle.std.specs.List.{list_any}
use Rattle.osb_orders.specs.declared.order.OrderKind.{OrderKind}
use Rattle.osb_orders.specs.declared.order.OrderKind.TheVariants.{Create, Update, Delete}
use Rattle.osb_orders.specs.declared.order.OrderState.{OrderState}
use Rattle.osb_orders.specs.declared.order.OrderState.TheVariants.{Running, Succeeded, Failed}
use Rattle.osb_orders.specs.declared.order.Attributes.{Attributes}
use Rattle.osb_orders.specs.declared.order.Order.{Order}
use Rattle.osb_orders.specs.declared.view.InstancePhase.{InstancePhase}
use Rattle.osb_orders.specs.declared.view.InstancePhase.TheVariants as phase
use Rattle.osb_orders.specs.declared.view.Standing.{Standing}
use Rattle.osb_orders.specs.Lists.{from_last, last_where}
use Rattle.osb_orders.specs.Orders.{is_a, has_succeeded, is_of_instance}

-- all orders of one instance, in the order in which they were opened
abbrev pub Life : Type 0
Life = List Order

-- from its birth on: the last Create after which no Delete succeeded; nothing where the instance is absent
abbrev pub since_birth : Life → Life
since_birth life =
    let orders = from_last (is_a Create) life in
    if list_any (has_succeeded Delete) orders then [] else orders

-- by how the birth ended and the last of Create, Update and Delete; one that was deleted has no birth
abbrev pub phase_by : OrderState → OrderKind → OrderState → InstancePhase
phase_by birth Create Running = phase.Creating
phase_by birth Create Failed = phase.Failed
phase_by birth Update Running = phase.Updating
phase_by birth Delete Running = phase.Deleting
phase_by Failed Delete _ = phase.Failed
phase_by birth _ _ = phase.Ready

-- the attributes are those of the last succeeded Update, otherwise those of the birth
abbrev pub standing_since : Life → Option Standing
standing_since [] = None
standing_since (birth ∷ later) =
    let last = last_where is_of_instance birth later in
    Some (record {
      phase = phase_by birth.outcome.state last.kind last.outcome.state;
      attributes = (last_where (has_succeeded Update) birth later).attributes;
    })

-- the instance, unless it is absent
abbrev pub standing_of : Life → Option Standing
standing_of life = standing_since (since_birth life)
