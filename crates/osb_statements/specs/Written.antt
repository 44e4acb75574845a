-- What a written order does to the rows of the current state. For contracts inside the crate.
use Rattle.std.specs.Prelude.{ℕ, List}
use Rattle.sqlite.specs.State.{State}
use Rattle.osb_orders.specs.declared.order.Order.{Order}
use Rattle.osb_orders.specs.declared.order.Change.{Change}
use Rattle.osb_orders.specs.Lives.{life_of}
use Rattle.osb_orders.specs.Changed.{lives_changed}
use Rattle.osb_standing.specs.Written.{IsWritten}
use Rattle.osb_audit.specs.Instances.{InstancesStand}
use Rattle.osb_statements.specs.Inside.{with_instances, with_lives, ContentSteps}
use Rattle.osb_statements.specs.Standing.{IsConsistent}
use Rattle.osb_statements.specs.Steps.{content, bare_in}

-- Inside a transaction the row of the instance followed the order that is written next. Nothing is committed.
pub record RowFollows (old new : State) (id : List ℕ) (order : Order) : Type 0 where
  pub steps : ContentSteps old new (with_instances (content new).instances (content old))
  pub stands : (change : Change) → IsWritten (life_of (bare_in old) id) change order →
      InstancesStand (bare_in old) (content old).instances
      → InstancesStand (lives_changed change id (bare_in old)) (content new).instances

-- With the row the bindings of the instance followed it.
pub record RowsFollow (old new : State) (id : List ℕ) (order : Order) : Type 0 where
  pub steps : ContentSteps old new (with_lives (bare_in old) (content new))
  pub stands : (change : Change) → IsWritten (life_of (bare_in old) id) change order →
      IsConsistent (content old)
      → IsConsistent (with_lives (lives_changed change id (bare_in old)) (content new))
