-- The rows that keep the current state are those of the lives.
use Rattle.osb_audit.specs.Instances.{InstancesStand}
use Rattle.osb_audit.specs.Bindings.{AllBindingsStand}
use Rattle.osb_statements.specs.Stored.{Content}

-- the rows of every id
pub record IsConsistent (content : Content) : Type 0 where
  pub instances : InstancesStand content.lives content.instances
  pub bindings : AllBindingsStand content.lives content.bindings
