-- That lists are the orders and rows of well-formed lives, without their contexts, and the contexts that these have.
use Rattle.std.specs.Prelude.{◌≡◌, List, map}
use Rattle.osb_orders.specs.IsLife.{IsLives}
use Rattle.osb_audit.specs.declared.entry.BindingEntry.{BindingEntry}
use Rattle.osb_audit.specs.Orders.{Entry, lives_in}
use Rattle.osb_audit.specs.Instances.{InstanceEntry, InstancesStand}
use Rattle.osb_audit.specs.Bindings.{AllBindingsStand}
use Rattle.osb_audit.specs.Audit.{AreSorted}
use Rattle.osb_bare.specs.Bare.{bare_entry}
use Rattle.osb_joined.specs.declared.entry.ContextEntry.{ContextEntry}
use Rattle.osb_joined.specs.Contexts.{contexts_of}
use Rattle.osb_joined.specs.Joined.{joined_lives}
use Rattle.osb_joined.specs.Join.{bare_instance_entry}

-- the orders and the rows have no contexts
pub record HaveNoContexts (orders : List Entry) (instances : List InstanceEntry) : Type 0 where
  pub orders_bare : map bare_entry orders ≡ orders
  pub instances_bare : map bare_instance_entry instances ≡ instances

-- each list rises strictly by its keys, the orders make up well-formed lives with the contexts, and the rows and the
-- contexts are theirs
pub record AreRowsWithContexts (contexts : List ContextEntry) (orders : List Entry)
    (instances : List InstanceEntry) (bindings : List BindingEntry) : Type 0 where
  pub rise : AreSorted orders instances bindings
  pub lives : IsLives (joined_lives contexts (lives_in orders))
  pub instances_stand : InstancesStand (lives_in orders) instances
  pub bindings_stand : AllBindingsStand (lives_in orders) bindings
  pub contexts_are : contexts ≡ contexts_of (joined_lives contexts (lives_in orders))
