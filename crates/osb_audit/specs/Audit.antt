-- That three lists are the orders and the rows of well-formed lives, in the order of their keys.
use Rattle.std.specs.Prelude.{List}
use Rattle.std.specs.List.Sorted.{IsStrictlySortedBy}
use Rattle.osb_orders.specs.IsLife.{IsLives}
use Rattle.osb_audit.specs.declared.entry.BindingEntry.{BindingEntry}
use Rattle.osb_audit.specs.Orders.{Entry, entry_cmp, lives_in}
use Rattle.osb_audit.specs.Instances.{InstanceEntry, instance_cmp, InstancesStand}
use Rattle.osb_audit.specs.Bindings.{binding_cmp, AllBindingsStand}

-- each list rises strictly by its keys
pub record AreSorted (orders : List Entry) (instances : List InstanceEntry)
    (bindings : List BindingEntry) : Type 0 where
  pub orders_rise : IsStrictlySortedBy entry_cmp orders
  pub instances_rise : IsStrictlySortedBy instance_cmp instances
  pub bindings_rise : IsStrictlySortedBy binding_cmp bindings

-- the orders make up well-formed lives, and the rows are theirs
pub record AreConsistent (orders : List Entry) (instances : List InstanceEntry)
    (bindings : List BindingEntry) : Type 0 where
  pub lives : IsLives (lives_in orders)
  pub instances_stand : InstancesStand (lives_in orders) instances
  pub bindings_stand : AllBindingsStand (lives_in orders) bindings

abbrev pub AreRowsOfLives : List Entry → List InstanceEntry → List BindingEntry → Type 0
AreRowsOfLives orders instances bindings =
    AreSorted orders instances bindings × AreConsistent orders instances bindings
