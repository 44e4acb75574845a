-- That orders and rows of instances are given ones with the contexts of a list of entries.
use Rattle.std.specs.Prelude.{◌≡◌, Bool, not, ◌==◌, List, map, filter}
use Rattle.osb_audit.specs.Orders.{Entry}
use Rattle.osb_audit.specs.Instances.{InstanceEntry}
use Rattle.osb_bare.specs.Bare.{bare_entry, bare_row}
use Rattle.osb_joined.specs.declared.entry.ContextEntry.{ContextEntry}
use Rattle.osb_joined.specs.Contexts.{AreRising, context_of_order, context_of_standing}

abbrev pub context_of_entry : Entry → ContextEntry
context_of_entry entry = context_of_order entry.0 entry.1

abbrev pub context_of_row : InstanceEntry → ContextEntry
context_of_row entry = context_of_standing entry.0 entry.1.standing

-- an instance's id with its row
abbrev pub bare_instance_entry : InstanceEntry → InstanceEntry
bare_instance_entry entry = (entry.0, bare_row entry.1)

-- the entry is of the current state of an instance, or of an order
abbrev pub is_of_standing : ContextEntry → Bool
is_of_standing entry = entry.number == 0

abbrev pub is_of_order : ContextEntry → Bool
is_of_order entry = not (entry.number == 0)

-- they are the orders but for their contexts, and their contexts are those of the list
pub record AreOrdersWith (contexts : List ContextEntry) (orders joined : List Entry) : Type 0 where
  pub same : map bare_entry joined ≡ map bare_entry orders
  pub contexts_are : filter is_of_order contexts ≡ map context_of_entry joined

-- the same of rows
pub record AreRowsWith (contexts : List ContextEntry)
    (instances joined : List InstanceEntry) : Type 0 where
  pub same : map bare_instance_entry joined ≡ map bare_instance_entry instances
  pub contexts_are : filter is_of_standing contexts ≡ map context_of_row joined

-- both, of contexts in the order of their keys
pub record AreJoined (contexts : List ContextEntry) (orders : List Entry)
    (instances : List InstanceEntry) (joined_orders : List Entry)
    (joined_instances : List InstanceEntry) : Type 0 where
  pub rising : AreRising contexts
  pub orders_with : AreOrdersWith contexts orders joined_orders
  pub rows_with : AreRowsWith contexts instances joined_instances
