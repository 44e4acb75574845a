-- The instance and the binding that an ask is about.
use Rattle.std.specs.Prelude.{ℕ, List, Option, Some, None}
use Rattle.osb_asks.specs.declared.ask.Ask.{Ask}
use Rattle.osb_asks.specs.declared.ask.Ask.TheVariants.{Catalog, Provision, Fetch, Update, Deprovision, InstanceOp, Bind, FetchBinding, Unbind, BindingOp, Orders, Report}

abbrev pub instance_id_of : Ask → Option (List ℕ)
instance_id_of Catalog = None
instance_id_of (Provision a) = Some a.instance
instance_id_of (Fetch a) = Some a.instance
instance_id_of (Update a) = Some a.instance
instance_id_of (Deprovision a) = Some a.instance
instance_id_of (InstanceOp a) = Some a.instance
instance_id_of (Bind a) = Some a.instance
instance_id_of (FetchBinding a) = Some a.instance
instance_id_of (Unbind a) = Some a.instance
instance_id_of (BindingOp a) = Some a.instance
instance_id_of (Orders a) = None
instance_id_of (Report a) = Some a.instance

abbrev pub binding_id_of : Ask → Option (List ℕ)
binding_id_of (Bind a) = Some a.binding
binding_id_of (FetchBinding a) = Some a.binding
binding_id_of (Unbind a) = Some a.binding
binding_id_of (BindingOp a) = Some a.binding
binding_id_of _ = None
