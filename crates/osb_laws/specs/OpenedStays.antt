-- What an ask opened is there when it is asked again, whatever came in between.
use Rattle.std.specs.Prelude.{ℕ, ◌≡◌, false, List, [], ◌∷◌, ◌++◌, Some}
use Rattle.osb_catalog.specs.Rules.{Rules}
use Rattle.osb_asks.specs.declared.ask.Ask.{Ask}
use Rattle.osb_asks.specs.declared.ask.Ask.TheVariants as the
use Rattle.osb_asks.specs.declared.ask.Provision.{Provision}
use Rattle.osb_asks.specs.declared.ask.Bind.{Bind}
use Rattle.osb_orders.specs.declared.order.Order.{Order}
use Rattle.osb_orders.specs.declared.order.Outcome.{Outcome}
use Rattle.osb_orders.specs.declared.order.OrderState.TheVariants.{Failed}
use Rattle.osb_orders.specs.declared.order.Change.TheVariants.{Append}
use Rattle.osb_orders.specs.declared.view.BindingNow.{BindingNow}
use Rattle.osb_orders.specs.Orders.{is_now}
use Rattle.osb_orders.specs.Lives.{Lives, life_of}
use Rattle.osb_orders.specs.Bindings.{binding_of}
use Rattle.osb_orders.specs.Changed.{with_outcome}
use Rattle.osb_asks.specs.Subjects.{instance_id_of}
use Rattle.osb_orders.specs.IsLife.{is_absent}
use Rattle.osb_machine.specs.Machine.{answer_to, after_step}

-- While the order that an ask opened is the last one of its instance and hasn't failed, the ask changes nothing when it
-- is asked again: also once the backend has reported it.
abbrev pub OpenedStays : Type 0
OpenedStays = (rules : Rules) (lives others : Lives) (ask : Ask) (id : List ℕ)
    (order : Order) (outcome : Outcome) →
    instance_id_of ask ≡ Some id → (answer_to rules lives ask).change ≡ Append order →
    is_now Failed (with_outcome outcome order) ≡ false →
    life_of others id ≡ life_of lives id ++ with_outcome outcome order ∷ [] →
    after_step rules others ask ≡ others

-- an instance that is there isn't created again, whatever was asked and reported of it
abbrev pub CreatedOnce : Type 0
CreatedOnce = (rules : Rules) (lives : Lives) (ask : Provision) →
    is_absent (life_of lives ask.instance) ≡ false →
    after_step rules lives (the.Provision ask) ≡ lives

-- nor is a binding that is there bound again
abbrev pub BoundOnce : Type 0
BoundOnce = (rules : Rules) (lives : Lives) (ask : Bind) (binding : BindingNow) →
    binding_of ask.binding (life_of lives ask.instance) ≡ Some binding →
    after_step rules lives (the.Bind ask) ≡ lives
