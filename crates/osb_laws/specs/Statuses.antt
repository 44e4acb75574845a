-- What the status of an answer says of the instance that the ask names, and what a poll says of its operation.
use Rattle.std.specs.Prelude.{ℕ, ◌≡◌, ◌⊎◌, ◌||◌, Bool, true, false, List, [], ◌∷◌, ◌++◌, filter, Option, None, Some}
use Rattle.osb_catalog.specs.Rules.{Rules}
use Rattle.osb_replies.specs.declared.status.Status.{Status}
use Rattle.osb_replies.specs.declared.status.Status.TheVariants.{Ok, Created, Accepted, NotFound, Gone}
use Rattle.osb_asks.specs.declared.ask.InstanceOp.{InstanceOp}
use Rattle.osb_asks.specs.declared.ask.BindingOp.{BindingOp}
use Rattle.osb_asks.specs.declared.ask.Ask.{Ask}
use Rattle.osb_asks.specs.declared.ask.Ask.TheVariants as the
use Rattle.osb_orders.specs.declared.order.OrderKind.{OrderKind}
use Rattle.osb_orders.specs.declared.order.OrderKind.TheVariants.{Create, Delete, Bind, Unbind}
use Rattle.osb_orders.specs.declared.order.OrderState.TheVariants.{Running, Succeeded}
use Rattle.osb_orders.specs.declared.order.Order.{Order}
use Rattle.osb_orders.specs.declared.order.Outcome.{Outcome}
use Rattle.osb_orders.specs.declared.order.Change.{Change}
use Rattle.osb_orders.specs.declared.order.Change.TheVariants.{Nothing, Append, Finish}
use Rattle.osb_orders.specs.Orders.{is_a, is_now, has_succeeded, is_of_instance, is_of_binding, name_of}
use Rattle.osb_orders.specs.Lists.{last_of}
use Rattle.osb_orders.specs.Life.{Life}
use Rattle.osb_orders.specs.Bindings.{binding_of}
use Rattle.osb_orders.specs.Lives.{Lives, life_of, named_life}
use Rattle.osb_asks.specs.Subjects.{instance_id_of}
use Rattle.osb_orders.specs.Named.{order_named}
use Rattle.osb_orders.specs.Changed.{changed}
use Rattle.osb_orders.specs.IsLife.{is_absent, IsLife, IsLives}
use Rattle.osb_machine.specs.Texts.{operation_body, state_body}
use Rattle.osb_machine.specs.Machine.{answer_to}

-- ---- what a status says

-- an order was opened and carried out at once
abbrev pub IsCarriedOut : Change → Order → Type 0
IsCarriedOut change order = (change ≡ Append order) × (is_now Succeeded order ≡ true)

-- it is a creation or a binding
abbrev pub makes : Order → Bool
makes order = is_a Create order || is_a Bind order

-- By the status: 201, the instance or the binding was made at once; 202, the last order of the instance runs now, and
-- the body names it; 200, nothing was changed, or an order was carried out at once, or one was reported; any other,
-- nothing was changed.
abbrev pub StatusSays : Life → Status → List ℕ → Change → Type 0
StatusSays life Created body change =
    (order : Order) × IsCarriedOut change order × (makes order ≡ true)
StatusSays life Accepted body change =
    (order : Order) × (last_of (changed change life) ≡ Some order) × (is_now Running order ≡ true)
    × (body ≡ operation_body order)
StatusSays life Ok body change =
    (change ≡ Nothing)
    ⊎ (((order : Order) × IsCarriedOut change order)
    ⊎ ((number : ℕ) × (outcome : Outcome) × (change ≡ Finish number outcome)))
StatusSays life _ body change = change ≡ Nothing

-- whatever is asked, by whatever settings, from well-formed lives
abbrev pub StatusesSay : Type 0
StatusesSay = (rules : Rules) (lives : Lives) (ask : Ask) → IsLives lives →
    let decision = answer_to rules lives ask in
    StatusSays (named_life lives (instance_id_of ask)) decision.status decision.body decision.change

-- a status that reports success (RFC 9110, section 15.3)
abbrev pub is_success : Status → Bool
is_success Ok = true
is_success Created = true
is_success Accepted = true
is_success _ = false

-- an answer with any other changes nothing, also from lives that aren't well formed
abbrev pub ErrorsChangeNothing : Type 0
ErrorsChangeNothing = (rules : Rules) (lives : Lives) (ask : Ask) →
    let decision = answer_to rules lives ask in
    is_success decision.status ≡ false → decision.change ≡ Nothing

-- ---- what a poll says

-- the order that a poll is about: the one that its operation names, and without one the last
abbrev pub polled_of : Option (List ℕ) → Life → Option Order
polled_of None orders = last_of orders
polled_of (Some operation) orders = order_named operation orders

-- By the status: 200, the body says how far the order is, and it isn't a removal that succeeded; 410, it is one; 404,
-- there never was an order; any other, none has the name.
abbrev pub PollSays : OrderKind → Option (List ℕ) → Life → Status → List ℕ → Type 0
PollSays removal operation orders Ok body =
    (order : Order) × (polled_of operation orders ≡ Some order)
    × (has_succeeded removal order ≡ false) × (body ≡ state_body order.outcome)
PollSays removal operation orders Gone body =
    (order : Order) × (polled_of operation orders ≡ Some order)
    × (has_succeeded removal order ≡ true)
PollSays removal operation orders NotFound body = orders ≡ []
PollSays removal operation orders _ body = polled_of operation orders ≡ None

-- a poll of an instance is about its creations, updates and deletions
abbrev pub PollsSay : Type 0
PollsSay = (rules : Rules) (lives : Lives) (ask : InstanceOp) →
    let decision = answer_to rules lives (the.InstanceOp ask) in
    let orders = filter is_of_instance (life_of lives ask.instance) in
    PollSays Delete ask.operation orders decision.status decision.body

-- a poll of a binding is about its bindings and unbindings
abbrev pub BindingPollsSay : Type 0
BindingPollsSay = (rules : Rules) (lives : Lives) (ask : BindingOp) →
    let decision = answer_to rules lives (the.BindingOp ask) in
    let orders = filter (is_of_binding ask.binding) (life_of lives ask.instance) in
    PollSays Unbind ask.operation orders decision.status decision.body

-- the body of a 200 says one state: two orders of which it says the same are equally far
abbrev pub StatesShow : Type 0
StatesShow = (one other : Outcome) → state_body one ≡ state_body other → one.state ≡ other.state

-- in a well-formed life an order is found by its name, so a poll that names it is about that order
abbrev pub NamesFind : Type 0
NamesFind = (life before later : Life) (order : Order) (passes : Order → Bool) → IsLife life →
    life ≡ before ++ order ∷ later → passes order ≡ true →
    polled_of (Some (name_of order)) (filter passes life) ≡ Some order

-- a poll that names no operation and is answered 410 is about an instance that isn't there
abbrev pub GoneIsAbsent : Type 0
GoneIsAbsent = (rules : Rules) (lives : Lives) (ask : InstanceOp) → ask.operation ≡ None →
    (answer_to rules lives (the.InstanceOp ask)).status ≡ Gone →
    is_absent (life_of lives ask.instance) ≡ true

-- or about a binding that isn't there
abbrev pub GoneBindingIsAbsent : Type 0
GoneBindingIsAbsent = (rules : Rules) (lives : Lives) (ask : BindingOp) → ask.operation ≡ None →
    (answer_to rules lives (the.BindingOp ask)).status ≡ Gone →
    binding_of ask.binding (life_of lives ask.instance) ≡ None
