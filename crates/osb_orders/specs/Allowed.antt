-- The changes that may be made to a life: an order is opened where none runs, and the running last order is ended.
use Rattle.std.specs.Prelude.{ℕ, ◌≡◌, ◌<◌, true, length}
use Rattle.osb_text.specs.ObjectText.{is_object_text}
use Rattle.osb_orders.specs.declared.order.Outcome.{Outcome}
use Rattle.osb_orders.specs.declared.order.Order.{Order}
use Rattle.osb_orders.specs.declared.order.Change.{Change}
use Rattle.osb_orders.specs.declared.order.Change.TheVariants.{Nothing, Append, Finish}
use Rattle.osb_orders.specs.Orders.{state_number}
use Rattle.osb_orders.specs.Life.{Life}
use Rattle.osb_orders.specs.IsLife.{ends_running, IsNext, HasValidTexts}

-- the life has room for the order, which may follow and has its texts
pub record IsAppendable (life : Life) (order : Order) : Type 0 where
  pub room : length life < 1000000
  pub next : IsNext life order
  pub texts : HasValidTexts order

-- the last order runs, its number is the one given, and the outcome ends it
pub record IsFinishable (life : Life) (number : ℕ) (outcome : Outcome) : Type 0 where
  pub runs : ends_running life ≡ true
  pub last : number ≡ length life
  pub ends : state_number outcome.state ≡ 0 → ⊥
  pub credentials : is_object_text outcome.credentials ≡ true

abbrev pub IsAllowed : Life → Change → Type 0
IsAllowed life Nothing = Unit {0}
IsAllowed life (Append order) = IsAppendable life order
IsAllowed life (Finish number outcome) = IsFinishable life number outcome
