-- What trimming erases, and that it leaves well-formed lives.
use Rattle.std.specs.Prelude.{ℕ, ◌≡◌, ◌↔◌, true, false, List, [], ◌∷◌, ◌++◌, map, option_map}
use Rattle.std.specs.List.{list_any}
use Rattle.std.specs.FinMap.{get, entries}
use Rattle.osb_orders.specs.declared.order.OrderKind.TheVariants.{Delete}
use Rattle.osb_orders.specs.declared.order.Order.{Order}
use Rattle.osb_orders.specs.Orders.{has_succeeded}
use Rattle.osb_orders.specs.Life.{Life, since_birth}
use Rattle.osb_orders.specs.Lives.{Lives}
use Rattle.osb_orders.specs.IsLife.{IsLife, IsLives}
use Rattle.osb_trim.specs.Trimmed.{erased, trimmed, trimmed_instance, trimmed_lives, trimmed_count}

-- ---- what is erased

-- two orders with the same number, kind, binding and outcome
pub record AreSameButAttributes (one other : Order) : Type 0 where
  pub number : one.number ≡ other.number
  pub kind : one.kind ≡ other.kind
  pub binding : one.binding ≡ other.binding
  pub outcome : one.outcome ≡ other.outcome

-- an erased order has those that it had
abbrev pub OutcomesStay : Type 0
OutcomesStay = (order : Order) → AreSameButAttributes (erased order) order

-- and says nothing else: whatever was asked for, it is the same
abbrev pub AttributesAreGone : Type 0
AttributesAreGone = (one other : Order) →
    AreSameButAttributes one other → erased one ≡ erased other

-- a succeeded deletion and every order before it
abbrev pub DeletedOrdersAreErased : Type 0
DeletedOrdersAreErased = (before after : Life) (deletion : Order) →
    has_succeeded Delete deletion ≡ true →
    trimmed (before ++ deletion ∷ after) ≡ map erased (before ++ deletion ∷ []) ++ trimmed after

-- nothing else: orders of which none is a succeeded deletion stay
abbrev pub OtherOrdersStay : Type 0
OtherOrdersStay = (life : Life) → list_any (has_succeeded Delete) life ≡ false → trimmed life ≡ life

-- a life in two parts: the orders before the present birth, of which each is erased, and those since
pub record IsErasedBeforeBirth (life : Life) : Type 0 where
  pub before : Life
  pub parts : life ≡ before ++ since_birth life
  pub erases : trimmed life ≡ map erased before ++ since_birth life

-- of a well-formed life exactly the orders before the present birth; all of them, if the instance is absent
abbrev pub OrdersBeforeBirthAreErased : Type 0
OrdersBeforeBirthAreErased = (life : Life) → IsLife life → IsErasedBeforeBirth life

-- ---- lives

-- each instance keeps its id, and has its own life trimmed
abbrev pub EachLifeIsTrimmed : Type 0
EachLifeIsTrimmed = (lives : Lives) (id : List ℕ) →
    get (trimmed_lives lives) id ≡ option_map trimmed (get lives id)

abbrev pub EntriesAreTrimmed : Type 0
EntriesAreTrimmed = (lives : Lives) →
    entries (trimmed_lives lives) ≡ map trimmed_instance (entries lives)

abbrev pub TrimmedLifeIsWhole : Type 0
TrimmedLifeIsWhole = (life : Life) → IsLife life → IsLife (trimmed life)

abbrev pub TrimmedLivesAreWhole : Type 0
TrimmedLivesAreWhole = (lives : Lives) → IsLives lives → IsLives (trimmed_lives lives)

-- ---- once

abbrev pub TrimmedLifeStays : Type 0
TrimmedLifeStays = (life : Life) → trimmed (trimmed life) ≡ trimmed life

abbrev pub TrimmedLivesStay : Type 0
TrimmedLivesStay = (lives : Lives) → trimmed_lives (trimmed_lives lives) ≡ trimmed_lives lives

-- no order counts exactly if trimming leaves the life as it is
abbrev pub CountsWhatChanges : Type 0
CountsWhatChanges = (life : Life) → (trimmed_count life ≡ 0) ↔ (trimmed life ≡ life)
