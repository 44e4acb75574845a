-- What a change makes of a life, and of the lives of all instances.
use Rattle.std.specs.Prelude.{[], ◌∷◌, ◌++◌, Option, None, Some}
use Rattle.std.specs.FinMap.{insert}
use Rattle.osb_text.specs.Names.{Id}
use Rattle.osb_orders.specs.declared.order.Outcome.{Outcome}
use Rattle.osb_orders.specs.declared.order.Order.{Order}
use Rattle.osb_orders.specs.declared.order.Change.{Change}
use Rattle.osb_orders.specs.declared.order.Change.TheVariants.{Nothing, Append, Finish}
use Rattle.osb_orders.specs.Life.{Life}
use Rattle.osb_orders.specs.Lives.{Lives, life_of}

abbrev pub with_outcome : Outcome → Order → Order
with_outcome outcome order = record order { outcome = outcome }

-- the last order has the outcome
abbrev pub with_last_ended : Outcome → Life → Life
with_last_ended outcome [] = []
with_last_ended outcome (order ∷ []) = with_outcome outcome order ∷ []
with_last_ended outcome (order ∷ next ∷ later) = order ∷ with_last_ended outcome (next ∷ later)

abbrev pub changed : Change → Life → Life
changed Nothing life = life
changed (Append order) life = life ++ order ∷ []
changed (Finish number outcome) life = with_last_ended outcome life

-- the change made to the life of one instance
abbrev pub lives_changed : Change → Id → Lives → Lives
lives_changed Nothing id lives = lives
lives_changed change id lives = insert lives id (changed change (life_of lives id))

-- the change made to the life of the instance that an ask names
abbrev pub after_change : Change → Lives → Option Id → Lives
after_change change lives None = lives
after_change change lives (Some id) = lives_changed change id lives
