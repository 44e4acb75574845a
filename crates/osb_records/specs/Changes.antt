-- Changes of lives, one after the other.
use Rattle.std.specs.Prelude.{◌≢◌, List, [], ◌∷◌}
use Rattle.osb_orders.specs.declared.order.Change.TheVariants.{Nothing}
use Rattle.osb_orders.specs.Lives.{Lives, life_of}
use Rattle.osb_orders.specs.Changed.{lives_changed}
use Rattle.osb_orders.specs.IsLife.{IsLives}
use Rattle.osb_records.specs.declared.change.LifeChange.{LifeChange}
use Rattle.osb_records.specs.Commit.{FinishesLast}

-- the lives after these changes
abbrev pub all_changed : List LifeChange → Lives → Lives
all_changed [] lives = lives
all_changed (one ∷ later) lives = all_changed later (lives_changed one.change one.instance lives)

-- it is a change
abbrev pub ChangesSomething : LifeChange → Type 0
ChangesSomething one = one.change ≢ Nothing

-- the change leaves well-formed lives, and ends no order but the running last one
abbrev pub CanBeMade : LifeChange → Lives → Type 0
CanBeMade one lives =
    IsLives (lives_changed one.change one.instance lives)
    × FinishesLast (life_of lives one.instance) one.change

-- so does each of these, made one after the other
abbrev pub AllCanBeMade : List LifeChange → Lives → Type 0
AllCanBeMade [] lives = Unit {0}
AllCanBeMade (one ∷ later) lives =
    CanBeMade one lives × AllCanBeMade later (lives_changed one.change one.instance lives)
