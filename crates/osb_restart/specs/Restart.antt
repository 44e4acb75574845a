-- What the next run may find after a stop.
use Rattle.sqlite.specs.Tree.{Trees}
use Rattle.sqlite.specs.State.{State}
use Rattle.osb_orders.specs.Lives.{Lives}
use Rattle.osb_statements.specs.Steps.{HoldsLives}
use Rattle.osb_file.specs.File.{AreLivesOf}

-- a crash may leave a database in which these lives are
abbrev pub MayLeaveLives : State → Lives → Type 0
MayLeaveLives s lives = ∥ ((db : Trees) × s.may_leave db × AreLivesOf db lives) ∥₁

-- what a crash of the next run may leave holds the lives of something that a crash could leave before
abbrev pub LeavesFound : State → State → Type 0
LeavesFound old new = (db : Trees) → new.may_leave db →
    ∥ ((was : Trees) × old.may_leave was
    × ((lives : Lives) → HoldsLives lives was → HoldsLives lives db)) ∥₁
