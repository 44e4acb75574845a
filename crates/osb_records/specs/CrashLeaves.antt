-- What a crash leaves of the lives.
use Rattle.sqlite.specs.Tree.{Trees}
use Rattle.sqlite.specs.State.{State}
use Rattle.osb_orders.specs.Lives.{Lives}
use Rattle.osb_statements.specs.Steps.{HoldsLives}

-- a crash leaves a database of these lives and nothing else
abbrev pub KeepsLives : State → Lives → Type 0
KeepsLives s lives = (db : Trees) → s.may_leave db → HoldsLives lives db
