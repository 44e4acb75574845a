-- What a commit may be asked for, and what it leaves.
use Rattle.std.specs.Prelude.{◌≡◌, ◌⊎◌, ℕ, List, IsTrue}
use Rattle.sqlite.specs.Tree.{Trees}
use Rattle.sqlite.specs.State.{State}
use Rattle.osb_orders.specs.declared.order.Change.{Change}
use Rattle.osb_orders.specs.declared.order.Change.TheVariants.{Nothing, Append, Finish}
use Rattle.osb_orders.specs.Life.{Life}
use Rattle.osb_orders.specs.Lives.{Lives}
use Rattle.osb_orders.specs.Changed.{lives_changed}
use Rattle.osb_orders.specs.IsLife.{IsLives}
use Rattle.osb_orders.specs.Allowed.{IsFinishable}
use Rattle.osb_statements.specs.Stored.{lives_stored}
use Rattle.osb_statements.specs.Steps.{HoldsLives, stored}

-- a Finish names the running last order, and an outcome that isn't Running
abbrev pub FinishesLast : Life → Change → Type 0
FinishesLast life Nothing = Unit {0}
FinishesLast life (Append order) = Unit {0}
FinishesLast life (Finish number outcome) = IsFinishable life number outcome

-- what a call that found the store open may commit: a database of these lives, which are well formed
pub record Commits (old : State) (lives : Lives) (db : Trees) : Type 0 where
  pub was_open : IsTrue old.is_open
  pub whole : IsLives lives
  pub holds : HoldsLives lives db

-- what a crash may leave of a change that was acknowledged: the changed lives; or what it could leave before, where there
-- was nothing to change
abbrev pub IsDurable : State → Change → List ℕ → Trees → Type 0
IsDurable old change id db =
    (IsTrue old.is_open × (lives_stored db ≡ lives_changed change id (stored old)))
    ⊎ ((change ≡ Nothing) × old.may_leave db)
