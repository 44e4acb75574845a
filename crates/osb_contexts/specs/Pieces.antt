-- The rows of some instances, by their ids, as tables are read in pieces.
use Rattle.std.specs.Prelude.{◌≡◌, true, ℕ, Bool, ◌==◌, ◌&&◌, ◌||◌, not, if◌then◌else◌, List, [], filter}
use Rattle.std.specs.Ordering.{is_gt}
use Rattle.std.specs.List.{AllByRecursion}
use Rattle.sqlite.specs.declared.types.Value.{Value}
use Rattle.sqlite.specs.declared.types.Value.TheVariants.{Text as Words, Blob}
use Rattle.sqlite.specs.Order.{Row, column, value_cmp}
use Rattle.sqlite_trees.specs.Tree.{Trees}

-- a value above all texts
abbrev pub beyond : Value
beyond = Blob []

-- the id is above the first and up to the second, in SQLite's order of values
abbrev pub is_between : List ℕ → Value → Value → Bool
is_between after to id = is_gt (value_cmp id (Words after)) && not (is_gt (value_cmp id to))

-- the instance of the row has such an id
abbrev pub is_row_between : List ℕ → Value → Row → Bool
is_row_between after to row = is_between after to (column row 1)

-- the trees of the tables whose first column is the id of an instance
abbrev pub has_instances : ℕ → Bool
has_instances tree = tree == 1 || tree == 3 || tree == 5 || tree == 7

-- the trees with the rows of these instances only
abbrev pub piece : List ℕ → Value → Trees → Trees
piece after to db tree =
    if has_instances tree then filter (is_row_between after to) (db tree) else db tree

-- each row has the id of an instance, which isn't empty
abbrev pub AreNamed : List Row → Type 0
AreNamed = AllByRecursion (λ row. is_row_between [] beyond row ≡ true)
