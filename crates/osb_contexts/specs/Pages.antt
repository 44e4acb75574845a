-- The rows of a table in pages by their ids, each with whether it has the id of an instance.
use Rattle.std.specs.Prelude.{◌≡◌, ◌↔◌, ◌<◌, true, false, ℕ, ℤ, pos, Bool, Option, None, Some, List, [], length, map, filter, take, slice_get, IsPermutation}
use Rattle.std.specs.List.{AllByRecursion}
use Rattle.std.specs.Ordering.{is_gt, is_lt}
use Rattle.sqlite.specs.declared.types.Value.{Value}
use Rattle.sqlite.specs.declared.types.Value.TheVariants.{Int}
use Rattle.sqlite.specs.Order.{Row, column, value_cmp}
use Rattle.sqlite_trees.specs.Tree.{rowid, IsAscending}
use Rattle.osb_contexts.specs.declared.pages.NamedTable.{NamedTable}
use Rattle.osb_contexts.specs.declared.pages.NamedTable.TheVariants.{Orders, Instances, Bindings, Contexts}
use Rattle.osb_contexts.specs.declared.pages.Page.{Page}
use Rattle.osb_contexts.specs.Pieces.{beyond, is_row_between, AreNamed}
use Rattle.osb_contexts.specs.Read.{AreRowids, HaveRowids}

-- the tree of the table
abbrev pub tree_of : NamedTable → ℕ
tree_of Orders = 1
tree_of Instances = 3
tree_of Bindings = 5
tree_of Contexts = 7

-- ---- for contracts inside the crate

-- the row's id is below this one
abbrev pub is_below : Value → Row → Bool
is_below id row = is_lt (value_cmp (rowid row) id)

-- a row is shown with its id, and with 1 where it has the id of an instance
pub record ShowsNamed (shown : Row → Row) : Type 0 where
  pub ids : (row : Row) → rowid (shown row) ≡ rowid row
  pub named : (row : Row) →
      (column (shown row) 1 ≡ Int (pos 1)) ↔ (is_row_between [] beyond row ≡ true)

-- The rows show the first so many of those that pass, by their ids.
pub record IsPage (passes : Row → Bool) (most : ℕ) (table rows : List Row) : Type 0 where
  pub shown : Row → Row
  pub shows : ShowsNamed shown
  pub all : List Row
  pub same : IsPermutation (map shown (filter passes table)) all
  pub rising : IsAscending (λ a b. is_gt (value_cmp (rowid a) (rowid b)) ≡ false) all
  pub first : rows ≡ take most all

-- one of the rows has this id
pub record HasId (id : Value) (rows : List Row) : Type 0 where
  pub place : ℕ
  pub row : Row
  pub is : slice_get rows place ≡ Some row
  pub id_is : rowid row ≡ id

-- there are fewer rows than were asked for, or the next page begins at the id of one of them
abbrev pub IsNext : ℕ → List Row → Option ℤ → Type 0
IsNext most rows None = length rows < most
IsNext most rows (Some id) = HasId (Int id) rows

-- what is known of the rows of a page, which have row ids of their own
pub record IsPageOf (most : ℕ) (rows : List Row) (page : Page) : Type 0 where
  pub rowids : AreRowids rows
  pub named : (page.named ≡ true) ↔ AllByRecursion (λ row. column row 1 ≡ Int (pos 1)) rows
  pub next : IsNext most rows page.next

-- what is known of the whole table
abbrev pub AreRead : List Row → Bool → Type 0
AreRead table named = HaveRowids table × ((named ≡ true) ↔ AreNamed table)

-- The rows below an id have row ids of their own, and the ids of instances if the answer is true. If all rows of the
-- table have these, it is.
pub record AreReadBelow (id : Value) (table : List Row) (named : Bool) : Type 0 where
  pub rowids : HaveRowids (filter (is_below id) table)
  pub named_below : named ≡ true → AreNamed (filter (is_below id) table)
  pub all_named : AreNamed table → named ≡ true

-- what is known after some pages
abbrev pub AreReadTo : List Row → Bool → Option ℤ → Type 0
AreReadTo table named None = AreRead table named
AreReadTo table named (Some id) = AreReadBelow (Int id) table named
