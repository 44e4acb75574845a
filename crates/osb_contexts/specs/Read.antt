-- Rows that were read, and what they are read as. For contracts inside the crate.
use Rattle.std.specs.Prelude.{◌≡◌, ⊤, true, ℕ, pos, List, [], ◌∷◌, map}
use Rattle.std.specs.Ordering.{nat_cmp}
use Rattle.std.specs.List.{AllByRecursion}
use Rattle.std.specs.List.Sorted.{IsStrictlySortedBy}
use Rattle.sqlite.specs.declared.types.Value.{Value}
use Rattle.sqlite.specs.declared.types.Value.TheVariants.{Int, Text as Words}
use Rattle.sqlite.specs.Order.{Row, column}
use Rattle.sqlite.specs.declared.error.Error.{Error}
use Rattle.sqlite.specs.declared.error.Error.TheVariants.{IntegralValueOutOfRange, Utf8Error}
use Rattle.sqlite_trees.specs.Tree.{rowid, IsAscending}
use Rattle.sqlite_trees.specs.View.{is_int}
use Rattle.osb_rows.specs.Rows.{Apart}
use Rattle.osb_joined.specs.declared.entry.ContextEntry.{ContextEntry}

abbrev pub rowid_shown : ℕ → Value
rowid_shown id = Int (pos id)

-- the rows are rowids that rise
pub record AreRowids (rows : List Row) : Type 0 where
  pub ids : List ℕ
  pub shown : map rowid_shown ids ≡ map rowid rows
  pub rising : IsStrictlySortedBy nat_cmp ids

-- the rows have rowids that are integers, each another one
pub record HaveRowids (rows : List Row) : Type 0 where
  pub apart : IsAscending Apart rows
  pub keyed : AllByRecursion (λ row. is_int (rowid row) ≡ true) rows

-- the columns of an entry in a row that was read
abbrev pub context_columns : Row → Row
context_columns cells = column cells 0 ∷ column cells 1 ∷ column cells 2 ∷ []

-- what is read of an entry whose key is known
abbrev pub context_shown : ContextEntry → Row
context_shown entry = Words entry.context ∷ []

-- the error says that a column has another number than one of the type that it is read as, or a text that isn't UTF-8
abbrev pub IsUnfit : Error → Type 0
IsUnfit (IntegralValueOutOfRange at) = ⊤
IsUnfit (Utf8Error at) = ⊤
IsUnfit _ = ⊥
