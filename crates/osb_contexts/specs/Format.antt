-- The row of the table of the format.
use Rattle.std.specs.Prelude.{ℕ, pos, [], ◌∷◌}
use Rattle.std.specs.Ordering.{nat_cmp}
use Rattle.sqlite.specs.declared.types.Value.TheVariants.{Int}
use Rattle.sqlite.specs.Order.{Row, column}
use Rattle.sqlite_trees.specs.Tree.{Trees}
use Rattle.osb_rows.specs.Rows.{Stores}

abbrev pub version_row : ℕ → Row
version_row version = Int (pos version) ∷ []

-- the column of a stored row, which has its rowid first
abbrev pub version_cells : Row → Row
version_cells cells = column cells 1 ∷ []

-- the table holds only this version
abbrev pub HoldsVersion : ℕ → Trees → Type 0
HoldsVersion version db = Stores version_cells version_row nat_cmp (db 0) (version ∷ [])
