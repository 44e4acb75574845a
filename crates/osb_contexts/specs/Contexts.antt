-- The rows of the table of contexts.
use Rattle.std.specs.Prelude.{◌≡◌, ◌<◌, ◌^◌, ℕ, pos, List, [], ◌∷◌, map}
use Rattle.sqlite.specs.declared.types.Value.{Value}
use Rattle.sqlite.specs.declared.types.Value.TheVariants.{Int, Text as Words}
use Rattle.sqlite.specs.Order.{Row, column, bytes}
use Rattle.sqlite_trees.specs.Tree.{Trees}
use Rattle.sqlite_keyed.specs.Lists.{sort_by}
use Rattle.osb_rows.specs.Rows.{Stores, AreRows, AreInUtf8}
use Rattle.osb_joined.specs.declared.entry.ContextEntry.{ContextEntry}
use Rattle.osb_joined.specs.Contexts.{context_cmp}

-- what the columns of an entry hold
abbrev pub context_row : ContextEntry → Row
context_row entry = Words entry.instance ∷ Int (pos entry.number) ∷ Words entry.context ∷ []

abbrev pub number_in : Value → ℕ
number_in (Int (pos n)) = n
number_in _ = 0

-- the entry that columns hold
abbrev pub context_decoded : Row → ContextEntry
context_decoded cells = record { instance = bytes (column cells 0); number = number_in (column cells 1); context = bytes (column cells 2) }

-- the columns of a stored row, which has its rowid first
abbrev pub context_cells : Row → Row
context_cells cells = column cells 1 ∷ column cells 2 ∷ column cells 3 ∷ []

-- the table holds these entries
abbrev pub HoldsContexts : List ContextEntry → Trees → Type 0
HoldsContexts entries db = Stores context_cells context_row context_cmp (db 7) entries

-- the entries in the order of their keys, whatever the order of the rows
abbrev pub contexts_in : Trees → List ContextEntry
contexts_in db = sort_by context_cmp (map context_decoded (map context_cells (db 7)))

-- These entries were read of the table: its rows show them, each under a rowid of its own, and if it holds entries at all,
-- it holds these.
pub record AreContextsOf (db : Trees) (entries : List ContextEntry) : Type 0 where
  pub held : AreRows context_cells (db 7) (map context_row entries)
  pub texts : AreInUtf8 context_row entries
  pub only : (others : List ContextEntry) → HoldsContexts others db → others ≡ entries

-- the number of the entry has 32 bits
abbrev pub ContextFits : ContextEntry → Type 0
ContextFits entry = entry.number < 2 ^ 32
