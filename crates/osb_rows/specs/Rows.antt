-- The rows of a table, of which nothing is known of their order.
use Rattle.std.specs.Prelude.{◌≡◌, ⊤, true, false, List, map, IsPermutation}
use Rattle.std.specs.declared.cmp.Ordering.{Ordering}
use Rattle.std.specs.declared.cmp.Ordering.TheVariants.{Less}
use Rattle.std.specs.Ordering.{is_eq}
use Rattle.std.specs.List.{AllByRecursion}
use Rattle.std.specs.Str.{is_utf8}
use Rattle.sqlite_value.specs.declared.value.Value.{Value}
use Rattle.sqlite_value.specs.declared.value.Value.TheVariants.{Text}
use Rattle.sqlite_value.specs.Order.{Row, value_cmp}
use Rattle.sqlite_trees.specs.Tree.{rowid, IsAscending}
use Rattle.sqlite_trees.specs.View.{is_int}

-- two rows have different rowids
abbrev pub Apart : Row → Row → Type 0
Apart a b = is_eq (value_cmp (rowid a) (rowid b)) ≡ false

-- the rows show these cells in some order, each under a rowid of its own
pub record AreRows (cells : Row → Row) (rows shown : List Row) : Type 0 where
  pub apart : IsAscending Apart rows
  pub keyed : AllByRecursion (λ row. is_int (rowid row) ≡ true) rows
  pub same : IsPermutation (map cells rows) shown

-- a text is UTF-8, the encoding of the database
abbrev pub IsUtf8Text : Value → Type 0
IsUtf8Text (Text text) = is_utf8 text ≡ true
IsUtf8Text _ = ⊤

-- each text among the cells is UTF-8
abbrev pub HaveUtf8Texts : Row → Type 0
HaveUtf8Texts = AllByRecursion IsUtf8Text

-- the texts that show the entries are UTF-8
abbrev pub AreInUtf8 : {E : Type 0} → (E → Row) → List E → Type 0
AreInUtf8 shown = AllByRecursion (λ entry. HaveUtf8Texts (shown entry))

-- the rows are those of these entries, whose keys rise and whose texts are UTF-8
pub record Stores {E : Type 0} (cells : Row → Row) (shown : E → Row) (cmp : E → E → Ordering)
    (rows : List Row) (entries : List E) : Type 0 where
  pub held : AreRows cells rows (map shown entries)
  pub rising : IsAscending (λ a b. cmp a b ≡ Less) entries
  pub texts : AreInUtf8 shown entries
