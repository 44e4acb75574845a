-- Rows that were read, and what they are read as. For contracts inside the crate.
use Rattle.std.specs.Prelude.{◌≡◌, ◌≢◌, ◌<◌, ◌^◌, ℕ, Result, Err, IfOk, List, map, [], ◌∷◌, Option, option_map, slice_get}
use Rattle.std.specs.declared.cmp.Ordering.{Ordering}
use Rattle.std.specs.Ordering.{nat_cmp}
use Rattle.sqlite.specs.declared.types.Value.TheVariants.{Text as Words}
use Rattle.sqlite.specs.Order.{Row, column}
use Rattle.sqlite.specs.Tree.{Trees}
use Rattle.osb_orders.specs.declared.order.Attributes.{Attributes}
use Rattle.osb_standing.specs.declared.row.InstanceRow.{InstanceRow}
use Rattle.osb_audit.specs.Instances.{InstanceEntry, instance_cmp}
use Rattle.osb_audit.specs.declared.entry.BindingEntry.{BindingEntry}
use Rattle.osb_audit.specs.Orders.{Entry, entry_cmp}
use Rattle.osb_audit.specs.Bindings.{binding_cmp}
use Rattle.osb_statements.specs.declared.fault.StoreFault.{StoreFault}
use Rattle.osb_statements.specs.declared.fault.StoreFault.TheVariants.{NotOurs}
use Rattle.osb_rows.specs.Rows.{Stores, AreRows, HaveUtf8Texts, AreInUtf8}
use Rattle.osb_statements.specs.Instances.{instance_row, instance_cells, instance_row_decoded, standing_columns}
use Rattle.osb_statements.specs.Bindings.{binding_row, binding_cells}
use Rattle.osb_contexts.specs.Format.{version_row, version_cells}
use Rattle.osb_statements.specs.Stored.{AreBare, AreBareRows, entry_row, order_columns, order_cells}

-- A number was read as one of these values: at `Ok` as the one that it stands for, and NotOurs says that it stands for none.
pub record IsReadAs {V : Type 0} (number_of : V → ℕ) (numbered : ℕ → V) (number : ℕ)
    (result : Result V StoreFault) : Type 0 where
  pub told : IfOk result (λ value. value ≡ numbered number)
  pub held : IfOk result (λ value. number ≡ number_of value)
  pub known : (value : V) → number ≡ number_of value → result ≢ Err NotOurs

-- the number of an order has 32 bits, and so has that of an instance's last order
abbrev pub OrderFits : Entry → Type 0
OrderFits entry = entry.1.number < 2 ^ 32

abbrev pub InstanceFits : InstanceEntry → Type 0
InstanceFits entry = entry.1.last_number < 2 ^ 32

-- A row was read as an entry: at `Ok` these columns show the entry, and its texts are UTF-8. NotOurs says that the row shows
-- none that fits, or has a text that isn't UTF-8.
pub record IsEntryOf {E : Type 0} (shown : E → Row) (columns : Row → Row) (Fits : E → Type 0)
    (row : Row) (result : Result E StoreFault) : Type 0 where
  pub told : IfOk result (λ entry. shown entry ≡ columns row)
  pub texts : IfOk result (λ entry. HaveUtf8Texts (shown entry))
  pub known : (entry : E) → row ≡ shown entry → Fits entry → HaveUtf8Texts row →
      result ≢ Err NotOurs

-- the columns hold these attributes
abbrev pub HoldAttributes : Row → Attributes → Type 0
HoldAttributes cells attributes =
    (column cells 4 ≡ Words attributes.service)
    × (column cells 5 ≡ Words attributes.plan)
    × (column cells 6 ≡ Words attributes.place)
    × (column cells 7 ≡ Words attributes.spot)
    × (column cells 8 ≡ Words attributes.parameters)
    × (column cells 9 ≡ Words attributes.maintenance)

-- These entries were read of the table: its rows show them in UTF-8, each under a rowid of its own, and if it stores entries
-- at all, their rows are these.
pub record IsListOf {E : Type 0} (cells : Row → Row) (shown : E → Row) (cmp : E → E → Ordering)
    (rows : List Row) (entries : List E) : Type 0 where
  pub held : AreRows cells rows (map shown entries)
  pub texts : AreInUtf8 shown entries
  pub only : (others : List E) → Stores cells shown cmp rows others →
      map shown others ≡ map shown entries

-- the columns of an instance, with its id
abbrev pub instance_columns : Row → Row
instance_columns cells = column cells 0 ∷ standing_columns cells

-- the row that the first cells have, if there are any
abbrev pub first_told : List Row → Option InstanceRow
first_told rows = option_map instance_row_decoded (slice_get rows 0)

-- the columns of a binding in a row that was read
abbrev pub binding_columns : Row → Row
binding_columns cells =
    column cells 0
    ∷ column cells 1
    ∷ column cells 2
    ∷ column cells 3
    ∷ column cells 4
    ∷ column cells 5
    ∷ column cells 6
    ∷ column cells 7
    ∷ column cells 8
    ∷ []

-- the columns of an order, with the id of its instance
abbrev pub entry_columns : Row → Row
entry_columns cells = column cells 0 ∷ order_columns cells

abbrev pub version_columns : Row → Row
version_columns cells = column cells 0 ∷ []

-- what was read of each table
abbrev pub AreVersionsOf : Trees → List ℕ → Type 0
AreVersionsOf db versions = IsListOf version_cells version_row nat_cmp (db 0) versions

abbrev pub AreOrdersOf : Trees → List Entry → Type 0
AreOrdersOf db entries = IsListOf order_cells entry_row entry_cmp (db 1) entries × AreBare entries

abbrev pub AreInstancesOf : Trees → List InstanceEntry → Type 0
AreInstancesOf db entries =
    IsListOf instance_cells instance_row instance_cmp (db 3) entries × AreBareRows entries

abbrev pub AreBindingsOf : Trees → List BindingEntry → Type 0
AreBindingsOf db entries = IsListOf binding_cells binding_row binding_cmp (db 5) entries
