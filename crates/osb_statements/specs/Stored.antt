-- The orders in the tables, and the lives that they make up with the contexts.
use Rattle.std.specs.Prelude.{◌≡◌, ◌==◌, if◌then◌else◌, ℕ, pos, List, [], ◌∷◌, ◌++◌, map}
use Rattle.std.specs.List.{AllByRecursion}
use Rattle.std.specs.Ordering.{nat_cmp}
use Rattle.sqlite.specs.declared.types.Value.TheVariants.{Int, Text as Words}
use Rattle.sqlite.specs.Order.{Row, column, bytes}
use Rattle.sqlite.specs.Tree.{Trees}
use Rattle.sqlite_keyed.specs.Lists.{sort_by}
use Rattle.osb_orders.specs.declared.order.OrderKind.{OrderKind}
use Rattle.osb_orders.specs.declared.order.OrderKind.TheVariants.{Create, Update, Delete, Bind, Unbind}
use Rattle.osb_orders.specs.declared.order.OrderState.{OrderState}
use Rattle.osb_orders.specs.declared.order.OrderState.TheVariants.{Running, Succeeded, Failed}
use Rattle.osb_orders.specs.declared.order.Order.{Order}
use Rattle.osb_orders.specs.Orders.{kind_number, state_number}
use Rattle.osb_orders.specs.Lives.{Lives}
use Rattle.osb_audit.specs.Orders.{Entry, entry_cmp, lives_in}
use Rattle.osb_audit.specs.Instances.{InstanceEntry, instance_cmp}
use Rattle.osb_audit.specs.declared.entry.BindingEntry.{BindingEntry}
use Rattle.osb_audit.specs.Bindings.{binding_cmp}
use Rattle.osb_bare.specs.Bare.{bare_order, bare_row}
use Rattle.osb_joined.specs.Joined.{joined_lives}
use Rattle.osb_rows.specs.Rows.{Stores}
use Rattle.osb_contexts.specs.Contexts.{contexts_in}
use Rattle.osb_contexts.specs.Format.{version_row, version_cells}
use Rattle.osb_statements.specs.Columns.{number_in, attributes_decoded}
use Rattle.osb_statements.specs.Instances.{instance_row, instance_decoded, instance_cells}
use Rattle.osb_statements.specs.Bindings.{binding_row, binding_decoded, binding_cells}

-- ---- rows

-- what the columns of an order hold
abbrev pub order_row : Order → Row
order_row order =
    Int (pos order.number)
    ∷ Int (pos (kind_number order.kind))
    ∷ Words order.binding
    ∷ Words order.attributes.service
    ∷ Words order.attributes.plan
    ∷ Words order.attributes.place
    ∷ Words order.attributes.spot
    ∷ Words order.attributes.parameters
    ∷ Words order.attributes.maintenance
    ∷ Int (pos (state_number order.outcome.state))
    ∷ Words order.outcome.description
    ∷ Words order.outcome.credentials
    ∷ []

-- with the id of its instance
abbrev pub entry_row : Entry → Row
entry_row entry = Words entry.0 ∷ order_row entry.1

abbrev pub kind_numbered : ℕ → OrderKind
kind_numbered number =
    if number == 1 then Create
    else if number == 2 then Update
    else if number == 3 then Delete
    else if number == 4 then Bind
    else Unbind

abbrev pub state_numbered : ℕ → OrderState
state_numbered number = if number == 0 then Running else if number == 1 then Succeeded else Failed

-- the order that columns hold
abbrev pub order_decoded : Row → Order
order_decoded cells = record {
  number = number_in (column cells 1);
  kind = kind_numbered (number_in (column cells 2));
  binding = bytes (column cells 3);
  attributes = attributes_decoded cells;
  outcome = record {
    state = state_numbered (number_in (column cells 10));
    description = bytes (column cells 11);
    credentials = bytes (column cells 12);
  };
}

-- with the id of its instance
abbrev pub entry_decoded : Row → Entry
entry_decoded cells = (bytes (column cells 0), order_decoded cells)

-- the columns of an order in a row that was read
abbrev pub order_columns : Row → Row
order_columns cells =
    column cells 1
    ∷ column cells 2
    ∷ column cells 3
    ∷ column cells 4
    ∷ column cells 5
    ∷ column cells 6
    ∷ column cells 7
    ∷ column cells 8
    ∷ column cells 9
    ∷ column cells 10
    ∷ column cells 11
    ∷ column cells 12
    ∷ []

-- the columns of a stored row, which has its rowid first
abbrev pub order_cells : Row → Row
order_cells cells = order_columns cells ++ column cells 13 ∷ []

-- the orders of these entries have no context, as the tables have no column for it
abbrev pub AreBare : List Entry → Type 0
AreBare = AllByRecursion (λ entry. bare_order entry.1 ≡ entry.1)

abbrev pub AreBareRows : List InstanceEntry → Type 0
AreBareRows = AllByRecursion (λ entry. bare_row entry.1 ≡ entry.1)

-- ---- trees

-- the tables hold this version of the format and these entries
pub record Holds (version : ℕ) (entries : List Entry) (instance_entries : List InstanceEntry)
    (binding_entries : List BindingEntry) (db : Trees) : Type 0 where
  pub format : Stores version_cells version_row nat_cmp (db 0) (version ∷ [])
  pub orders : Stores order_cells entry_row entry_cmp (db 1) entries
  pub instances : Stores instance_cells instance_row instance_cmp (db 3) instance_entries
  pub bindings : Stores binding_cells binding_row binding_cmp (db 5) binding_entries

-- the entries in the order of their keys, whatever the order of the rows
abbrev pub entries_in : Trees → List Entry
entries_in db = sort_by entry_cmp (map entry_decoded (map order_cells (db 1)))

abbrev pub instances_in : Trees → List InstanceEntry
instances_in db = sort_by instance_cmp (map instance_decoded (map instance_cells (db 3)))

abbrev pub bindings_in : Trees → List BindingEntry
bindings_in db = sort_by binding_cmp (map binding_decoded (map binding_cells (db 5)))

-- the tables hold this version and entries
abbrev pub HoldsEntries : ℕ → Trees → Type 0
HoldsEntries version db = Holds version (entries_in db) (instances_in db) (bindings_in db) db

-- ---- lives

-- the lives that the orders store, which have no contexts
abbrev pub bare_lives_in : Trees → Lives
bare_lives_in db = lives_in (entries_in db)

-- the lives that are stored, with the contexts of their table
abbrev pub lives_stored : Trees → Lives
lives_stored db = joined_lives (contexts_in db) (bare_lives_in db)

-- the lives that the orders store, and the rows of instances and bindings beside them
pub record Content : Type 0 where
  pub lives : Lives
  pub instances : List InstanceEntry
  pub bindings : List BindingEntry

abbrev pub content_in : Trees → Content
content_in db =
    record { lives = bare_lives_in db; instances = instances_in db; bindings = bindings_in db }
