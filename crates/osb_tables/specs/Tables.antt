-- The tables and indexes of the database as schemas, those of version 1 and of version 2 (this project's own).
use Rattle.std.specs.Prelude.{Bool, true, false, [], ◌∷◌, List, ℕ, map, codes}
use Rattle.std.specs.Prelude as std
use Rattle.std.specs.Borrow.{Bor}
use Rattle.sqlite.specs.Collation.TheVariants.{Binary}
use Rattle.sqlite.specs.declared.types.Value.TheVariants.{Null}
use Rattle.sqlite.specs.Table.{Table}
use Rattle.sqlite.specs.Schema.{Schema}
use Rattle.sqlite.specs.Change.{created, indexed}
use Rattle.sqlite.specs.Kind.{Kind}
use Rattle.sqlite.specs.Kind.TheVariants.{Integer, Text}
use Rattle.sqlite_schema.specs.declared.schema.Column.{Column}
use Rattle.sqlite_value.specs.declared.keys.Order.{Order}
use Rattle.sqlite_schema.specs.declared.schema.Index.{Index}
use Rattle.osb_tables.specs.declared.schema.Indexes.{Indexes}
use Rattle.osb_tables.specs.declared.schema.Indexes.TheVariants.{None, Listing, Both}

-- a column of a STRICT table
abbrev pub column_of : List ℕ → Kind → Column
column_of name kind =
    record {
      name = name;
      kind = kind;
      is_strict = true;
      not_null = true;
      default = Null;
      collation = Binary;
    }

-- those of these names and kinds
abbrev pub columns_of : List (Bor (List ℕ) × Kind) → List Column
columns_of columns = map (λ (column : Bor (List ℕ) × Kind). column_of column.0.now column.1) columns

-- a column of texts, ordered by their bytes
abbrev pub text_column : List ℕ → Column
text_column name = column_of name Text

abbrev pub number_column : List ℕ → Column
number_column name = column_of name Integer

-- the keys of a table with this primary key, or with none, and their orders
abbrev pub keys_of : List ℕ → List (List ℕ)
keys_of [] = []
keys_of (place ∷ places) = (place ∷ places) ∷ []

abbrev pub sorts_of : List ℕ → List Order
sorts_of key = map (λ _. record { digits = 0 }) (keys_of key)

-- a table with these columns and the key of those places, if any, and no rule besides
abbrev pub plain_table : List ℕ → ℕ → List Column → List ℕ → List (List ℕ) → Table
plain_table name tree columns primary uniques = record {
  name = name;
  tree = tree;
  columns = columns;
  key = std.None;
  primary = primary;
  uniques = uniques;
  orders = map (λ _. record { digits = 0 }) uniques;
  checks = [];
  references = [];
  computed = [];
  stamps = record { places = []; terms = []; formats = [] };
  is_counted = false;
}

abbrev pub columns_of_formats : List Column
columns_of_formats = number_column (codes "version") ∷ []

abbrev pub columns_of_orders : List Column
columns_of_orders =
    text_column (codes "instance_id")
    ∷ number_column (codes "seq")
    ∷ number_column (codes "kind")
    ∷ text_column (codes "binding_id")
    ∷ text_column (codes "service_id")
    ∷ text_column (codes "plan_id")
    ∷ text_column (codes "place")
    ∷ text_column (codes "spot")
    ∷ text_column (codes "params")
    ∷ text_column (codes "maint")
    ∷ number_column (codes "state")
    ∷ text_column (codes "note")
    ∷ text_column (codes "credentials")
    ∷ []

abbrev pub columns_of_instances : List Column
columns_of_instances =
    text_column (codes "instance_id")
    ∷ number_column (codes "phase")
    ∷ number_column (codes "busy")
    ∷ number_column (codes "last_seq")
    ∷ text_column (codes "service_id")
    ∷ text_column (codes "plan_id")
    ∷ text_column (codes "organization")
    ∷ text_column (codes "space")
    ∷ text_column (codes "params")
    ∷ text_column (codes "maint")
    ∷ []

abbrev pub columns_of_bindings : List Column
columns_of_bindings =
    text_column (codes "instance_id")
    ∷ text_column (codes "binding_id")
    ∷ number_column (codes "phase")
    ∷ text_column (codes "service_id")
    ∷ text_column (codes "plan_id")
    ∷ text_column (codes "app_guid")
    ∷ text_column (codes "bind_resource")
    ∷ text_column (codes "params")
    ∷ text_column (codes "credentials")
    ∷ []

abbrev pub columns_of_contexts : List Column
columns_of_contexts =
    text_column (codes "instance_id")
    ∷ number_column (codes "seq")
    ∷ text_column (codes "context")
    ∷ []

abbrev pub format_table : Table
format_table = plain_table (codes "format") 0 columns_of_formats [] []

-- its key is the instance and the number of the order
abbrev pub orders_table : Table
orders_table = plain_table (codes "orders") 1 columns_of_orders (1 ∷ 2 ∷ []) ((1 ∷ 2 ∷ []) ∷ [])

-- one row for each instance
abbrev pub instances_table : Table
instances_table = plain_table (codes "instances") 3 columns_of_instances (1 ∷ []) ((1 ∷ []) ∷ [])

-- its key is the instance and the binding
abbrev pub bindings_table : Table
bindings_table =
    plain_table (codes "bindings") 5 columns_of_bindings (1 ∷ 2 ∷ []) ((1 ∷ 2 ∷ []) ∷ [])

-- its key is the instance and the number of the order, or 0 for the current state
abbrev pub contexts_table : Table
contexts_table =
    plain_table (codes "contexts") 7 columns_of_contexts (1 ∷ 2 ∷ []) ((1 ∷ 2 ∷ []) ∷ [])

abbrev pub no_schema : Schema
no_schema = record { tables = []; indexes = []; views = [] }

abbrev pub format_schema : Schema
format_schema = created no_schema format_table

abbrev pub orders_schema : Schema
orders_schema = created format_schema orders_table

abbrev pub instances_schema : Schema
instances_schema = created orders_schema instances_table

-- the four tables of version 1
abbrev pub tables_schema : Schema
tables_schema = created instances_schema bindings_table

-- the five tables of version 2
abbrev pub five_tables : Schema
five_tables = created tables_schema contexts_table

-- an index by the bytes of these columns
abbrev pub index_of : List ℕ → ℕ → ℕ → List ℕ → Bool → Index
index_of name tree table columns is_unique =
    record {
      name = name;
      tree = tree;
      table = table;
      columns = columns;
      order = record { digits = 0 };
      is_unique = is_unique;
    }

abbrev pub busy_name : List ℕ
busy_name = codes "busy_instances"

-- the instances by whether their last order runs, and then by their ids
abbrev pub busy_index : Index
busy_index = index_of busy_name 0 3 (3 ∷ 1 ∷ []) false

abbrev pub subject_name : List ℕ
subject_name = codes "subject_orders"

-- the orders by what they are about, then by their kinds and their numbers
abbrev pub subject_index : Index
subject_index = index_of subject_name 0 1 (1 ∷ 4 ∷ 3 ∷ 2 ∷ []) false

-- tables with the index of the listing
abbrev pub with_busy : Schema → Schema
with_busy schema = indexed schema instances_table busy_index

-- with the index on what orders are about
abbrev pub with_subject : Schema → Schema
with_subject schema = indexed schema orders_table subject_index

-- version 2 with one index, and with both
abbrev pub second_listed : Schema
second_listed = with_busy five_tables

abbrev pub second_schema : Schema
second_schema = with_subject second_listed

-- the tables of a version with these indexes
abbrev pub made : Schema → Indexes → Schema
made tables None = tables
made tables Listing = with_busy tables
made tables Both = with_subject (with_busy tables)
