-- What a schema of these tables has besides them. For contracts inside the crate.
use Rattle.std.specs.Prelude.{true, [], ◌∷◌, List, ℕ, ◌+◌, codes}
use Rattle.sqlite.specs.Schema.{Schema}
use Rattle.sqlite_schema.specs.declared.schema.Index.{Index}
use Rattle.osb_tables.specs.declared.schema.Indexes.{Indexes}
use Rattle.osb_tables.specs.declared.schema.Indexes.TheVariants.{None, Listing, Both}
use Rattle.osb_tables.specs.Tables.{tables_schema, index_of, busy_index, subject_index, with_busy, with_subject}

-- version 1 with one index, and with both
abbrev pub listed_schema : Schema
listed_schema = with_busy tables_schema

abbrev pub record_schema : Schema
record_schema = with_subject listed_schema

-- the indexes that the keys have, by name
abbrev pub key_indexes : List Index
key_indexes =
    index_of (codes "sqlite_autoindex_orders_1") 2 1 (1 ∷ 2 ∷ []) true
    ∷ index_of (codes "sqlite_autoindex_instances_1") 4 3 (1 ∷ []) true
    ∷ index_of (codes "sqlite_autoindex_bindings_1") 6 5 (1 ∷ 2 ∷ []) true
    ∷ []

abbrev pub contexts_index : Index
contexts_index = index_of (codes "sqlite_autoindex_contexts_1") 8 7 (1 ∷ 2 ∷ []) true

-- the indexes as they are in a schema whose last object has the tree before this one
abbrev pub busy_at : ℕ → Index
busy_at tree = record busy_index { tree = tree }

abbrev pub subject_at : ℕ → Index
subject_at tree = record subject_index { tree = tree }

abbrev pub indexes_at : ℕ → Indexes → List Index
indexes_at tree None = []
indexes_at tree Listing = busy_at tree ∷ []
indexes_at tree Both = busy_at tree ∷ subject_at (tree + 1) ∷ []
