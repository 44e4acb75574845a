-- What is read of each table.
use Rattle.std.proofs.Common.{◌≡◌, ℕ, pos, List, [], ◌∷◌, length, map, nat_cmp, refl, ap, subst, ◌∙◌}
use Rattle.std.proofs.lemmas.Cmp.{nat_cmp_total}
use Rattle.sqlite.specs.declared.types.Value.{Value}
use Rattle.sqlite.specs.declared.types.Value.TheVariants.{Null, Int, Text}
use Rattle.sqlite.specs.Order.{Row}
use Rattle.sqlite.specs.Effect.{Database}
use Rattle.sqlite.specs.Program.{overlay}
use Rattle.sqlite.specs.Query.{IsAnswer, key_cmp}
use Rattle.sqlite.specs.State.{State, Shown}
use Rattle.sqlite.specs.Term.{col}
use Rattle.sqlite.proofs.Callers.{reads_as}
use Rattle.sqlite_keyed.proofs.ListLemmas.{all_of}
use Rattle.sqlite_value.specs.Keys.{ascending}
use Rattle.sqlite_value.specs.declared.keys.Collation.TheVariants.{Binary}
use Rattle.osb_tables.specs.Tables.{second_schema}
use Rattle.osb_audit.specs.declared.entry.BindingEntry.{BindingEntry}
use Rattle.osb_audit.specs.Orders.{Entry, entry_cmp}
use Rattle.osb_audit.specs.Instances.{InstanceEntry, instance_cmp}
use Rattle.osb_audit.specs.Bindings.{binding_cmp}
use Rattle.osb_rows.specs.Rows.{Stores, AreInUtf8}
use Rattle.osb_statements.specs.Read.{IsListOf, instance_columns, binding_columns, entry_columns, version_columns}
use Rattle.osb_contexts.specs.Pieces.{piece}
use Rattle.osb_contexts.specs.Read.{AreRowids, HaveRowids}
use Rattle.osb_statements.specs.Instances.{instance_cells, instance_row}
use Rattle.osb_statements.specs.Bindings.{binding_cells, binding_row}
use Rattle.osb_contexts.specs.Format.{version_cells, version_row, HoldsVersion}
use Rattle.osb_statements.specs.Stored.{order_cells, entry_row}
use Rattle.osb_rows.proofs.AnswerLemmas.{over}
use Rattle.osb_statements.proofs.BindingLemmas.{by_both_ids}
use Rattle.osb_statements.proofs.BindingTexts.{binding_cells_read, by_ids}
use Rattle.osb_statements.proofs.InstanceLemmas.{by_id}
use Rattle.osb_statements.proofs.SelectLemmas.{by_both}
use Rattle.osb_statements.proofs.Texts.{all_cells, instance_cells_read, by_instance}
use Rattle.osb_statements.proofs.WholeTexts.{version_cells_read, by_version, select_versions, select_versions_is, some_orders, some_orders_is, some_instances, some_instances_is, some_bindings, some_bindings_is, some_binding_rowids, some_binding_rowids_is}
use Rattle.osb_statements.proofs.WholeLemmas.{are_shown, is_list}
use Rattle.osb_contexts.proofs.WholeLemmas.{rowids_shown}
use Rattle.osb_contexts.proofs.TestLemmas.{then_equal, number_cmp}
use Rattle.osb_contexts.proofs.PieceLemmas.{piece_counted, piece_read, piece_shown}
use Rattle.osb_contexts.proofs.Texts.{version_rowids_is, between_tests, by_key, every, version_rowids}

by_number : (a b : ℕ) → key_cmp 0 (ascending Binary ∷ []) (Int (pos a) ∷ []) (Int (pos b) ∷ []) ≡ nat_cmp a b
by_number a b = rw (number_cmp a b, then_equal (nat_cmp a b)) refl

versions_answer : (mid new : State) (rows : List Row) → mid.now.schema ≡ second_schema → Shown select_versions [] mid new rows → IsAnswer (over 0 [] version_cells_read by_version every) (overlay mid.now.trees []) [] rows
versions_answer mid new rows has shown = (reads_as select_versions [] mid new second_schema has _ select_versions_is.0 select_versions_is.2 select_versions_is.1 rows shown).answer Null

pub versions_shown : (mid new : State) (rows : List Row) (version : ℕ) → mid.now.schema ≡ second_schema → Shown select_versions [] mid new rows → HoldsVersion version mid.now.trees → rows ≡ map version_row (version ∷ [])
versions_shown mid new rows version has shown holds =
    are_shown 0 mid.now.trees refl version_cells version_row nat_cmp nat_cmp_total version_cells_read by_version (λ _. refl) (λ _. refl) (λ _. refl) (λ a b less. by_number a b ∙ less) version_columns (λ _. refl) (λ _. refl) rows (version ∷ [])
    (versions_answer mid new rows has shown) holds

pub versions_read : (old mid new : State) (ids rows : List Row) (entries : List ℕ) → old.now.schema ≡ second_schema → mid.now ≡ old.now → Shown version_rowids [] old mid ids → Shown select_versions [] mid new rows → AreRowids ids → map version_row entries ≡ map version_columns rows
    → IsListOf version_cells version_row nat_cmp (old.now.trees 0) entries
versions_read old mid new ids rows entries has same first second are is =
    let found = reads_as version_rowids [] old mid second_schema has _ version_rowids_is.0 version_rowids_is.2 version_rowids_is.1 ids first in
    let answer = subst (λ (d : Database). IsAnswer (over 0 [] version_cells_read by_version every) (overlay d.trees []) [] rows) same (versions_answer mid new rows (ap (λ (d : Database). d.schema) same ∙ has) second) in
    is_list 0 old.now.trees refl version_cells version_row nat_cmp nat_cmp_total version_cells_read by_version (λ _. refl) (λ _. refl) (λ _. refl) (λ a b less. by_number a b ∙ less) version_columns (λ _. refl) (λ _. refl) rows entries answer
    (rowids_shown 0 old.now.trees refl ids (found.answer Null) are) is (all_of _ (λ _. (tt, tt)) entries)

-- ---- some instances

module _ (old new : State) (has : old.now.schema ≡ second_schema) (rows : List Row) where
  module _ (after : List ℕ) (to : Value) where
    orders_answer : Shown some_orders (Text after ∷ to ∷ []) old new rows → IsAnswer (over 1 between_tests all_cells by_key every) (overlay old.now.trees []) (Text after ∷ to ∷ []) rows
    orders_answer shown = (reads_as some_orders (Text after ∷ to ∷ []) old new second_schema has _ some_orders_is.0 some_orders_is.2 some_orders_is.1 rows shown).answer Null

    pub some_orders_shown : (entries : List Entry) → Shown some_orders (Text after ∷ to ∷ []) old new rows → Stores order_cells entry_row entry_cmp (piece after to old.now.trees 1) entries → rows ≡ map entry_row entries
    some_orders_shown entries shown stores = piece_shown 1 old.now.trees after to refl all_cells by_key rows (orders_answer shown) order_cells entry_row entry_cmp (λ _. refl) (λ _. refl) (λ _. refl) (λ a b less. by_both a b ∙ less) entry_columns (λ _. refl) (λ _. refl) entries stores

    pub some_orders_read : (entries : List Entry) → Shown some_orders (Text after ∷ to ∷ []) old new rows → HaveRowids (old.now.trees 1) → map entry_row entries ≡ map entry_columns rows → AreInUtf8 entry_row entries → IsListOf order_cells entry_row entry_cmp (piece after to old.now.trees 1) entries
    some_orders_read entries shown have is texts =
        let list = piece_read 1 old.now.trees after to refl all_cells by_key rows (orders_answer shown) order_cells entry_row entry_cmp (λ _. refl) (λ _. refl) (λ _. refl) (λ a b less. by_both a b ∙ less) entry_columns (λ _. refl) (λ _. refl) entries have is in
        record { held = list.0; texts = texts; only = list.1 }

    instances_answer : Shown some_instances (Text after ∷ to ∷ []) old new rows → IsAnswer (over 3 between_tests instance_cells_read by_instance every) (overlay old.now.trees []) (Text after ∷ to ∷ []) rows
    instances_answer shown = (reads_as some_instances (Text after ∷ to ∷ []) old new second_schema has _ some_instances_is.0 some_instances_is.2 some_instances_is.1 rows shown).answer Null

    pub some_instances_shown : (entries : List InstanceEntry) → Shown some_instances (Text after ∷ to ∷ []) old new rows → Stores instance_cells instance_row instance_cmp (piece after to old.now.trees 3) entries → rows ≡ map instance_row entries
    some_instances_shown entries shown stores = piece_shown 3 old.now.trees after to refl instance_cells_read by_instance rows (instances_answer shown) instance_cells instance_row instance_cmp (λ _. refl) (λ _. refl) (λ _. refl) (λ a b less. by_id a b ∙ less) instance_columns (λ _. refl) (λ _. refl) entries stores

    pub some_instances_read : (entries : List InstanceEntry) → Shown some_instances (Text after ∷ to ∷ []) old new rows → HaveRowids (old.now.trees 3) → map instance_row entries ≡ map instance_columns rows → AreInUtf8 instance_row entries → IsListOf instance_cells instance_row instance_cmp (piece after to old.now.trees 3) entries
    some_instances_read entries shown have is texts =
        let list = piece_read 3 old.now.trees after to refl instance_cells_read by_instance rows (instances_answer shown) instance_cells instance_row instance_cmp (λ _. refl) (λ _. refl) (λ _. refl) (λ a b less. by_id a b ∙ less) instance_columns (λ _. refl) (λ _. refl) entries have is in
        record { held = list.0; texts = texts; only = list.1 }

    bindings_answer : Shown some_bindings (Text after ∷ to ∷ []) old new rows → IsAnswer (over 5 between_tests binding_cells_read by_ids every) (overlay old.now.trees []) (Text after ∷ to ∷ []) rows
    bindings_answer shown = (reads_as some_bindings (Text after ∷ to ∷ []) old new second_schema has _ some_bindings_is.0 some_bindings_is.2 some_bindings_is.1 rows shown).answer Null

    pub some_bindings_shown : (entries : List BindingEntry) → Shown some_bindings (Text after ∷ to ∷ []) old new rows → Stores binding_cells binding_row binding_cmp (piece after to old.now.trees 5) entries → rows ≡ map binding_row entries
    some_bindings_shown entries shown stores = piece_shown 5 old.now.trees after to refl binding_cells_read by_ids rows (bindings_answer shown) binding_cells binding_row binding_cmp (λ _. refl) (λ _. refl) (λ _. refl) (λ a b less. by_both_ids a b ∙ less) binding_columns (λ _. refl) (λ _. refl) entries stores

    pub some_bindings_read : (entries : List BindingEntry) → Shown some_bindings (Text after ∷ to ∷ []) old new rows → HaveRowids (old.now.trees 5) → map binding_row entries ≡ map binding_columns rows → AreInUtf8 binding_row entries → IsListOf binding_cells binding_row binding_cmp (piece after to old.now.trees 5) entries
    some_bindings_read entries shown have is texts =
        let list = piece_read 5 old.now.trees after to refl binding_cells_read by_ids rows (bindings_answer shown) binding_cells binding_row binding_cmp (λ _. refl) (λ _. refl) (λ _. refl) (λ a b less. by_both_ids a b ∙ less) binding_columns (λ _. refl) (λ _. refl) entries have is in
        record { held = list.0; texts = texts; only = list.1 }

    -- as many rows as the piece has
    pub some_bindings_counted : Shown some_binding_rowids (Text after ∷ to ∷ []) old new rows → length rows ≡ length (piece after to old.now.trees 5)
    some_bindings_counted shown =
        let read = reads_as some_binding_rowids (Text after ∷ to ∷ []) old new second_schema has _ some_binding_rowids_is.0 some_binding_rowids_is.2 some_binding_rowids_is.1 rows shown in
        piece_counted 5 old.now.trees after to refl (col 1 0 ∷ []) by_ids rows (read.answer Null)
