-- What the statements do to the rows of bindings, and what the queries answer.
use Rattle.std.proofs.Common.{◌≡◌, ℕ, ◌==◌, pos, List, [], ◌∷◌, length, map, filter, take, codes, bytes_eq, Bool, true, false, not, cond, ◌&&◌, ◌||◌, Some, option_map, slice_get, Ok, Ordering, Less, Equal, Greater, nat_cmp, refl, sym, ap, subst, ◌∙◌, arith}
use Rattle.std.specs.List.{AllByRecursion, list_all, list_any}
use Rattle.std.specs.Ordering.{is_eq, ordering_then}
use Rattle.std.specs.Cmp.Lexicographic.{slice_cmp}
use Rattle.std.proofs.lemmas.Bool.{and_parts}
use Rattle.std.proofs.lemmas.Map.Text.{is_eq-slice_cmp}
use Rattle.sqlite.specs.declared.types.Value.TheVariants.{Null, Int, Text}
use Rattle.sqlite.specs.Order.{Row, column}
use Rattle.sqlite.specs.Term.{eval_all, holds}
use Rattle.sqlite.specs.Cast.{cast_all}
use Rattle.sqlite.specs.Program.{overlay}
use Rattle.sqlite.specs.Query.{key_cmp}
use Rattle.sqlite.specs.Listing.{understood}
use Rattle.sqlite.specs.State.{State, mode_of, Executes, Shown}
use Rattle.sqlite.proofs.Callers.{runs_as, reads_as, statement_of}
use Rattle.sqlite_value.specs.Keys.{ascending}
use Rattle.sqlite_value.specs.declared.keys.Collation.TheVariants.{Binary}
use Rattle.sqlite_value.proofs.OrderLemmas.{value_cmp-Text}
use Rattle.sqlite_keyed.specs.Lists.{insert_sorted, update_where, delete_where}
use Rattle.osb_orders.specs.declared.view.BindingNow.{BindingNow}
use Rattle.osb_rows.specs.Rows.{Stores, HaveUtf8Texts}
use Rattle.osb_tables.specs.Tables.{columns_of_bindings, second_schema}
use Rattle.osb_audit.specs.Instances.{InstanceEntry, instance_cmp}
use Rattle.osb_statements.specs.Instances.{instance_cells, instance_row}
use Rattle.osb_audit.specs.declared.entry.BindingEntry.{BindingEntry}
use Rattle.osb_audit.specs.Bindings.{binding_entry, binding_now, binding_cmp, is_bound, is_binding}
use Rattle.osb_statements.specs.Bindings.{binding_cells, binding_row, binding_phase_number}
use Rattle.osb_statements.specs.BindingRows.{binding_found, first_binding, with_binding_row}
use Rattle.osb_audit.specs.Orders.{Entry, entry_cmp}
use Rattle.osb_contexts.specs.Format.{version_row, version_cells}
use Rattle.osb_statements.specs.Stored.{entry_row, order_cells, entries_in, instances_in, bindings_in}
use Rattle.osb_statements.specs.Steps.{HasTables}
use Rattle.osb_rows.proofs.AnswerLemmas.{one_answer}
use Rattle.osb_statements.proofs.SortLemmas.{binding_back}
use Rattle.osb_rows.proofs.StatementLemmas.{insert_does, update_does, delete_does}
use Rattle.osb_rows.proofs.TableLemmas.{cast_int, insert_stores, update_stores, delete_stores}
use Rattle.osb_statements.proofs.TestLemmas.{bytes_back, text_itself}
use Rattle.osb_statements.proofs.ChangeLemmas.{Gives}
use Rattle.osb_statements.proofs.BindingTexts.{insert_binding, insert_binding_terms, insert_binding_is, update_binding, update_binding_query, update_binding_is, rebound_cells, at_binding, delete_binding, delete_binding_query, delete_binding_is, delete_bindings, delete_bindings_query, delete_bindings_is, at_instance, select_binding, select_binding_is, select_bound, select_bound_is, binding_cells_read, by_ids, one}
use Rattle.osb_audit.proofs.RisingLemmas.{bindings_total as binding_total}
use Rattle.osb_contexts.proofs.TestLemmas.{then_equal, same_text, and_true, same_bytes}
use Rattle.osb_audit.proofs.RunLemmas.{text_itself as bytes_itself}
use Rattle.osb_contexts.proofs.Texts.{every}

-- ---- the tests of WHERE, and the key

at_ids : (id binding : List ℕ) (more : Row) (entry : BindingEntry) → list_all (holds ((Text id ∷ Text binding ∷ more) ∷ (Null ∷ binding_row entry) ∷ [])) at_binding ≡ is_binding id binding entry
at_ids id binding more entry = rw (same_text entry.instance id, same_text entry.binding binding, and_true (bytes_eq entry.binding binding)) refl

at_id : (id : List ℕ) (more : Row) (entry : BindingEntry) → list_all (holds ((Text id ∷ more) ∷ (Null ∷ binding_row entry) ∷ [])) at_instance ≡ is_bound id entry
at_id id more entry = rw (same_text entry.instance id) (and_true _)

-- the entry's ids
ids_of : (id binding : List ℕ) (entry : BindingEntry) → is_binding id binding entry ≡ true → (entry.instance ≡ id) × (entry.binding ≡ binding)
ids_of id binding entry hit = let parts = and_parts _ _ hit in (same_bytes entry.instance id parts.0, same_bytes entry.binding binding parts.1)

one_binding : (id binding : List ℕ) (a b : BindingEntry) → is_binding id binding a ≡ true → is_binding id binding b ≡ true → binding_cmp a b ≡ Equal
one_binding id binding a b p q =
    let of_a = ids_of id binding a p in let of_b = ids_of id binding b q in
    rw (of_a.0 ∙ sym of_b.0, of_a.1 ∙ sym of_b.1, text_itself b.instance, text_itself b.binding) refl

pub by_both_ids : (a b : BindingEntry) → key_cmp 0 (ascending Binary ∷ ascending Binary ∷ []) (Text a.instance ∷ Text a.binding ∷ []) (Text b.instance ∷ Text b.binding ∷ []) ≡ binding_cmp a b
by_both_ids a b = rw (value_cmp-Text a.instance b.instance, value_cmp-Text a.binding b.binding, then_equal (slice_cmp nat_cmp a.binding b.binding)) refl

row_keeps : (hit : BindingEntry → Bool) (row : BindingNow) (a b : BindingEntry) → binding_cmp (cond (hit a) (with_binding_row row a) a) (cond (hit b) (with_binding_row row b) b) ≡ binding_cmp a b
row_keeps hit row a b = go (hit a) (hit b)
  where
    go : (x y : Bool) → binding_cmp (cond x (with_binding_row row a) a) (cond y (with_binding_row row b) b) ≡ binding_cmp a b
    go true true = refl
    go true false = refl
    go false true = refl
    go false false = refl

other_key : (o p : Ordering) → (is_eq o && is_eq p) ≡ false → is_eq (ordering_then o p) ≡ false
other_key Less p h = refl
other_key Equal p h = h
other_key Greater p h = refl

-- a binding without a row has no key in the table
key_free : (id binding : List ℕ) (row : BindingNow) (entries : List BindingEntry) → filter (is_binding id binding) entries ≡ [] → AllByRecursion (λ other. is_eq (binding_cmp (binding_entry id (binding, row)) other) ≡ false) entries
key_free id binding row [] none = tt
key_free id binding row (entry ∷ entries) none = go (is_binding id binding entry) refl none (key_free id binding row entries)
  where
    back : (a b : List ℕ) → is_eq (slice_cmp nat_cmp a b) ≡ bytes_eq b a
    back a b = is_eq-slice_cmp a b ∙ turned (bytes_eq b a) refl
      where
        turned : (x : Bool) → bytes_eq b a ≡ x → bytes_eq a b ≡ x
        turned true is = rw (same_bytes b a is) (bytes_itself a)
        turned false is = bytes_back b a is

    go : (b : Bool) → is_binding id binding entry ≡ b → cond b (entry ∷ filter (is_binding id binding) entries) (filter (is_binding id binding) entries) ≡ []
        → (filter (is_binding id binding) entries ≡ [] → AllByRecursion (λ other. is_eq (binding_cmp (binding_entry id (binding, row)) other) ≡ false) entries) → AllByRecursion (λ other. is_eq (binding_cmp (binding_entry id (binding, row)) other) ≡ false) (entry ∷ entries)
    go true is none more = absurd (cc)
    go false is none more = (other_key (slice_cmp nat_cmp id entry.instance) (slice_cmp nat_cmp binding entry.binding) (rw (back id entry.instance, back binding entry.binding) is), more none)

-- ---- the statements

cast_binding : (entry : BindingEntry) → cast_all columns_of_bindings (binding_row entry) ≡ binding_row entry
cast_binding entry = rw (cast_int (pos (binding_phase_number entry.phase))) refl

rebound_row : (id binding : List ℕ) (row : BindingNow) (stored : Row) (entry : BindingEntry) → binding_cells stored ≡ binding_row entry
    → cast_all columns_of_bindings (eval_all rebound_cells (binding_row (binding_entry id (binding, row)) ∷ stored ∷ [])) ≡ binding_row (with_binding_row row entry)
rebound_row id binding row stored entry is =
    let first : column stored 1 ≡ Text entry.instance = ap (λ cells. column cells 0) is in
    let second : column stored 2 ≡ Text entry.binding = ap (λ cells. column cells 1) is in
    rw (first, second, cast_int (pos (binding_phase_number row.phase))) refl

module _ (old new : State) (count : ℕ) (tables : HasTables old.now) (id : List ℕ) where
  abbrev entries : List Entry
  entries = entries_in old.now.trees

  abbrev instances : List InstanceEntry
  instances = instances_in old.now.trees

  abbrev bindings : List BindingEntry
  bindings = bindings_in old.now.trees

  pub adds_binding : (binding : List ℕ) (row : BindingNow) → filter (is_binding id binding) bindings ≡ [] → HaveUtf8Texts (binding_row (binding_entry id (binding, row))) → Executes insert_binding (binding_row (binding_entry id (binding, row))) old new (Ok count)
      → Gives old new entries instances (insert_sorted binding_cmp (binding_entry id (binding, row)) bindings)
  adds_binding binding row none texts h =
      let entry = binding_entry id (binding, row) in
      let params = binding_row entry in
      let held = tables.holds in
      let w = runs_as insert_binding params old new second_schema tables.schema _ insert_binding_is.0 insert_binding_is.1 count h in
      let did = insert_does old.step_limit (mode_of old) params old.now new.now w.tally (statement_of insert_binding (understood second_schema insert_binding)) second_schema 3 (codes "bindings") 5 columns_of_bindings (1 ∷ 2 ∷ []) ((1 ∷ 2 ∷ []) ∷ []) tables.schema refl (λ _ _. refl)
      insert_binding_terms 10 params refl w.changed in (
        did.0,
        record {
          format = subst (λ r. Stores version_cells version_row nat_cmp r (2 ∷ [])) (sym (did.1.tables.0 (λ e. absurd (omega (arith, e))))) held.format;
          orders = subst (λ r. Stores order_cells entry_row entry_cmp r entries) (sym (did.1.tables.1.0 (λ e. absurd (omega (arith, e))))) held.orders;
          instances = subst (λ r. Stores instance_cells instance_row instance_cmp r instances) (sym (did.1.tables.1.1.0 (λ e. absurd (omega (arith, e))))) held.instances;
          bindings = insert_stores second_schema _ old.now.trees new.now.trees (codes "bindings") 5 columns_of_bindings (1 ∷ 2 ∷ []) ((1 ∷ 2 ∷ []) ∷ []) binding_cmp binding_total binding_cells binding_row entry bindings (λ _. refl) (cast_binding entry) (key_free id binding row bindings none) texts did.1 held.bindings;
        },
        w.sound,
        did.1.tables.1.1.1.1.0 (λ e. absurd (omega (arith, e))),
      )

  pub updates_binding : (binding : List ℕ) (row : BindingNow) → HaveUtf8Texts (binding_row (binding_entry id (binding, row))) → Executes update_binding (binding_row (binding_entry id (binding, row))) old new (Ok count) → Gives old new entries instances (update_where (is_binding id binding) (with_binding_row row) bindings)
  updates_binding binding row texts h =
      let params = binding_row (binding_entry id (binding, row)) in
      let held = tables.holds in
      let w = runs_as update_binding params old new second_schema tables.schema _ update_binding_is.0 update_binding_is.1 count h in
      let did = update_does old.step_limit (mode_of old) params old.now new.now w.tally (statement_of update_binding (understood second_schema update_binding)) second_schema 3 (codes "bindings") 5 columns_of_bindings (1 ∷ 2 ∷ []) ((1 ∷ 2 ∷ []) ∷ []) tables.schema refl (λ _ _. refl)
      update_binding_query w.changed in
      let applied = did.2.1 in (
        did.2.0,
        record {
          format = subst (λ r. Stores version_cells version_row nat_cmp r (2 ∷ [])) (sym (applied.tables.0 (λ e. absurd (omega (arith, e))))) held.format;
          orders = subst (λ r. Stores order_cells entry_row entry_cmp r entries) (sym (applied.tables.1.0 (λ e. absurd (omega (arith, e))))) held.orders;
          instances = subst (λ r. Stores instance_cells instance_row instance_cmp r instances) (sym (applied.tables.1.1.0 (λ e. absurd (omega (arith, e))))) held.instances;
          bindings = update_stores second_schema _ old.now.trees new.now.trees (codes "bindings") 5 columns_of_bindings (1 ∷ 2 ∷ []) ((1 ∷ 2 ∷ []) ∷ []) binding_cmp binding_total binding_cells binding_row (overlay old.now.trees []) refl params at_binding
              (is_binding id binding) (λ _. refl) (λ entry. rw (same_text entry.instance id, same_text entry.binding binding, and_true (bytes_eq entry.binding binding)) refl) (one_binding id binding) (with_binding_row row) (row_keeps (is_binding id binding) row) rebound_cells (λ _ _. refl)
              (λ stored entry is hits. rebound_row id binding row stored entry is) (λ entry hits kept. (kept.0, (kept.1.0, texts.1.1))) bindings did.0 did.1 held.bindings applied;
        },
        w.sound,
        applied.tables.1.1.1.1.0 (λ e. absurd (omega (arith, e))),
      )

  pub drops_binding : (binding : List ℕ) → Executes delete_binding (Text id ∷ Text binding ∷ []) old new (Ok count) → Gives old new entries instances (delete_where (is_binding id binding) bindings)
  drops_binding binding h =
      let params = Text id ∷ Text binding ∷ [] in
      let held = tables.holds in
      let w = runs_as delete_binding params old new second_schema tables.schema _ delete_binding_is.0 delete_binding_is.1 count h in
      let did = delete_does old.step_limit (mode_of old) params old.now new.now w.tally (statement_of delete_binding (understood second_schema delete_binding)) second_schema 3 (codes "bindings") 5 columns_of_bindings (1 ∷ 2 ∷ []) ((1 ∷ 2 ∷ []) ∷ []) tables.schema refl (λ _ _. refl)
      delete_binding_query w.changed in
      let applied = did.2.1 in (
        did.2.0,
        record {
          format = subst (λ r. Stores version_cells version_row nat_cmp r (2 ∷ [])) (sym (applied.tables.0 (λ e. absurd (omega (arith, e))))) held.format;
          orders = subst (λ r. Stores order_cells entry_row entry_cmp r entries) (sym (applied.tables.1.0 (λ e. absurd (omega (arith, e))))) held.orders;
          instances = subst (λ r. Stores instance_cells instance_row instance_cmp r instances) (sym (applied.tables.1.1.0 (λ e. absurd (omega (arith, e))))) held.instances;
          bindings = delete_stores second_schema _ old.now.trees new.now.trees (codes "bindings") 5 columns_of_bindings (1 ∷ 2 ∷ []) ((1 ∷ 2 ∷ []) ∷ []) binding_cmp binding_total binding_cells binding_row (overlay old.now.trees []) refl params at_binding
              (is_binding id binding) (λ _. refl) (at_ids id binding []) bindings did.0 did.1 applied held.bindings;
        },
        w.sound,
        applied.tables.1.1.1.1.0 (λ e. absurd (omega (arith, e))),
      )

  pub drops_bindings : Executes delete_bindings (Text id ∷ []) old new (Ok count) → Gives old new entries instances (delete_where (is_bound id) bindings)
  drops_bindings h =
      let params = Text id ∷ [] in
      let held = tables.holds in
      let w = runs_as delete_bindings params old new second_schema tables.schema _ delete_bindings_is.0 delete_bindings_is.1 count h in
      let did = delete_does old.step_limit (mode_of old) params old.now new.now w.tally (statement_of delete_bindings (understood second_schema delete_bindings)) second_schema 3 (codes "bindings") 5 columns_of_bindings (1 ∷ 2 ∷ []) ((1 ∷ 2 ∷ []) ∷ []) tables.schema refl (λ _ _. refl)
      delete_bindings_query w.changed in
      let applied = did.2.1 in (
        did.2.0,
        record {
          format = subst (λ r. Stores version_cells version_row nat_cmp r (2 ∷ [])) (sym (applied.tables.0 (λ e. absurd (omega (arith, e))))) held.format;
          orders = subst (λ r. Stores order_cells entry_row entry_cmp r entries) (sym (applied.tables.1.0 (λ e. absurd (omega (arith, e))))) held.orders;
          instances = subst (λ r. Stores instance_cells instance_row instance_cmp r instances) (sym (applied.tables.1.1.0 (λ e. absurd (omega (arith, e))))) held.instances;
          bindings = delete_stores second_schema _ old.now.trees new.now.trees (codes "bindings") 5 columns_of_bindings (1 ∷ 2 ∷ []) ((1 ∷ 2 ∷ []) ∷ []) binding_cmp binding_total binding_cells binding_row (overlay old.now.trees []) refl params at_instance
              (is_bound id) (λ _. refl) (at_id id []) bindings did.0 did.1 applied held.bindings;
        },
        w.sound,
        applied.tables.1.1.1.1.0 (λ e. absurd (omega (arith, e))),
      )

-- ---- the queries

found_told : (entries : List BindingEntry) → first_binding (map binding_row entries) ≡ option_map binding_now (slice_get entries 0)
found_told [] = refl
found_told (entry ∷ entries) = ap (λ (e : BindingEntry). Some (binding_now e)) (binding_back entry)

any_first : (id : List ℕ) (bindings : List BindingEntry) → (length (take 1 (map binding_row (filter (is_bound id) bindings))) == 0) ≡ not (list_any (is_bound id) bindings)
any_first id [] = refl
any_first id (entry ∷ bindings) = go (is_bound id entry) (any_first id bindings)
  where
    go : (b : Bool) → (length (take 1 (map binding_row (filter (is_bound id) bindings))) == 0) ≡ not (list_any (is_bound id) bindings)
        → (length (take 1 (map binding_row (cond b (entry ∷ filter (is_bound id) bindings) (filter (is_bound id) bindings)))) == 0) ≡ not (b || list_any (is_bound id) bindings)
    go true more = refl
    go false more = more

module _ (old new : State) (tables : HasTables old.now) (id : List ℕ) where
  abbrev known : List BindingEntry
  known = bindings_in old.now.trees

  pub shows_binding : (binding : List ℕ) (rows : List Row) → Shown select_binding (Text id ∷ Text binding ∷ []) old new rows → first_binding rows ≡ binding_found id binding known
  shows_binding binding rows h =
      let params = Text id ∷ Text binding ∷ [] in
      let read = reads_as select_binding params old new second_schema tables.schema _ select_binding_is.0 select_binding_is.2 select_binding_is.1 rows h in
      ap first_binding (one_answer 5 at_binding binding_cells_read by_ids every (overlay old.now.trees []) params binding_cells binding_row binding_cmp binding_total (is_binding id binding)
      (λ _. refl) (λ _. refl) (at_ids id binding []) (λ a b less. by_both_ids a b ∙ less) known rows tables.holds.bindings (read.answer Null))
      ∙ found_told (filter (is_binding id binding) known)

  pub shows_bound : (rows : List Row) → Shown select_bound (Text id ∷ []) old new rows → (length rows == 0) ≡ not (list_any (is_bound id) known)
  shows_bound rows h =
      let params = Text id ∷ [] in
      let read = reads_as select_bound params old new second_schema tables.schema _ select_bound_is.0 select_bound_is.2 select_bound_is.1 rows h in
      ap (λ items. length items == 0) (one_answer 5 at_instance binding_cells_read by_ids one (overlay old.now.trees []) params binding_cells binding_row binding_cmp binding_total (is_bound id)
      (λ _. refl) (λ _. refl) (at_id id []) (λ a b less. by_both_ids a b ∙ less) known rows tables.holds.bindings (read.answer Null))
      ∙ any_first id known

-- the parameters that show a row
pub binding_params : (entry : BindingEntry) {phase : ℕ} {service plan app_guid bind_resource parameters credentials : List ℕ}
    → phase ≡ binding_phase_number entry.phase → service ≡ entry.service → plan ≡ entry.plan → app_guid ≡ entry.app_guid → bind_resource ≡ entry.bind_resource → parameters ≡ entry.parameters → credentials ≡ entry.credentials
    → Text entry.instance ∷ Text entry.binding ∷ Int (pos phase) ∷ Text service ∷ Text plan ∷ Text app_guid ∷ Text bind_resource ∷ Text parameters ∷ Text credentials ∷ [] ≡ binding_row entry
binding_params entry is-phase is-service is-plan is-app is-resource is-parameters is-credentials = rw (is-phase, is-service, is-plan, is-app, is-resource, is-parameters, is-credentials) refl
