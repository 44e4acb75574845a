-- What the statements do to the rows of instances, and what the query answers.
use Rattle.std.proofs.Common.{◌≡◌, ◌⊎◌, inl, inr, ℕ, pos, List, [], ◌∷◌, map, filter, codes, Bool, true, false, cond, Ok, Equal, nat_cmp, refl, sym, ap, subst, ◌∙◌, arith}
use Rattle.std.specs.List.{AllByRecursion, list_all}
use Rattle.std.specs.Ordering.{is_eq}
use Rattle.std.specs.Cmp.Lexicographic.{slice_cmp}
use Rattle.std.proofs.lemmas.Map.Text.{is_eq-slice_cmp}
use Rattle.sqlite.specs.declared.types.Value.TheVariants.{Null, Int, Text}
use Rattle.sqlite.specs.Order.{Row, column}
use Rattle.sqlite.specs.Term.{eval_all, holds}
use Rattle.sqlite.specs.Cast.{cast_all}
use Rattle.sqlite.specs.Program.{overlay}
use Rattle.sqlite.specs.Query.{key_cmp}
use Rattle.sqlite.specs.Listing.{understood}
use Rattle.sqlite.specs.State.{State, mode_of, Executes, Shown}
use Rattle.sqlite.proofs.Callers.{runs_as, reads_as, statement_of}
use Rattle.sqlite_value.specs.Keys.{ascending}
use Rattle.sqlite_value.specs.declared.keys.Collation.TheVariants.{Binary}
use Rattle.sqlite_value.proofs.OrderLemmas.{value_cmp-Text}
use Rattle.sqlite_keyed.specs.Lists.{insert_sorted, update_where}
use Rattle.osb_standing.specs.declared.row.InstanceRow.{InstanceRow}
use Rattle.osb_rows.specs.Rows.{Stores, HaveUtf8Texts}
use Rattle.osb_tables.specs.Tables.{columns_of_instances, second_schema}
use Rattle.osb_audit.specs.Instances.{InstanceEntry, instance_cmp, is_instance, IsRowOf}
use Rattle.osb_statements.specs.Instances.{instance_row, instance_cells, instance_row_decoded, standing_number, attributes_shown, busy_number}
use Rattle.osb_statements.specs.Inside.{with_row}
use Rattle.osb_statements.specs.Read.{first_told}
use Rattle.osb_audit.specs.declared.entry.BindingEntry.{BindingEntry}
use Rattle.osb_audit.specs.Bindings.{binding_cmp}
use Rattle.osb_statements.specs.Bindings.{binding_cells, binding_row}
use Rattle.osb_audit.specs.Orders.{Entry, entry_cmp}
use Rattle.osb_bare.specs.Bare.{bare_row}
use Rattle.osb_contexts.specs.Format.{version_row, version_cells}
use Rattle.osb_statements.specs.Stored.{AreBareRows, entry_row, order_cells, entries_in, instances_in, bindings_in}
use Rattle.osb_statements.specs.Steps.{HasTables}
use Rattle.osb_rows.proofs.AnswerLemmas.{one_answer}
use Rattle.osb_statements.proofs.SortLemmas.{row_told_back}
use Rattle.osb_statements.proofs.BareLemmas.{all_filtered, instances_bare}
use Rattle.osb_rows.proofs.StatementLemmas.{insert_does, update_does}
use Rattle.osb_rows.proofs.StoresLemmas.{one_hit}
use Rattle.osb_rows.proofs.TableLemmas.{cast_int, insert_stores, update_stores}
use Rattle.osb_statements.proofs.TestLemmas.{bytes_back, text_itself}
use Rattle.osb_statements.proofs.ChangeLemmas.{Gives}
use Rattle.osb_statements.proofs.Texts.{insert_instance, insert_instance_terms, insert_instance_is, update_instance, update_instance_query, update_instance_is, updated_cells, select_instance, select_instance_is, instance_cells_read, by_instance}
use Rattle.osb_audit.proofs.RisingLemmas.{instances_total as instance_total}
use Rattle.osb_contexts.proofs.TestLemmas.{then_equal, same_text, and_true, same_bytes}
use Rattle.osb_contexts.proofs.Texts.{every, is_at}

-- ---- the test of WHERE, and the key

at_id : (id : List ℕ) (more : Row) (entry : InstanceEntry) → list_all (holds ((Text id ∷ more) ∷ (Null ∷ instance_row entry) ∷ [])) (is_at 1 0 ∷ []) ≡ is_instance id entry
at_id id more entry = rw (same_text entry.0 id) (and_true _)

one_id : (id : List ℕ) (a b : InstanceEntry) → is_instance id a ≡ true → is_instance id b ≡ true → instance_cmp a b ≡ Equal
one_id id a b p q = rw (same_bytes a.0 id p ∙ sym (same_bytes b.0 id q)) (text_itself b.0)

pub by_id : (a b : InstanceEntry) → key_cmp 0 (ascending Binary ∷ []) (Text a.0 ∷ []) (Text b.0 ∷ []) ≡ instance_cmp a b
by_id a b = rw (value_cmp-Text a.0 b.0, then_equal (slice_cmp nat_cmp a.0 b.0)) refl

row_keeps : (hit : InstanceEntry → Bool) (row : InstanceRow) (a b : InstanceEntry) → instance_cmp (cond (hit a) (with_row row a) a) (cond (hit b) (with_row row b) b) ≡ instance_cmp a b
row_keeps hit row a b = go (hit a) (hit b)
  where
    go : (x y : Bool) → instance_cmp (cond x (with_row row a) a) (cond y (with_row row b) b) ≡ instance_cmp a b
    go true true = refl
    go true false = refl
    go false true = refl
    go false false = refl

-- an instance without a row has no key in the table
key_free : (id : List ℕ) (row : InstanceRow) (entries : List InstanceEntry) → filter (is_instance id) entries ≡ [] → AllByRecursion (λ other. is_eq (instance_cmp (id, row) other) ≡ false) entries
key_free id row [] none = tt
key_free id row (entry ∷ entries) none = go (is_instance id entry) refl none (key_free id row entries)
  where
    go : (b : Bool) → is_instance id entry ≡ b → cond b (entry ∷ filter (is_instance id) entries) (filter (is_instance id) entries) ≡ []
        → (filter (is_instance id) entries ≡ [] → AllByRecursion (λ other. is_eq (instance_cmp (id, row) other) ≡ false) entries) → AllByRecursion (λ other. is_eq (instance_cmp (id, row) other) ≡ false) (entry ∷ entries)
    go true is none more = absurd (cc)
    go false is none more = (is_eq-slice_cmp id entry.0 ∙ bytes_back entry.0 id is, more none)

-- ---- the statements

cast_row : (entry : InstanceEntry) → cast_all columns_of_instances (instance_row entry) ≡ instance_row entry
cast_row entry = rw (cast_int (pos (standing_number entry.1.standing)), cast_int (pos (busy_number entry.1.busy)), cast_int (pos entry.1.last_number)) refl

updated_row : (id : List ℕ) (row : InstanceRow) (stored : Row) (entry : InstanceEntry) → instance_cells stored ≡ instance_row entry
    → cast_all columns_of_instances (eval_all updated_cells (instance_row (id, row) ∷ stored ∷ [])) ≡ instance_row (with_row row entry)
updated_row id row stored entry is =
    let kept : column stored 1 ≡ Text entry.0 = ap (λ cells. column cells 0) is in
    rw (kept, cast_int (pos (standing_number row.standing)), cast_int (pos (busy_number row.busy)), cast_int (pos row.last_number)) refl

module _ (old new : State) (count : ℕ) (tables : HasTables old.now) (id : List ℕ) (row : InstanceRow) where
  abbrev entries : List Entry
  entries = entries_in old.now.trees

  abbrev instances : List InstanceEntry
  instances = instances_in old.now.trees

  abbrev bindings : List BindingEntry
  bindings = bindings_in old.now.trees

  pub adds_instance : filter (is_instance id) instances ≡ [] → HaveUtf8Texts (instance_row (id, row)) → Executes insert_instance (instance_row (id, row)) old new (Ok count) → Gives old new entries (insert_sorted instance_cmp (id, row) instances) bindings
  adds_instance none texts h =
      let params = instance_row (id, row) in
      let held = tables.holds in
      let w = runs_as insert_instance params old new second_schema tables.schema _ insert_instance_is.0 insert_instance_is.1 count h in
      let did = insert_does old.step_limit (mode_of old) params old.now new.now w.tally (statement_of insert_instance (understood second_schema insert_instance)) second_schema 2 (codes "instances") 3 columns_of_instances (1 ∷ []) ((1 ∷ []) ∷ []) tables.schema refl (λ _ _. refl)
      insert_instance_terms 11 params refl w.changed in (
        did.0,
        record {
          format = subst (λ r. Stores version_cells version_row nat_cmp r (2 ∷ [])) (sym (did.1.tables.0 (λ e. absurd (omega (arith, e))))) held.format;
          orders = subst (λ r. Stores order_cells entry_row entry_cmp r entries) (sym (did.1.tables.1.0 (λ e. absurd (omega (arith, e))))) held.orders;
          instances = insert_stores second_schema _ old.now.trees new.now.trees (codes "instances") 3 columns_of_instances (1 ∷ []) ((1 ∷ []) ∷ []) instance_cmp instance_total instance_cells instance_row (id, row) instances (λ _. refl) (cast_row (id, row)) (key_free id row instances none) texts did.1 held.instances;
          bindings = subst (λ r. Stores binding_cells binding_row binding_cmp r bindings) (sym (did.1.tables.1.1.1.0 (λ e. absurd (omega (arith, e))))) held.bindings;
        },
        w.sound,
        did.1.tables.1.1.1.1.0 (λ e. absurd (omega (arith, e))),
      )

  pub updates_instance : HaveUtf8Texts (instance_row (id, row)) → Executes update_instance (instance_row (id, row)) old new (Ok count) → Gives old new entries (update_where (is_instance id) (with_row row) instances) bindings
  updates_instance texts h =
      let params = instance_row (id, row) in
      let held = tables.holds in
      let w = runs_as update_instance params old new second_schema tables.schema _ update_instance_is.0 update_instance_is.1 count h in
      let did = update_does old.step_limit (mode_of old) params old.now new.now w.tally (statement_of update_instance (understood second_schema update_instance)) second_schema 2 (codes "instances") 3 columns_of_instances (1 ∷ []) ((1 ∷ []) ∷ []) tables.schema refl (λ _ _. refl)
      update_instance_query w.changed in
      let applied = did.2.1 in (
        did.2.0,
        record {
          format = subst (λ r. Stores version_cells version_row nat_cmp r (2 ∷ [])) (sym (applied.tables.0 (λ e. absurd (omega (arith, e))))) held.format;
          orders = subst (λ r. Stores order_cells entry_row entry_cmp r entries) (sym (applied.tables.1.0 (λ e. absurd (omega (arith, e))))) held.orders;
          instances = update_stores second_schema _ old.now.trees new.now.trees (codes "instances") 3 columns_of_instances (1 ∷ []) ((1 ∷ []) ∷ []) instance_cmp instance_total instance_cells instance_row (overlay old.now.trees []) refl params (is_at 1 0 ∷ [])
              (is_instance id) (λ _. refl) (λ entry. rw (same_text entry.0 id) (and_true _)) (one_id id) (with_row row) (row_keeps (is_instance id) row) updated_cells (λ _ _. refl)
              (λ stored entry is hits. updated_row id row stored entry is) (λ entry hits kept. (kept.0, texts.1)) instances did.0 did.1 held.instances applied;
          bindings = subst (λ r. Stores binding_cells binding_row binding_cmp r bindings) (sym (applied.tables.1.1.1.0 (λ e. absurd (omega (arith, e))))) held.bindings;
        },
        w.sound,
        applied.tables.1.1.1.1.0 (λ e. absurd (omega (arith, e))),
      )

-- ---- the query

hit_is : (id : List ℕ) (entry : InstanceEntry) (entries : List InstanceEntry) → filter (is_instance id) entries ≡ entry ∷ [] → is_instance id entry ≡ true
hit_is id entry [] one = absurd (cc)
hit_is id entry (first ∷ entries) one = go (is_instance id first) refl one (hit_is id entry entries)
  where
    go : (b : Bool) → is_instance id first ≡ b → cond b (first ∷ filter (is_instance id) entries) (filter (is_instance id) entries) ≡ entry ∷ [] → (filter (is_instance id) entries ≡ entry ∷ [] → is_instance id entry ≡ true) → is_instance id entry ≡ true
    go true is one more = let same : first ≡ entry = cc in subst (λ e. is_instance id e ≡ true) same is
    go false is one more = more one

row_told : (id : List ℕ) (entry : InstanceEntry) → bare_row entry.1 ≡ entry.1 → is_instance id entry ≡ true → entry ∷ [] ≡ map (λ (row : InstanceRow). (id, row)) (instance_row_decoded (instance_row entry) ∷ [])
row_told id entry bare is = same entry.0 entry.1 (same_bytes entry.0 id is) (ap (λ (e : InstanceEntry). e.1) (row_told_back entry bare))
  where
    same : (key : List ℕ) (row : InstanceRow) {told : InstanceRow} → key ≡ id → told ≡ row → ◌≡◌ {A = List InstanceEntry} ((key, row) ∷ []) ((id, told) ∷ [])
    same key row is told = rw (is, told) refl

one_row : (id : List ℕ) (instances : List InstanceEntry) (rows : List Row) → AreBareRows instances → rows ≡ map instance_row (filter (is_instance id) instances)
    → (filter (is_instance id) instances ≡ []) ⊎ ((entry : InstanceEntry) × (filter (is_instance id) instances ≡ entry ∷ [])) → IsRowOf id (first_told rows) instances
one_row id instances rows bare is (inl none) = rw (is, none) refl
one_row id instances rows bare is (inr one) =
    let alone = subst AreBareRows one.1 (all_filtered _ (is_instance id) instances bare) in
    rw (is, one.1) (row_told id one.0 alone.0 (hit_is id one.0 instances one.1))

pub shows_instance : (old new : State) (tables : HasTables old.now) (id : List ℕ) (rows : List Row) → Shown select_instance (Text id ∷ []) old new rows → IsRowOf id (first_told rows) (instances_in old.now.trees)
shows_instance old new tables id rows h =
    let params = Text id ∷ [] in
    let instances = instances_in old.now.trees in
    let read = reads_as select_instance params old new second_schema tables.schema _ select_instance_is.0 select_instance_is.2 select_instance_is.1 rows h in
    one_row id instances rows (instances_bare old.now.trees)
    (one_answer 3 (is_at 1 0 ∷ []) instance_cells_read by_instance every (overlay old.now.trees []) params instance_cells instance_row instance_cmp instance_total (is_instance id)
    (λ _. refl) (λ _. refl) (at_id id []) (λ a b less. by_id a b ∙ less) instances rows tables.holds.instances (read.answer Null))
    (one_hit instance_cmp instance_total (is_instance id) (one_id id) instances tables.holds.instances.rising)

-- the parameters that show a row
pub row_params : (entry : InstanceEntry) {phase busy : ℕ} {service plan organization space parameters maintenance : List ℕ}
    → phase ≡ standing_number entry.1.standing → busy ≡ busy_number entry.1.busy → service ≡ (attributes_shown entry.1.standing).service → plan ≡ (attributes_shown entry.1.standing).plan → organization ≡ (attributes_shown entry.1.standing).place → space ≡ (attributes_shown entry.1.standing).spot → parameters ≡ (attributes_shown entry.1.standing).parameters → maintenance ≡ (attributes_shown entry.1.standing).maintenance
    → Text entry.0 ∷ Int (pos phase) ∷ Int (pos busy) ∷ Int (pos entry.1.last_number) ∷ Text service ∷ Text plan ∷ Text organization ∷ Text space ∷ Text parameters ∷ Text maintenance ∷ [] ≡ instance_row entry
row_params entry is-phase is-busy is-service is-plan is-organization is-space is-parameters is-maintenance = rw (is-phase, is-busy, is-service, is-plan, is-organization, is-space, is-parameters, is-maintenance) refl
