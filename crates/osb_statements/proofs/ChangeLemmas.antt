-- What the statements do to the entries.
use Rattle.std.proofs.Common.{◌≡◌, ℕ, pos, List, [], ◌∷◌, codes, false, Ok, refl, sym, ap, subst, arith}
use Rattle.std.specs.List.{AllByRecursion}
use Rattle.std.specs.Ordering.{nat_cmp, is_eq}
use Rattle.sqlite.specs.declared.types.Value.TheVariants.{Int, Text}
use Rattle.sqlite.specs.Order.{Row, column}
use Rattle.sqlite.specs.Term.{eval_all}
use Rattle.sqlite.specs.Cast.{cast_all}
use Rattle.sqlite.specs.Program.{overlay}
use Rattle.sqlite.specs.Listing.{understood}
use Rattle.sqlite.specs.Effect.{IsDatabase}
use Rattle.sqlite.specs.State.{State, mode_of, Executes}
use Rattle.sqlite.proofs.Callers.{runs_as, statement_of}
use Rattle.sqlite_keyed.specs.Lists.{insert_sorted, update_where}
use Rattle.osb_orders.specs.declared.order.Outcome.{Outcome}
use Rattle.osb_orders.specs.Orders.{kind_number, state_number}
use Rattle.osb_rows.specs.Rows.{Stores, HaveUtf8Texts}
use Rattle.osb_tables.specs.Tables.{columns_of_orders, second_schema}
use Rattle.osb_audit.specs.Instances.{InstanceEntry, instance_cmp}
use Rattle.osb_statements.specs.Instances.{instance_cells, instance_row}
use Rattle.osb_audit.specs.declared.entry.BindingEntry.{BindingEntry}
use Rattle.osb_audit.specs.Bindings.{binding_cmp}
use Rattle.osb_statements.specs.Bindings.{binding_cells, binding_row}
use Rattle.osb_audit.specs.Orders.{Entry, entry_cmp}
use Rattle.osb_contexts.specs.Format.{version_row, version_cells}
use Rattle.osb_statements.specs.Stored.{Holds, entry_row, order_cells}
use Rattle.osb_statements.proofs.Texts.{insert_order, insert_order_terms, insert_order_is, finish_order, finish_query, finished_cells, finish_order_is}
use Rattle.osb_rows.proofs.StatementLemmas.{insert_does, update_does}
use Rattle.osb_rows.proofs.TableLemmas.{cast_int, insert_stores, update_stores}
use Rattle.osb_statements.proofs.TestLemmas.{is_keyed, at_key, one_keyed, entry_ended, ended_keeps}
use Rattle.osb_audit.proofs.RisingLemmas.{entries_total as entry_total}
use Rattle.osb_contexts.proofs.Texts.{is_at}

-- the schema stays, the trees hold these entries, and the contexts stay
abbrev pub Gives : State → State → List Entry → List InstanceEntry → List BindingEntry → Type 0
Gives old new entries instances bindings = (new.now.schema ≡ second_schema) × Holds 2 entries instances bindings new.now.trees × IsDatabase new.now × (new.now.trees 7 ≡ old.now.trees 7)

-- no entry has its key
abbrev pub IsNew : Entry → List Entry → Type 0
IsNew entry entries = AllByRecursion (λ other. is_eq (entry_cmp entry other) ≡ false) entries

-- what a row that shows an entry has in the columns that stay
kept_cells : (shown : Row) (entry : Entry) → order_cells shown ≡ entry_row entry
    → (column shown 1 ≡ Text entry.0) × (column shown 2 ≡ Int (pos entry.1.number)) × (column shown 3 ≡ Int (pos (kind_number entry.1.kind))) × (column shown 4 ≡ Text entry.1.binding) × (column shown 5 ≡ Text entry.1.attributes.service) × (column shown 6 ≡ Text entry.1.attributes.plan) × (column shown 7 ≡ Text entry.1.attributes.place) × (column shown 8 ≡ Text entry.1.attributes.spot) × (column shown 9 ≡ Text entry.1.attributes.parameters) × (column shown 10 ≡ Text entry.1.attributes.maintenance)
kept_cells shown entry is = (ap (λ cells. column cells 0) is, ap (λ cells. column cells 1) is, ap (λ cells. column cells 2) is, ap (λ cells. column cells 3) is, ap (λ cells. column cells 4) is, ap (λ cells. column cells 5) is, ap (λ cells. column cells 6) is, ap (λ cells. column cells 7) is, ap (λ cells. column cells 8) is, ap (λ cells. column cells 9) is)

ended_row : (params : Row) (outcome : Outcome) (row : Row) (entry : Entry) → column params 2 ≡ Int (pos (state_number outcome.state)) → column params 3 ≡ Text outcome.description → column params 4 ≡ Text outcome.credentials → order_cells row ≡ entry_row entry
    → cast_all columns_of_orders (eval_all finished_cells (params ∷ row ∷ [])) ≡ entry_row (entry_ended outcome entry)
ended_row params outcome row entry state description credentials is =
    let kept = kept_cells row entry is in
    rw (state, description, credentials, kept.0, kept.1, kept.2, kept.3, kept.4, kept.5, kept.6, kept.7, kept.8, kept.9, cast_int (pos entry.1.number), cast_int (pos (kind_number entry.1.kind)), cast_int (pos (state_number outcome.state))) refl

-- and its texts
ended_texts : (outcome : Outcome) (entry : Entry) → HaveUtf8Texts (entry_row entry) → HaveUtf8Texts (Text outcome.description ∷ Text outcome.credentials ∷ []) → HaveUtf8Texts (entry_row (entry_ended outcome entry))
ended_texts outcome entry kept ended =
    let about = kept.1.1.1 in
    (kept.0, (tt, (tt, (about.0, (about.1.0, (about.1.1.0, (about.1.1.1.0, (about.1.1.1.1.0, (about.1.1.1.1.1.0, (about.1.1.1.1.1.1.0, (tt, ended)))))))))))

module _ (old new : State) (count : ℕ) (has : old.now.schema ≡ second_schema) where
  module _ (entries : List Entry) (instances : List InstanceEntry) (bindings : List BindingEntry) (held : Holds 2 entries instances bindings old.now.trees) where
    pub adds_order : (entry : Entry) → IsNew entry entries → HaveUtf8Texts (entry_row entry) → Executes insert_order (entry_row entry) old new (Ok count) → Gives old new (insert_sorted entry_cmp entry entries) instances bindings
    adds_order entry fresh texts h =
        let order = entry.1 in
        let w = runs_as insert_order (entry_row entry) old new second_schema has _ insert_order_is.0 insert_order_is.1 count h in
        let did = insert_does old.step_limit (mode_of old) (entry_row entry) old.now new.now w.tally (statement_of insert_order (understood second_schema insert_order)) second_schema 1 (codes "orders") 1 columns_of_orders (1 ∷ 2 ∷ []) ((1 ∷ 2 ∷ []) ∷ []) has refl (λ _ _. refl)
        insert_order_terms 14 (entry_row entry) refl w.changed in (
          did.0,
          record {
            format = subst (λ r. Stores version_cells version_row nat_cmp r (2 ∷ [])) (sym (did.1.tables.0 (λ e. absurd (omega (arith, e))))) held.format;
            orders = insert_stores second_schema _ old.now.trees new.now.trees (codes "orders") 1 columns_of_orders (1 ∷ 2 ∷ []) ((1 ∷ 2 ∷ []) ∷ []) entry_cmp entry_total order_cells entry_row entry entries (λ _. refl)
                (rw (cast_int (pos order.number), cast_int (pos (kind_number order.kind)), cast_int (pos (state_number order.outcome.state))) refl) fresh texts did.1 held.orders;
            instances = subst (λ r. Stores instance_cells instance_row instance_cmp r instances) (sym (did.1.tables.1.1.0 (λ e. absurd (omega (arith, e))))) held.instances;
            bindings = subst (λ r. Stores binding_cells binding_row binding_cmp r bindings) (sym (did.1.tables.1.1.1.0 (λ e. absurd (omega (arith, e))))) held.bindings;
          },
          w.sound,
          did.1.tables.1.1.1.1.0 (λ e. absurd (omega (arith, e))),
        )

    pub ends_order : (id : List ℕ) (number : ℕ) (outcome : Outcome) → HaveUtf8Texts (Text outcome.description ∷ Text outcome.credentials ∷ []) → Executes finish_order (Text id ∷ Int (pos number) ∷ Int (pos (state_number outcome.state)) ∷ Text outcome.description ∷ Text outcome.credentials ∷ []) old new (Ok count)
        → Gives old new (update_where (is_keyed id number) (entry_ended outcome) entries) instances bindings
    ends_order id number outcome texts h =
        let params = Text id ∷ Int (pos number) ∷ Int (pos (state_number outcome.state)) ∷ Text outcome.description ∷ Text outcome.credentials ∷ [] in
        let w = runs_as finish_order params old new second_schema has _ finish_order_is.0 finish_order_is.1 count h in
        let did = update_does old.step_limit (mode_of old) params old.now new.now w.tally (statement_of finish_order (understood second_schema finish_order)) second_schema 1 (codes "orders") 1 columns_of_orders (1 ∷ 2 ∷ []) ((1 ∷ 2 ∷ []) ∷ []) has refl (λ _ _. refl)
        finish_query w.changed in
        let applied = did.2.1 in (
          did.2.0,
          record {
            format = subst (λ r. Stores version_cells version_row nat_cmp r (2 ∷ [])) (sym (applied.tables.0 (λ e. absurd (omega (arith, e))))) held.format;
            orders = update_stores second_schema _ old.now.trees new.now.trees (codes "orders") 1 columns_of_orders (1 ∷ 2 ∷ []) ((1 ∷ 2 ∷ []) ∷ []) entry_cmp entry_total order_cells entry_row (overlay old.now.trees []) refl params (is_at 1 0 ∷ is_at 2 1 ∷ [])
                (is_keyed id number) (λ _. refl) (at_key id number (Int (pos (state_number outcome.state)) ∷ Text outcome.description ∷ Text outcome.credentials ∷ [])) (one_keyed id number) (entry_ended outcome) (ended_keeps (is_keyed id number) outcome) finished_cells (λ _ _. refl)
                (λ row entry is hits. ended_row params outcome row entry refl refl refl is) (λ entry hits kept. ended_texts outcome entry kept texts) entries did.0 did.1 held.orders applied;
            instances = subst (λ r. Stores instance_cells instance_row instance_cmp r instances) (sym (applied.tables.1.1.0 (λ e. absurd (omega (arith, e))))) held.instances;
            bindings = subst (λ r. Stores binding_cells binding_row binding_cmp r bindings) (sym (applied.tables.1.1.1.0 (λ e. absurd (omega (arith, e))))) held.bindings;
          },
          w.sound,
          applied.tables.1.1.1.1.0 (λ e. absurd (omega (arith, e))),
        )
