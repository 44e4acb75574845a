-- What the statements do to the lives.
use Rattle.std.proofs.Common.{◌≡◌, ◌≢◌, ℕ, pos, List, [], ◌∷◌, map, length, true, false, true≢false, Ok, Err, Result, OnOk, IsTrue, ◌<◌, refl, sym, ap, subst, ◌∙◌, arith}
use Rattle.std.specs.List.{AllByRecursion, flat_map}
use Rattle.std.specs.FinMap.{empty, entries as rows_of, get-empty, len-entries, len-empty}
use Rattle.std.specs.Prelude.{IfSome, unwrap_or}
use Rattle.std.specs.Option.{option_to_list}
use Rattle.std.specs.Ordering.{nat_cmp}
use Rattle.std.specs.Cmp.Lexicographic.{slice_cmp}
use Rattle.sqlite.specs.declared.types.Value.{Value}
use Rattle.sqlite.specs.declared.types.Value.TheVariants.{Int, Text}
use Rattle.sqlite.specs.declared.error.Error.{Error}
use Rattle.sqlite.specs.State.{State, HasCleanDisk, Executes}
use Rattle.sqlite_keyed.specs.Lists.{insert_sorted, update_where}
use Rattle.osb_orders.specs.declared.order.Outcome.{Outcome}
use Rattle.osb_orders.specs.declared.order.Order.{Order}
use Rattle.osb_orders.specs.declared.order.Change.TheVariants.{Append, Finish}
use Rattle.osb_orders.specs.Orders.{kind_number, state_number}
use Rattle.osb_orders.specs.Life.{Life}
use Rattle.osb_orders.specs.Lives.{life_of}
use Rattle.osb_orders.specs.Changed.{lives_changed}
use Rattle.osb_orders.specs.IsLife.{IsLives, IsInstance, ends_running}
use Rattle.osb_orders.specs.Allowed.{IsFinishable}
use Rattle.osb_audit.specs.Instances.{InstanceEntry}
use Rattle.osb_audit.specs.declared.entry.BindingEntry.{BindingEntry}
use Rattle.osb_audit.specs.Bindings.{binding_entry}
use Rattle.osb_audit.specs.Orders.{Entry, entry_cmp, lives_in}
use Rattle.osb_joined.specs.Contexts.{contexts_of, contexts_of_instance}
use Rattle.osb_rows.specs.Rows.{HaveUtf8Texts}
use Rattle.osb_statements.specs.Stored.{Content, entry_row, entries_in, instances_in, bindings_in}
use Rattle.osb_standing.specs.declared.row.InstanceRow.{InstanceRow}
use Rattle.osb_orders.specs.declared.view.BindingNow.{BindingNow}
use Rattle.osb_standing.specs.Rows.{row_of, bindings_of}
use Rattle.osb_statements.specs.Standing.{IsConsistent}
use Rattle.osb_statements.specs.Steps.{HasTables, IsReady, bare_in}
use Rattle.osb_statements.proofs.StepLemmas.{IsKept, ready_of}
use Rattle.osb_statements.proofs.Texts.{insert_order, finish_order}
use Rattle.osb_statements.proofs.TestLemmas.{is_keyed, entry_ended}
use Rattle.osb_statements.proofs.ChangeLemmas.{Gives, adds_order, ends_order}
use Rattle.osb_statements.proofs.LivesLemmas.{life_of_lives, numbered, append_above, entries_below, key_new, append_lives, end_lives}

pub no_lives : IsLives empty
no_lives id = subst (λ found. IfSome found (IsInstance id)) (sym (get-empty (slice_cmp nat_cmp) id)) tt

no_bindings : (id : List ℕ) → map (binding_entry id) (rows_of (empty {X = BindingNow} {R = slice_cmp nat_cmp})) ≡ []
no_bindings id = none _ (sym (len-entries empty) ∙ len-empty (slice_cmp nat_cmp) BindingNow)
  where
    none : (rows : List (List ℕ × BindingNow)) → length rows ≡ 0 → map (binding_entry id) rows ≡ []
    none [] e = refl
    none (row ∷ rows) e = absurd (omega (arith, e))

pub no_contexts_of : contexts_of empty ≡ []
no_contexts_of = none _ (sym (len-entries empty) ∙ len-empty (slice_cmp nat_cmp) Life)
  where
    none : (instances : List (List ℕ × Life)) → length instances ≡ 0 → flat_map (λ (instance : List ℕ × Life). contexts_of_instance instance.0 instance.1) instances ≡ []
    none [] e = refl
    none (instance ∷ instances) e = absurd (omega (arith, e))

-- the content of new tables
abbrev pub no_content : Content
no_content = record { lives = empty; instances = []; bindings = [] }

-- tables without rows stand for no lives
pub no_standing : IsConsistent no_content
no_standing = record {
  instances = λ id. ap (λ found. map (λ (row : InstanceRow). (id, row)) (option_to_list (row_of (unwrap_or found [])))) (sym (get-empty (slice_cmp nat_cmp) id));
  bindings = λ id. sym (ap (λ found. map (binding_entry id) (rows_of (bindings_of (unwrap_or found [])))) (get-empty (slice_cmp nat_cmp) id) ∙ no_bindings id);
}

-- the tables that were made are ready
pub made_ready : (new : State) (r : Result (Unit {0}) Error) → new.in_transaction ≡ false → (HasCleanDisk new → IsTrue new.is_open → OnOk r (IsKept new)) → OnOk r (IsReady new)
made_ready new (Ok _) ended made = ready_of new (Ok tt) ended made (λ _ _. tt)
made_ready new (Err _) ended made = tt

runs_not_empty : (life : Life) → ends_running life ≡ true → life ≢ []
runs_not_empty life runs none = absurd (true≢false (sym (subst (λ l. ends_running l ≡ true) none runs)))

module _ (old new : State) (count : ℕ) (tables : HasTables old.now) (id : List ℕ) where
  abbrev entries : List Entry
  entries = entries_in old.now.trees

  abbrev instances : List InstanceEntry
  instances = instances_in old.now.trees

  abbrev bindings : List BindingEntry
  bindings = bindings_in old.now.trees

  pub appends : (order : Order) → IsLives (lives_changed (Append order) id (bare_in old)) → HaveUtf8Texts (entry_row (id, order)) → Executes insert_order (entry_row (id, order)) old new (Ok count)
      → Gives old new (insert_sorted entry_cmp (id, order) entries) instances bindings × (lives_in (insert_sorted entry_cmp (id, order) entries) ≡ lives_changed (Append order) id (bare_in old))
  appends order whole texts h =
      let above = entries_below id order entries (subst (AllByRecursion (λ (other : Order). other.number < order.number)) (life_of_lives id entries) (append_above (bare_in old) id order whole)) in
      (adds_order old new count tables.schema entries instances bindings tables.holds (id, order) (key_new id order entries above) texts h, append_lives id order entries tables.holds.orders.rising above)

  pub finishes : (number : ℕ) (outcome : Outcome) → IsLives (bare_in old) → IsFinishable (life_of (bare_in old) id) number outcome
      → HaveUtf8Texts (Text outcome.description ∷ Text outcome.credentials ∷ []) → Executes finish_order (Text id ∷ Int (pos number) ∷ Int (pos (state_number outcome.state)) ∷ Text outcome.description ∷ Text outcome.credentials ∷ []) old new (Ok count)
      → Gives old new (update_where (is_keyed id number) (entry_ended outcome) entries) instances bindings × (lives_in (update_where (is_keyed id number) (entry_ended outcome) entries) ≡ lives_changed (Finish number outcome) id (bare_in old))
  finishes number outcome whole may texts h =
      (ends_order old new count tables.schema entries instances bindings tables.holds id number outcome texts h, end_lives id number outcome entries (numbered (bare_in old) id whole) may.last (runs_not_empty _ may.runs))

-- the parameters that show an entry
pub entry_params : (entry : Entry) {a b c d e f g h i j k l m : Value}
    → a ≡ Text entry.0 → b ≡ Int (pos entry.1.number) → c ≡ Int (pos (kind_number entry.1.kind)) → d ≡ Text entry.1.binding → e ≡ Text entry.1.attributes.service → f ≡ Text entry.1.attributes.plan → g ≡ Text entry.1.attributes.place → h ≡ Text entry.1.attributes.spot → i ≡ Text entry.1.attributes.parameters → j ≡ Text entry.1.attributes.maintenance → k ≡ Int (pos (state_number entry.1.outcome.state)) → l ≡ Text entry.1.outcome.description → m ≡ Text entry.1.outcome.credentials
    → a ∷ b ∷ c ∷ d ∷ e ∷ f ∷ g ∷ h ∷ i ∷ j ∷ k ∷ l ∷ m ∷ [] ≡ entry_row entry
entry_params entry is-a is-b is-c is-d is-e is-f is-g is-h is-i is-j is-k is-l is-m = rw (is-a, is-b, is-c, is-d, is-e, is-f, is-g, is-h, is-i, is-j, is-k, is-l, is-m) refl
