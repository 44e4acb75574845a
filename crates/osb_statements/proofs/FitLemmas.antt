-- The numbers of the rows of well-formed lives have 32 bits.
use Rattle.std.proofs.Common.{◌≡◌, inl, inr, ℕ, ◌<◌, ◌^◌, Bool, true, not, List, [], ◌∷◌, map, filter, sym, ap, subst, arith}
use Rattle.std.specs.List.{AllByRecursion}
use Rattle.std.specs.Option.{option_to_list}
use Rattle.std.proofs.lemmas.Bool.{cases_Bool}
use Rattle.sqlite.specs.Tree.{Trees}
use Rattle.sqlite_keyed.proofs.ListLemmas.{all_both, all_kept, all_map, all_of, all_unmap}
use Rattle.osb_orders.specs.declared.order.Order.{Order}
use Rattle.osb_orders.specs.Lists.{last_from}
use Rattle.osb_orders.specs.Life.{Life}
use Rattle.osb_orders.specs.Lives.{Lives, life_of}
use Rattle.osb_orders.specs.IsLife.{IsLives}
use Rattle.osb_standing.specs.declared.row.InstanceRow.{InstanceRow}
use Rattle.osb_standing.specs.Rows.{row_of}
use Rattle.osb_audit.specs.Orders.{Entry, is_of, lives_in}
use Rattle.osb_audit.specs.Instances.{InstanceEntry, is_instance, InstancesStand}
use Rattle.osb_audit.proofs.RunLemmas.{text_itself}
use Rattle.osb_joined.specs.Join.{context_of_entry, context_of_row, is_of_order, is_of_standing}
use Rattle.osb_joined.specs.Joined.{joined_entry}
use Rattle.osb_joined.proofs.AuditedLemmas.{joined_instance_entry}
use Rattle.osb_contexts.specs.Contexts.{contexts_in, ContextFits}
use Rattle.osb_statements.specs.Pieces.{StoreRows, RowsFit}
use Rattle.osb_statements.specs.Read.{OrderFits, InstanceFits}
use Rattle.osb_statements.specs.Stored.{entries_in, instances_in, bare_lives_in}
use Rattle.osb_statements.specs.StoredLives.{StoreLives}
use Rattle.osb_statements.proofs.LivesLemmas.{life_of_lives}
use Rattle.osb_statements.proofs.NamedLemmas.{low}
use Rattle.osb_statements.proofs.StoredPieceLemmas.{its_orders, its_rows, its_lives, its_join}

-- what holds of each entry of an id, for every id, holds of all
own_all : {E : Type 0} (P : E → Type 0) (has : List ℕ → E → Bool) (key : E → List ℕ) → ((e : E) → has (key e) e ≡ true) → (es : List E) → ((id : List ℕ) → AllByRecursion (λ e. has id e ≡ true → P e) es) → AllByRecursion P es
own_all P has key own [] all = tt
own_all P has key own (e ∷ es) all = ((all (key e)).0 (own e), own_all P has key own es (λ id. (all id).1))

orders_fit : (entries : List Entry) → IsLives (lives_in entries) → AllByRecursion OrderFits entries
orders_fit entries whole =
    own_all OrderFits is_of (λ (entry : Entry). entry.0) (λ entry. text_itself entry.0) entries
    (λ id. all_kept OrderFits (is_of id) entries
    (all_unmap (λ (order : Order). order.number < 2 ^ 32) (λ (entry : Entry). entry.1) (filter (is_of id) entries)
    (subst (AllByRecursion (λ (order : Order). order.number < 2 ^ 32)) (life_of_lives id entries) (low (lives_in entries) id whole))))

last_fits : (order : Order) (later : Life) → AllByRecursion (λ (order : Order). order.number < 2 ^ 32) (order ∷ later) → (last_from order later).number < 2 ^ 32
last_fits order [] fit = fit.0
last_fits order (next ∷ later) fit = last_fits next later fit.1

row_fits : (id : List ℕ) (life : Life) → AllByRecursion (λ (order : Order). order.number < 2 ^ 32) life → AllByRecursion InstanceFits (map (λ (row : InstanceRow). (id, row)) (option_to_list (row_of life)))
row_fits id [] fit = tt
row_fits id (order ∷ later) fit = (last_fits order later fit, tt)

instances_fit : (lives : Lives) (instances : List InstanceEntry) → IsLives lives → InstancesStand lives instances → AllByRecursion InstanceFits instances
instances_fit lives instances whole stand =
    own_all InstanceFits is_instance (λ (entry : InstanceEntry). entry.0) (λ entry. text_itself entry.0) instances
    (λ id. all_kept InstanceFits (is_instance id) instances (subst (AllByRecursion InstanceFits) (sym (stand id)) (row_fits id (life_of lives id) (low lives id whole))))

-- ---- the rows of version 1

pub rows_fit : (db : Trees) → StoreRows db → RowsFit db
rows_fit db it = record { orders = orders_fit (entries_in db) it.lives; instances = instances_fit (bare_lives_in db) (instances_in db) it.lives it.standing.instances }

-- ---- those of version 2

module _ (db : Trees) (it : StoreLives db) where
  joined_fit : AllByRecursion OrderFits (its_orders db it)
  joined_fit = orders_fit (its_orders db it) (its_lives db it).1.lives

  pub lives_fit : RowsFit db
  lives_fit = record {
    orders = all_unmap OrderFits (joined_entry (contexts_in db)) (entries_in db) joined_fit;
    instances = all_unmap InstanceFits (joined_instance_entry (contexts_in db)) (instances_in db) (instances_fit (lives_in (its_orders db it)) (its_rows db it) (its_lives db it).1.lives (its_lives db it).1.instances_stand);
  }

  of_orders : AllByRecursion (λ entry. is_of_order entry ≡ true → ContextFits entry) (contexts_in db)
  of_orders = all_kept ContextFits is_of_order (contexts_in db) (subst (AllByRecursion ContextFits) (sym (its_join db it).orders_with.contexts_are) (all_map ContextFits context_of_entry (its_orders db it) joined_fit))

  of_rows : AllByRecursion (λ entry. is_of_standing entry ≡ true → ContextFits entry) (contexts_in db)
  of_rows =
      all_kept ContextFits is_of_standing (contexts_in db)
      (subst (AllByRecursion ContextFits) (sym (its_join db it).rows_with.contexts_are) (all_map ContextFits context_of_row (its_rows db it) (all_of (λ row. ContextFits (context_of_row row)) (λ row. omega arith) (its_rows db it))))

  pub contexts_fit : AllByRecursion ContextFits (contexts_in db)
  contexts_fit = all_both (λ entry. is_of_order entry ≡ true → ContextFits entry) (λ entry. is_of_standing entry ≡ true → ContextFits entry) ContextFits (λ entry order standing. elim (cases_Bool (is_of_standing entry)) [ inl is ↦ standing is | inr other ↦ order (ap not other) ]) (contexts_in db) of_orders of_rows
