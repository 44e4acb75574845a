-- The rows of well-formed lives, whatever the version, against those of some instances.
use Rattle.std.proofs.Common.{◌≡◌, ℕ, Bool, true, false, List, [], ◌++◌, map, filter, refl, sym, ap, subst, ◌∙◌}
use Rattle.std.specs.Prelude.{◌↔◌}
use Rattle.std.specs.List.{AllByRecursion}
use Rattle.sqlite.specs.declared.types.Value.{Value}
use Rattle.sqlite.specs.declared.types.Value.TheVariants.{Text}
use Rattle.sqlite.specs.Effect.{Database}
use Rattle.sqlite.specs.Order.{Row, column}
use Rattle.sqlite.specs.Tree.{Trees}
use Rattle.sqlite_keyed.specs.Lists.{sort_by}
use Rattle.sqlite_keyed.proofs.ListLemmas.{all-append, all-filter, all_of, all_weaker, filter_all, filter_none}
use Rattle.osb_orders.specs.IsLife.{IsLives}
use Rattle.osb_audit.specs.declared.entry.BindingEntry.{BindingEntry}
use Rattle.osb_audit.specs.Orders.{Entry, entry_cmp, lives_in}
use Rattle.osb_audit.specs.Instances.{InstanceEntry, instance_cmp}
use Rattle.osb_audit.specs.Bindings.{binding_cmp}
use Rattle.osb_audit.specs.Audit.{AreRowsOfLives}
use Rattle.osb_audit.proofs.RisingLemmas.{entries_total as entry_total, instances_total as instance_total, bindings_total as binding_total}
use Rattle.osb_joined.specs.declared.entry.ContextEntry.{ContextEntry}
use Rattle.osb_joined.specs.Contexts.{AreRising, contexts_of}
use Rattle.osb_joined.proofs.LivesLemmas.{contexts_rise, numbered}
use Rattle.osb_rows.specs.Rows.{Stores}
use Rattle.osb_contexts.specs.Format.{HoldsVersion}
use Rattle.osb_contexts.specs.Pieces.{beyond, is_between, is_row_between, piece, AreNamed}
use Rattle.osb_contexts.proofs.SortLemmas.{none_stored}
use Rattle.osb_statements.specs.Bindings.{binding_cells, binding_row}
use Rattle.osb_statements.specs.Instances.{instance_cells, instance_row}
use Rattle.osb_statements.specs.Pieces.{AreSeparateRows, StoreRows, HaveContexts}
use Rattle.osb_statements.specs.Read.{AreOrdersOf, AreInstancesOf, AreBindingsOf}
use Rattle.osb_statements.specs.Stored.{AreBare, AreBareRows, order_cells, entry_decoded, entry_row, entries_in, instances_in, bindings_in, bare_lives_in}
use Rattle.osb_statements.specs.StoredLives.{StoreFirst}
use Rattle.osb_statements.proofs.BareLemmas.{stored_bare, instances_bare}
use Rattle.osb_statements.proofs.PieceLemmas.{rows_of_none, rows_of_some, rows_of_both, contexts_in_turn}
use Rattle.osb_statements.proofs.SortLemmas.{same_bare, same_rows, same_bindings, entries_are, instances_are, bindings_are}
use Rattle.osb_statements.proofs.StoredLivesLemmas.{rises, stored_list}
use Rattle.osb_statements.proofs.StoredPieceLemmas.{above, all_up_to, all_above, orders_both, instances_both, bindings_both, named_id, no_orders, no_instances, no_bound, nothing_between, rows_of_ids, stores_some}
use Rattle.osb_statements.proofs.WriteLemmas.{no_contexts_of}

-- ---- the lists that trees hold

module _ (db : Trees) where
  -- are those of well-formed lives
  pub whole_rows : StoreRows db → AreRowsOfLives (entries_in db) (instances_in db) (bindings_in db)
  whole_rows it = (
    record {
      orders_rise = rises entry_cmp (entries_in db) it.holds.orders.rising;
      instances_rise = rises instance_cmp (instances_in db) it.holds.instances.rising;
      bindings_rise = rises binding_cmp (bindings_in db) it.holds.bindings.rising;
    },
    record { lives = it.lives; instances_stand = it.standing.instances; bindings_stand = it.standing.bindings },
  )

  module _ (orders : List Entry) (instances : List InstanceEntry) (bindings : List BindingEntry) where
    -- and lists that are so are held as such rows
    pub rows_stored : Stores order_cells entry_row entry_cmp (db 1) orders → Stores instance_cells instance_row instance_cmp (db 3) instances → Stores binding_cells binding_row binding_cmp (db 5) bindings → AreBare orders → AreBareRows instances → AreRowsOfLives orders instances bindings → StoreRows db
    rows_stored of_orders of_instances of_bindings bare bare_rows whole =
        let is_orders = entries_are db orders bare of_orders in
        let is_instances = instances_are db instances bare_rows of_instances in
        let is_bindings = bindings_are db bindings of_bindings in record {
          holds = record {
            orders = subst (Stores order_cells entry_row entry_cmp (db 1)) (sym is_orders) of_orders;
            instances = subst (Stores instance_cells instance_row instance_cmp (db 3)) (sym is_instances) of_instances;
            bindings = subst (Stores binding_cells binding_row binding_cmp (db 5)) (sym is_bindings) of_bindings;
          };
          lives = subst IsLives (sym (ap lives_in is_orders)) whole.1.lives;
          standing = record { instances = rw (is_orders, is_instances) whole.1.instances_stand; bindings = rw (is_orders, is_bindings) whole.1.bindings_stand };
        }

    module _ (read_orders : AreOrdersOf db orders) (read_instances : AreInstancesOf db instances) (read_bindings : AreBindingsOf db bindings) where
      pub rows_read : AreRowsOfLives orders instances bindings → StoreRows db
      rows_read whole =
          rows_stored
          (stored_list entry_cmp order_cells entry_row (db 1) orders read_orders.0 whole.0.orders_rise)
          (stored_list instance_cmp instance_cells instance_row (db 3) instances read_instances.0 whole.0.instances_rise)
          (stored_list binding_cmp binding_cells binding_row (db 5) bindings read_bindings whole.0.bindings_rise)
          read_orders.1 read_instances.1 whole

      orders_are : StoreRows db → entries_in db ≡ orders
      orders_are it = same_bare (entries_in db) orders (stored_bare db) read_orders.1 (read_orders.0.only (entries_in db) it.holds.orders)

      pub read_rows : StoreRows db → AreRowsOfLives orders instances bindings
      read_rows it =
          let is_instances = same_rows (instances_in db) instances (instances_bare db) read_instances.1 (read_instances.0.only (instances_in db) it.holds.instances) in
          let is_bindings = same_bindings (bindings_in db) bindings (read_bindings.only (bindings_in db) it.holds.bindings) in
          rw (orders_are it, is_instances, is_bindings) at (whole_rows it)

      -- with the contexts that were gathered
      pub contexts_gathered : (contexts : List ContextEntry) → AreRowsOfLives orders instances bindings → contexts ≡ contexts_of (lives_in orders) → HaveContexts db contexts
      contexts_gathered contexts whole are = let it = rows_read whole in record { rows = it; are = are ∙ ap (λ entries. contexts_of (lives_in entries)) (sym (orders_are it)) }

  -- ---- each row has the id of an instance

  module _ (it : StoreRows db) where
    pub orders_have_ids : AreNamed (db 1)
    orders_have_ids =
        rows_of_ids order_cells entry_row entry_cmp (λ (entry : Entry). entry.0) (λ _. refl) (λ _. refl) (db 1) (is_between [] beyond) (db 1) (entries_in db) it.holds.orders
        (all_weaker _ _ (λ entry is. named_id entry.0 is) (entries_in db) (no_orders (entries_in db) (instances_in db) (bindings_in db) (whole_rows it)))

    pub instance_ids : AllByRecursion (λ (entry : InstanceEntry). is_between [] beyond (Text entry.0) ≡ true) (instances_in db)
    instance_ids = all_weaker _ _ (λ (entry : InstanceEntry) is. named_id entry.0 is) (instances_in db) (no_instances (entries_in db) (instances_in db) (bindings_in db) (whole_rows it))

    pub instances_have_ids : AreNamed (db 3)
    instances_have_ids = rows_of_ids instance_cells instance_row instance_cmp (λ (entry : InstanceEntry). entry.0) (λ _. refl) (λ _. refl) (db 3) (is_between [] beyond) (db 3) (instances_in db) it.holds.instances instance_ids

    pub bindings_have_ids : AreNamed (db 5)
    bindings_have_ids =
        rows_of_ids binding_cells binding_row binding_cmp (λ (entry : BindingEntry). entry.instance) (λ _. refl) (λ _. refl) (db 5) (is_between [] beyond) (db 5) (bindings_in db) it.holds.bindings
        (all_weaker _ _ (λ entry is. named_id entry.instance is) (bindings_in db) (no_bound (entries_in db) (instances_in db) (bindings_in db) (whole_rows it)))

-- trees with the same rows store the same
pub rows_as : (a b : Trees) → a 1 ≡ b 1 → a 3 ≡ b 3 → a 5 ≡ b 5 → StoreRows a → StoreRows b
rows_as a b orders instances bindings it =
    rows_stored b (entries_in a) (instances_in a) (bindings_in a)
    (subst (λ rows. Stores order_cells entry_row entry_cmp rows (entries_in a)) orders it.holds.orders)
    (subst (λ rows. Stores instance_cells instance_row instance_cmp rows (instances_in a)) instances it.holds.instances)
    (subst (λ rows. Stores binding_cells binding_row binding_cmp rows (bindings_in a)) bindings it.holds.bindings)
    (stored_bare a) (instances_bare a) (whole_rows a it)

abbrev lives_of_rows : List Row → List ContextEntry
lives_of_rows rows = contexts_of (lives_in (sort_by entry_cmp (map entry_decoded (map order_cells rows))))

-- the contexts of the lives depend on the rows of orders
pub contexts_as : (a b : Trees) → a 1 ≡ b 1 → contexts_of (bare_lives_in a) ≡ contexts_of (bare_lives_in b)
contexts_as a b orders = ap lives_of_rows orders

-- ---- pieces

module _ (db : Trees) (after : List ℕ) (to : Value) where
  -- where the rows are those of lives, those of some instances are
  pub rows_some : StoreRows db → StoreRows (piece after to db)
  rows_some it =
      let chosen = λ (id : List ℕ). is_between after to (Text id) in
      rows_stored (piece after to db) (filter (λ (entry : Entry). chosen entry.0) (entries_in db)) (filter (λ (entry : InstanceEntry). chosen entry.0) (instances_in db)) (filter (λ (entry : BindingEntry). chosen entry.instance) (bindings_in db))
      (stores_some order_cells entry_row entry_cmp (λ (entry : Entry). entry.0) (λ _. refl) (λ _. refl) (db 1) entry_total after to (entries_in db) it.holds.orders)
      (stores_some instance_cells instance_row instance_cmp (λ (entry : InstanceEntry). entry.0) (λ _. refl) (λ _. refl) (db 3) instance_total after to (instances_in db) it.holds.instances)
      (stores_some binding_cells binding_row binding_cmp (λ (entry : BindingEntry). entry.instance) (λ _. refl) (λ _. refl) (db 5) binding_total after to (bindings_in db) it.holds.bindings)
      (all-filter _ _ (entries_in db) (stored_bare db)) (all-filter _ _ (instances_in db) (instances_bare db))
      (rows_of_some chosen (entries_in db) (instances_in db) (bindings_in db) (whole_rows db it))

module _ (db : Trees) (cut : AreSeparateRows db) (a b : List ℕ) (c : Value) (low : above (Text a) (Text b) ≡ false) (high : above (Text b) c ≡ false) (one : StoreRows (piece a (Text b) db)) (other : StoreRows (piece b c db)) where
  abbrev first : Trees
  first = piece a (Text b) db

  abbrev second : Trees
  second = piece b c db

  bare_orders : AreBare (entries_in first ++ entries_in second)
  bare_orders = all-append _ (entries_in first) (entries_in second) (stored_bare first) (stored_bare second)

  -- where those of two pieces are, those of both are
  pub rows_both : StoreRows (piece a c db)
  rows_both =
      rows_stored (piece a c db) (entries_in first ++ entries_in second) (instances_in first ++ instances_in second) (bindings_in first ++ bindings_in second)
      (orders_both db cut a b c low high one.holds other.holds) (instances_both db cut a b c low high one.holds other.holds) (bindings_both db cut a b c low high one.holds other.holds)
      bare_orders (all-append _ (instances_in first) (instances_in second) (instances_bare first) (instances_bare second))
      (rows_of_both b (entries_in first) (entries_in second) (instances_in first) (instances_in second) (bindings_in first) (bindings_in second)
      (all_up_to db cut a b c low high one.holds other.holds) (all_above db cut a b c low high one.holds other.holds) (whole_rows first one) (whole_rows second other))

  -- and the contexts of both are those of the first and then those of the second
  pub contexts_both : contexts_of (bare_lives_in (piece a c db)) ≡ contexts_of (bare_lives_in first) ++ contexts_of (bare_lives_in second)
  contexts_both =
      let are = entries_are (piece a c db) (entries_in first ++ entries_in second) bare_orders (orders_both db cut a b c low high one.holds other.holds) in
      ap (λ entries. contexts_of (lives_in entries)) are
      ∙ contexts_in_turn b (entries_in first) (entries_in second) (all_up_to db cut a b c low high one.holds other.holds).0 (all_above db cut a b c low high one.holds other.holds).0 one.lives other.lives (subst IsLives (ap lives_in are) rows_both.lives)

  pub both_rise : AreRising (contexts_of (bare_lives_in first) ++ contexts_of (bare_lives_in second))
  both_rise = subst AreRising contexts_both (contexts_rise _ (numbered _ rows_both.lives))

module _ (db : Trees) where
  none_between : (rows : List Row) → filter (is_row_between [] (Text [])) rows ≡ []
  none_between rows = filter_none (is_row_between [] (Text [])) rows (all_of _ (λ row. nothing_between [] (column row 1)) rows)

  -- nothing is up to the empty id
  pub rows_none : StoreRows (piece [] (Text []) db)
  rows_none =
      rows_stored (piece [] (Text []) db) [] [] [] (none_stored order_cells entry_row entry_cmp _ (none_between (db 1))) (none_stored instance_cells instance_row instance_cmp _ (none_between (db 3))) (none_stored binding_cells binding_row binding_cmp _ (none_between (db 5)))
      tt tt rows_of_none

  pub contexts_none : contexts_of (bare_lives_in (piece [] (Text []) db)) ≡ []
  contexts_none = ap lives_of_rows (none_between (db 1)) ∙ no_contexts_of

  -- the rows that are named are all
  module _ (cut : AreSeparateRows db) where
    pub rows_whole : StoreRows (piece [] beyond db) → StoreRows db
    rows_whole =
        rows_as (piece [] beyond db) db
        (filter_all (is_row_between [] beyond) (db 1) cut.orders.named)
        (filter_all (is_row_between [] beyond) (db 3) cut.instances.named)
        (filter_all (is_row_between [] beyond) (db 5) cut.bindings.named)

    pub contexts_whole : contexts_of (bare_lives_in (piece [] beyond db)) ≡ contexts_of (bare_lives_in db)
    contexts_whole = contexts_as (piece [] beyond db) db (filter_all (is_row_between [] beyond) (db 1) cut.orders.named)

-- ---- version 1

pub first_rows : (db : Trees) → StoreFirst db → StoreRows db
first_rows db it = record { holds = record { orders = it.holds.orders; instances = it.holds.instances; bindings = it.holds.bindings }; lives = it.lives; standing = it.standing }

pub rows_first : (db : Trees) → HoldsVersion 1 db → StoreRows db → StoreFirst db
rows_first db version it = record { holds = record { format = version; orders = it.holds.orders; instances = it.holds.instances; bindings = it.holds.bindings }; lives = it.lives; standing = it.standing }

-- so where lives of version 1 are stored, an answer that all rows are named is true
module _ (old now : Database) (same : now ≡ old) (it : StoreFirst old.trees) (answer : Bool) where
  pub first_have_ids : (answer ≡ true) ↔ (AreNamed (now.trees 1) × AreNamed (now.trees 3)) → answer ≡ true
  first_have_ids says = says.1 (subst (λ (d : Database). AreNamed (d.trees 1) × AreNamed (d.trees 3)) (sym same) (orders_have_ids old.trees (first_rows old.trees it), instances_have_ids old.trees (first_rows old.trees it)))

  pub others_have_ids : (answer ≡ true) ↔ AreNamed (now.trees 5) → answer ≡ true
  others_have_ids says = says.1 (subst (λ (d : Database). AreNamed (d.trees 5)) (sym same) (bindings_have_ids old.trees (first_rows old.trees it)))
