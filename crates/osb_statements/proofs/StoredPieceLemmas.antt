-- What the rows of some instances store, against the rows of all.
use Rattle.std.proofs.Common.{◌≡◌, inl, inr, ℕ, Bool, true, false, not, cond, ◌&&◌, List, [], ◌∷◌, ◌++◌, map, filter, bytes_eq, Ordering, Less, Equal, Greater, is_gt, nat_cmp, true≢false, refl, sym, ap, ap₂, subst, subst₂, ◌∙◌, IsPermutation}
use Rattle.std.specs.Prelude.{◌↔◌, IfSome}
use Rattle.std.specs.List.{AllByRecursion}
use Rattle.std.specs.Option.{option_to_list}
use Rattle.std.specs.FinMap.{entries}
use Rattle.std.specs.List.Sorted.{IsStrictlySortedBy}
use Rattle.std.specs.Cmp.{IsTotalOrder}
use Rattle.std.specs.Ordering.{ordering_reverse}
use Rattle.std.proofs.lemmas.Bool.{and_parts, cases_Bool}
use Rattle.std.proofs.lemmas.List.{map-append}
use Rattle.std.proofs.lemmas.List.Sorted.{IsPermutation-append, IsPermutation-filter_both, IsPermutation-map, IsPermutation-sym, IsPermutation-trans}
use Rattle.sqlite.specs.declared.types.Value.{Value}
use Rattle.sqlite.specs.declared.types.Value.TheVariants.{Text}
use Rattle.sqlite.specs.Order.{Row, column, value_cmp}
use Rattle.sqlite.specs.Tree.{Trees}
use Rattle.sqlite.specs.Effect.{Database}
use Rattle.sqlite_value.proofs.OrderLemmas.{value_cmp_total, value_cmp-Text}
use Rattle.sqlite_trees.specs.Tree.{IsAscending}
use Rattle.sqlite_trees.proofs.ListLemmas.{all-permutation}
use Rattle.sqlite_keyed.proofs.ListLemmas.{all-append, all_both, all-filter, all_kept, all_map, all_unmap, all_weaker, ascending-filter, filter_all, filter_same}
use Rattle.std.specs.Str.{is_utf8}
use Rattle.osb_text.specs.Id.{has_no_controls}
use Rattle.osb_orders.specs.Life.{Life}
use Rattle.osb_orders.specs.IsLife.{IsLives, IsInstance}
use Rattle.osb_standing.specs.declared.row.InstanceRow.{InstanceRow}
use Rattle.osb_standing.specs.Rows.{row_of, bindings_of}
use Rattle.osb_audit.specs.declared.entry.BindingEntry.{BindingEntry}
use Rattle.osb_audit.specs.Orders.{Entry, entry_cmp, is_of, lives_in}
use Rattle.osb_audit.specs.Instances.{InstanceEntry, instance_cmp, is_instance}
use Rattle.osb_audit.specs.Bindings.{binding_cmp, binding_entry, is_bound}
use Rattle.osb_audit.specs.Audit.{AreRowsOfLives}
use Rattle.osb_audit.proofs.LivesLemmas.{life_in, opened, no_bindings, StandsAt, stands_at}
use Rattle.osb_audit.proofs.RisingLemmas.{entries_total as entry_total, instances_total as instance_total, bindings_total as binding_total}
use Rattle.osb_audit.proofs.RunLemmas.{by_bytes, text_itself}
use Rattle.osb_joined.specs.declared.entry.ContextEntry.{ContextEntry}
use Rattle.osb_joined.specs.Contexts.{context_cmp, AreRising, contexts_of}
use Rattle.osb_joined.specs.Joined.{joined_entry, joined_lives}
use Rattle.osb_joined.specs.Join.{context_of_entry, context_of_row, is_of_order, is_of_standing, AreJoined}
use Rattle.osb_joined.specs.Audit.{HaveNoContexts, AreRowsWithContexts}
use Rattle.osb_joined.proofs.ListLemmas.{all_pass, filter_hit, filter_miss, passes_none}
use Rattle.osb_joined.proofs.AuditedLemmas.{joined_instance_entry, lists_orders, lists_instances, lists_rows, lists_join}
use Rattle.osb_joined.proofs.LivesLemmas.{numbered, contexts_rise}
use Rattle.osb_rows.specs.Rows.{Apart, Stores}
use Rattle.osb_rows.proofs.StoresLemmas.{hits_show}
use Rattle.osb_contexts.specs.Contexts.{context_cells, context_row, contexts_in, HoldsContexts, AreContextsOf}
use Rattle.osb_contexts.specs.Format.{HoldsVersion, version_cells, version_row}
use Rattle.osb_contexts.specs.Pieces.{beyond, is_between, is_row_between, piece, AreNamed}
use Rattle.osb_contexts.specs.Read.{HaveRowids}
use Rattle.osb_contexts.proofs.SortLemmas.{context_total, contexts_are, held_again as held_contexts}
use Rattle.osb_contexts.proofs.TestLemmas.{and_true}
use Rattle.osb_statements.specs.Bindings.{binding_cells, binding_row}
use Rattle.osb_statements.specs.Instances.{instance_cells, instance_row}
use Rattle.osb_statements.specs.Pieces.{AreSeparateRows, MayBeCut, HoldRows, IsReadOf}
use Rattle.osb_statements.specs.declared.pieces.Piece.{Piece}
use Rattle.osb_statements.specs.Read.{AreVersionsOf, AreOrdersOf, AreInstancesOf, AreBindingsOf}
use Rattle.osb_statements.specs.Stored.{AreBare, AreBareRows, Holds, order_cells, entry_row, entries_in, instances_in, bindings_in, lives_stored}
use Rattle.osb_statements.specs.StoredLives.{StoreLives}
use Rattle.osb_statements.proofs.BareLemmas.{stored_bare, instances_bare}
use Rattle.osb_statements.proofs.PieceLemmas.{AllIds, IsUpTo, IsAbove, contexts_of_some, contexts_of_both, entries_first, bindings_first, contexts_first, rising_both}
use Rattle.osb_statements.proofs.SortLemmas.{same_bare, same_rows, same_bindings, same_versions, entries_are, instances_are, bindings_are, held_again}
use Rattle.osb_statements.proofs.StoredLivesLemmas.{no_contexts, one_rises, rises, stored_list}

-- ---- the lists that trees store

module _ (db : Trees) where
  -- are audited
  pub audited_rows : StoreLives db → AreRowsWithContexts (contexts_in db) (entries_in db) (instances_in db) (bindings_in db)
  audited_rows it = record {
    rise = record {
      orders_rise = rises entry_cmp (entries_in db) it.holds.orders.rising;
      instances_rise = rises instance_cmp (instances_in db) it.holds.instances.rising;
      bindings_rise = rises binding_cmp (bindings_in db) it.holds.bindings.rising;
    };
    lives = it.lives;
    instances_stand = it.standing.instances;
    bindings_stand = it.standing.bindings;
    contexts_are = contexts_are db (contexts_of (lives_stored db)) it.contexts;
  }

  -- and lists that are audited are stored lives
  module _ (orders : List Entry) (instances : List InstanceEntry) (bindings : List BindingEntry) (contexts : List ContextEntry) where
    pub audit_stored : Holds 2 orders instances bindings db → AreBare orders → AreBareRows instances → HoldsContexts contexts db → AreRowsWithContexts contexts orders instances bindings → StoreLives db
    audit_stored holds bare bare_rows held audit =
        let is_orders = entries_are db orders bare holds.orders in
        let is_instances = instances_are db instances bare_rows holds.instances in
        let is_bindings = bindings_are db bindings holds.bindings in
        let found : lives_stored db ≡ joined_lives contexts (lives_in orders) = rw (contexts_are db contexts held, is_orders) refl in record {
          holds = held_again 2 db orders instances bindings bare bare_rows holds;
          lives = subst IsLives (sym found) audit.lives;
          standing = record { instances = rw (is_orders, is_instances) audit.instances_stand; bindings = rw (is_orders, is_bindings) audit.bindings_stand };
          contexts = subst (λ entries. HoldsContexts entries db) (audit.contexts_are ∙ ap contexts_of (sym found)) held;
        }

    module _ (of_orders : AreOrdersOf db orders) (of_instances : AreInstancesOf db instances) (of_bindings : AreBindingsOf db bindings) (of_contexts : AreContextsOf db contexts) (version : HoldsVersion 2 db) where
      read_stored : AreRowsWithContexts contexts orders instances bindings → StoreLives db
      read_stored audit =
          audit_stored
          (record {
            format = version;
            orders = stored_list entry_cmp order_cells entry_row (db 1) orders of_orders.0 audit.rise.orders_rise;
            instances = stored_list instance_cmp instance_cells instance_row (db 3) instances of_instances.0 audit.rise.instances_rise;
            bindings = stored_list binding_cmp binding_cells binding_row (db 5) bindings of_bindings audit.rise.bindings_rise;
          })
          of_orders.1 of_instances.1 (record { held = of_contexts.held; rising = subst AreRising (sym audit.contexts_are) (contexts_rise _ (numbered _ audit.lives)); texts = of_contexts.texts }) audit

      stored_read : StoreLives db → AreRowsWithContexts contexts orders instances bindings
      stored_read it =
          let is_orders = same_bare (entries_in db) orders (stored_bare db) of_orders.1 (of_orders.0.only (entries_in db) it.holds.orders) in
          let is_instances = same_rows (instances_in db) instances (instances_bare db) of_instances.1 (of_instances.0.only (instances_in db) it.holds.instances) in
          let is_bindings = same_bindings (bindings_in db) bindings (of_bindings.only (bindings_in db) it.holds.bindings) in
          let is_contexts = of_contexts.only (contexts_in db) (held_contexts db _ it.contexts) in
          rw (is_orders, is_instances, is_bindings, is_contexts) at (audited_rows it)

      -- what was read is audited exactly where lives are stored
      pub read_whole : (answer : Bool) → (answer ≡ true) ↔ AreRowsWithContexts contexts orders instances bindings → (answer ≡ true) ↔ StoreLives db
      read_whole answer says = (λ is. read_stored (says.0 is), λ it. says.1 (stored_read it))

-- trees with the same rows store the same
pub stored_as : (a b : Trees) → a 0 ≡ b 0 → a 1 ≡ b 1 → a 3 ≡ b 3 → a 5 ≡ b 5 → a 7 ≡ b 7 → StoreLives a → StoreLives b
stored_as a b format orders instances bindings contexts it =
    audit_stored b (entries_in a) (instances_in a) (bindings_in a) (contexts_in a)
    (record {
      format = subst (λ rows. Stores version_cells version_row nat_cmp rows (2 ∷ [])) format it.holds.format;
      orders = subst (λ rows. Stores order_cells entry_row entry_cmp rows (entries_in a)) orders it.holds.orders;
      instances = subst (λ rows. Stores instance_cells instance_row instance_cmp rows (instances_in a)) instances it.holds.instances;
      bindings = subst (λ rows. Stores binding_cells binding_row binding_cmp rows (bindings_in a)) bindings it.holds.bindings;
    })
    (stored_bare a) (instances_bare a) (subst (λ rows. Stores context_cells context_row context_cmp rows (contexts_in a)) contexts (held_contexts a _ it.contexts)) (audited_rows a it)

-- ---- ids in their order

abbrev pub above : Value → Value → Bool
above a b = is_gt (value_cmp a b)

up_through : (a b c : Value) → above a b ≡ false → above b c ≡ false → above a c ≡ false
up_through a b c up next = go (value_cmp a b) (value_cmp b c) refl refl up next
  where
    total : IsTotalOrder value_cmp
    total = value_cmp_total

    less : value_cmp a c ≡ Less → above a c ≡ false
    less is = ap is_gt is

    go : (o p : Ordering) → value_cmp a b ≡ o → value_cmp b c ≡ p → is_gt o ≡ false → is_gt p ≡ false → above a c ≡ false
    go Less Less is then up next = less (total.trans a b c is then)
    go Less Equal is then up next =
        let back : value_cmp c a ≡ value_cmp b a = total.congr c b a (total.antisymm c b ∙ ap ordering_reverse then) in
        less (total.antisymm a c ∙ ap ordering_reverse (back ∙ total.antisymm b a ∙ ap ordering_reverse is))
    go Equal p is then up next = ap is_gt (total.congr a b c is ∙ then) ∙ next
    go Less Greater is then up next = absurd (cc)
    go Greater p is then up next = absurd (cc)

still_above : (a b c : Value) → above a b ≡ false → above c b ≡ true → above c a ≡ true
still_above a b c up high = elim (cases_Bool (above c a)) [
  | inl is ↦ is
  | inr other ↦ absurd (true≢false (sym high ∙ up_through c a b other up))
]

and_false : (a : Bool) → (a && false) ≡ false
and_false true = refl
and_false false = refl

-- an id of a piece is in its first part or in its second
module _ (a b : List ℕ) (c : Value) (low : above (Text a) (Text b) ≡ false) (high : above (Text b) c ≡ false) (id : Value) where
  pub in_first : (is_between a c id && not (above id (Text b))) ≡ is_between a (Text b) id
  in_first = elim (cases_Bool (above id (Text b))) [
    | inl is ↦ rw is (and_false _ ∙ sym (and_false _))
    | inr up ↦ rw (up, up_through id (Text b) c up high) (and_true _)
  ]

  pub in_second : (is_between a c id && not (not (above id (Text b)))) ≡ is_between b c id
  in_second = elim (cases_Bool (above id (Text b))) [
    | inl is ↦ rw (is, still_above (Text a) (Text b) id low is) (and_true _)
    | inr up ↦ rw up (and_false _)
  ]

pub filter_twice : {X : Type 0} (p q r : X → Bool) → ((x : X) → (q x && p x) ≡ r x) → (xs : List X) → filter p (filter q xs) ≡ filter r xs
filter_twice p q r same [] = refl
filter_twice {X} p q r same (x ∷ xs) = go (q x) (p x) refl refl (filter_twice p q r same xs)
  where
    go : (b c : Bool) → q x ≡ b → p x ≡ c → filter p (filter q xs) ≡ filter r xs → filter p (cond b (x ∷ filter q xs) (filter q xs)) ≡ filter r (x ∷ xs)
    go true true h k rest = filter_hit p x (filter q xs) k ∙ ap (λ ys. x ∷ ys) rest ∙ sym (filter_hit r x xs (sym (same x) ∙ ap₂ ◌&&◌ h k))
    go true false h k rest = filter_miss p x (filter q xs) k ∙ rest ∙ sym (filter_miss r x xs (sym (same x) ∙ ap₂ ◌&&◌ h k))
    go false c h k rest = rest ∙ sym (filter_miss r x xs (sym (same x) ∙ ap (λ b. b && p x) h))

-- items whose ids are of a piece are those of its first part and those of its second
module _ {X : Type 0} (id : X → Value) (xs : List X) (a b : List ℕ) (c : Value) (low : above (Text a) (Text b) ≡ false) (high : above (Text b) c ≡ false) where
  abbrev is_first : X → Bool
  is_first x = not (above (id x) (Text b))

  abbrev those : List ℕ → Value → List X
  those after to = filter (λ x. is_between after to (id x)) xs

  pub parted : IsPermutation (those a c) (those a (Text b) ++ those b c)
  parted =
      subst₂ (λ (one other : List X). IsPermutation (those a c) (one ++ other))
      (filter_twice is_first (λ x. is_between a c (id x)) (λ x. is_between a (Text b) (id x)) (λ x. in_first a b c low high (id x)) xs)
      (filter_twice (λ x. not (is_first x)) (λ x. is_between a c (id x)) (λ x. is_between b c (id x)) (λ x. in_second a b c low high (id x)) xs)
      (IsPermutation-filter_both is_first (λ x. not (is_first x)) (λ _. refl) (those a c))

-- no id is below the empty one
pub none_below : (b : List ℕ) → above (Text []) (Text b) ≡ false
none_below b = ap is_gt (value_cmp-Text [] b) ∙ small b
  where
    small : (b : List ℕ) → is_gt (by_bytes [] b) ≡ false
    small [] = refl
    small (byte ∷ b) = refl

-- no id is above another one and up to it
pub nothing_between : (a : List ℕ) (id : Value) → is_between a (Text a) id ≡ false
nothing_between a id = never (above id (Text a))
  where
    never : (b : Bool) → (b && not b) ≡ false
    never true = refl
    never false = refl

-- ---- the rows of one table

module _ {E : Type 0} (cells : Row → Row) (shown : E → Row) (cmp : E → E → Ordering) (key : E → List ℕ) (at : (row : Row) → column (cells row) 0 ≡ column row 1) (keyed : (e : E) → column (shown e) 0 ≡ Text (key e)) (rows : List Row) where
  -- the rows of a piece store the entries of its ids
  pub stores_some : IsTotalOrder cmp → (after : List ℕ) (to : Value) (es : List E) → Stores cells shown cmp rows es → Stores cells shown cmp (filter (is_row_between after to) rows) (filter (λ e. is_between after to (Text (key e))) es)
  stores_some total after to es stores = record {
    held = record {
      apart = ascending-filter Apart (is_row_between after to) rows stores.held.apart;
      keyed = all-filter _ (is_row_between after to) rows stores.held.keyed;
      same =
          subst (λ kept. IsPermutation (map cells kept) (map shown (filter (λ e. is_between after to (Text (key e))) es))) (filter_same _ _ (λ row. ap (is_between after to) (at row)) rows)
          (hits_show cmp total cells shown (λ cell. is_between after to (column cell 0)) (λ e. is_between after to (Text (key e))) (λ e. ap (is_between after to) (keyed e)) rows es stores);
    };
    rising = ascending-filter (λ a b. cmp a b ≡ Less) _ es stores.rising;
    texts = all-filter _ _ es stores.texts;
  }

  -- what holds of the ids of all rows holds of those of the entries, and the other way round
  module _ (passes : Value → Bool) (some : List Row) (es : List E) (stores : Stores cells shown cmp some es) where
    ids_of_rows : AllByRecursion (λ row. passes (column row 1) ≡ true) some → AllByRecursion (λ e. passes (Text (key e)) ≡ true) es
    ids_of_rows all =
        all_weaker (λ e. passes (column (shown e) 0) ≡ true) _ (λ e is. sym (ap passes (keyed e)) ∙ is) es
        (all_unmap (λ cell. passes (column cell 0) ≡ true) shown es (all-permutation _ _ _ stores.held.same
        (all_map (λ cell. passes (column cell 0) ≡ true) cells some (all_weaker _ (λ row. passes (column (cells row) 0) ≡ true) (λ row is. ap passes (at row) ∙ is) some all))))

    pub rows_of_ids : AllByRecursion (λ e. passes (Text (key e)) ≡ true) es → AllByRecursion (λ row. passes (column row 1) ≡ true) some
    rows_of_ids all =
        all_weaker (λ row. passes (column (cells row) 0) ≡ true) _ (λ row is. sym (ap passes (at row)) ∙ is) some
        (all_unmap (λ cell. passes (column cell 0) ≡ true) cells some (all-permutation _ _ _ (IsPermutation-sym _ _ stores.held.same)
        (all_map (λ cell. passes (column cell 0) ≡ true) shown es (all_weaker _ (λ e. passes (column (shown e) 0) ≡ true) (λ e is. ap passes (keyed e) ∙ is) es all))))

  ids_between : (after : List ℕ) (to : Value) (es : List E) → Stores cells shown cmp (filter (is_row_between after to) rows) es → AllByRecursion (λ e. is_between after to (Text (key e)) ≡ true) es
  ids_between after to es stores = ids_of_rows (is_between after to) (filter (is_row_between after to) rows) es stores (all_pass (is_row_between after to) rows)

  pub ids_up_to : (after last : List ℕ) (es : List E) → Stores cells shown cmp (filter (is_row_between after (Text last)) rows) es → AllByRecursion (λ e. IsUpTo last (key e)) es
  ids_up_to after last es stores =
      all_weaker _ (λ e. IsUpTo last (key e))
      (λ e is. ap is_gt (sym (value_cmp-Text (key e) last)) ∙ not_back (above (Text (key e)) (Text last)) (and_parts (above (Text (key e)) (Text after)) _ is).1) es (ids_between after (Text last) es stores)
    where
      not_back : (b : Bool) → not b ≡ true → b ≡ false
      not_back true is = absurd (cc)
      not_back false is = refl

  pub ids_above : (last : List ℕ) (to : Value) (es : List E) → Stores cells shown cmp (filter (is_row_between last to) rows) es → AllByRecursion (λ e. IsAbove last (key e)) es
  ids_above last to es stores = all_weaker _ (λ e. IsAbove last (key e)) (λ e is. ap is_gt (sym (value_cmp-Text (key e) last)) ∙ (and_parts (above (Text (key e)) (Text last)) _ is).0) es (ids_between last to es stores)

  module _ (have : HaveRowids rows) (a b : List ℕ) (c : Value) (low : above (Text a) (Text b) ≡ false) (high : above (Text b) c ≡ false) where
    abbrev whole : List Row
    whole = filter (is_row_between a c) rows

    -- the rows of two pieces store the entries of both
    pub stores_both : (es others : List E) → Stores cells shown cmp (filter (is_row_between a (Text b)) rows) es → Stores cells shown cmp (filter (is_row_between b c) rows) others → IsAscending (λ x y. cmp x y ≡ Less) (es ++ others) → Stores cells shown cmp whole (es ++ others)
    stores_both es others one other up = record {
      held = record {
        apart = ascending-filter Apart (is_row_between a c) rows have.apart;
        keyed = all-filter _ (is_row_between a c) rows have.keyed;
        same =
            subst₂ IsPermutation refl (sym (map-append shown es others))
            (IsPermutation-trans _ _ _ (subst (IsPermutation (map cells whole)) (map-append cells (filter (is_row_between a (Text b)) rows) (filter (is_row_between b c) rows)) (IsPermutation-map cells _ _ (parted (λ row. column row 1) rows a b c low high)))
            (IsPermutation-append _ _ _ _ one.held.same other.held.same));
      };
      rising = up;
      texts = all-append _ es others one.texts other.texts;
    }

-- ---- all tables

module _ (db : Trees) (after : List ℕ) (to : Value) where
  -- where lives are stored, those of some instances are
  pub stored_some : StoreLives db → StoreLives (piece after to db)
  stored_some it =
      let chosen = λ (id : List ℕ). is_between after to (Text id) in
      audit_stored (piece after to db) (filter (λ (entry : Entry). chosen entry.0) (entries_in db)) (filter (λ (entry : InstanceEntry). chosen entry.0) (instances_in db)) (filter (λ (entry : BindingEntry). chosen entry.instance) (bindings_in db)) (filter (λ (entry : ContextEntry). chosen entry.instance) (contexts_in db))
      (record {
        format = it.holds.format;
        orders = stores_some order_cells entry_row entry_cmp (λ (entry : Entry). entry.0) (λ _. refl) (λ _. refl) (db 1) entry_total after to (entries_in db) it.holds.orders;
        instances = stores_some instance_cells instance_row instance_cmp (λ (entry : InstanceEntry). entry.0) (λ _. refl) (λ _. refl) (db 3) instance_total after to (instances_in db) it.holds.instances;
        bindings = stores_some binding_cells binding_row binding_cmp (λ (entry : BindingEntry). entry.instance) (λ _. refl) (λ _. refl) (db 5) binding_total after to (bindings_in db) it.holds.bindings;
      })
      (all-filter _ _ (entries_in db) (stored_bare db)) (all-filter _ _ (instances_in db) (instances_bare db))
      (stores_some context_cells context_row context_cmp (λ (entry : ContextEntry). entry.instance) (λ _. refl) (λ _. refl) (db 7) context_total after to (contexts_in db) (held_contexts db _ it.contexts))
      (contexts_of_some chosen (contexts_in db) (entries_in db) (instances_in db) (bindings_in db) (no_contexts (entries_in db) (instances_in db) (stored_bare db) (instances_bare db)) (audited_rows db it))

-- what the rows of two pieces hold is held by those of both together
module _ (db : Trees) (cut : AreSeparateRows db) (a b : List ℕ) (c : Value) (low : above (Text a) (Text b) ≡ false) (high : above (Text b) c ≡ false) (one : HoldRows (piece a (Text b) db)) (other : HoldRows (piece b c db)) where
  abbrev first : Trees
  first = piece a (Text b) db

  abbrev second : Trees
  second = piece b c db

  pub all_up_to : AllIds (IsUpTo b) (entries_in first) (instances_in first) (bindings_in first)
  all_up_to = (
    ids_up_to order_cells entry_row entry_cmp (λ (entry : Entry). entry.0) (λ _. refl) (λ _. refl) (db 1) a b (entries_in first) one.orders,
    ids_up_to instance_cells instance_row instance_cmp (λ (entry : InstanceEntry). entry.0) (λ _. refl) (λ _. refl) (db 3) a b (instances_in first) one.instances,
    ids_up_to binding_cells binding_row binding_cmp (λ (entry : BindingEntry). entry.instance) (λ _. refl) (λ _. refl) (db 5) a b (bindings_in first) one.bindings,
  )

  pub all_above : AllIds (IsAbove b) (entries_in second) (instances_in second) (bindings_in second)
  all_above = (
    ids_above order_cells entry_row entry_cmp (λ (entry : Entry). entry.0) (λ _. refl) (λ _. refl) (db 1) b c (entries_in second) other.orders,
    ids_above instance_cells instance_row instance_cmp (λ (entry : InstanceEntry). entry.0) (λ _. refl) (λ _. refl) (db 3) b c (instances_in second) other.instances,
    ids_above binding_cells binding_row binding_cmp (λ (entry : BindingEntry). entry.instance) (λ _. refl) (λ _. refl) (db 5) b c (bindings_in second) other.bindings,
  )

  pub orders_both : Stores order_cells entry_row entry_cmp (piece a c db 1) (entries_in first ++ entries_in second)
  orders_both =
      stores_both order_cells entry_row entry_cmp (λ (entry : Entry). entry.0) (λ _. refl) (λ _. refl) (db 1) cut.orders.rowids a b c low high (entries_in first) (entries_in second) one.orders other.orders
      (rising_both (λ (entry : Entry). entry.0) b (entries_in first) (entries_in second) all_up_to.0 all_above.0 entry_cmp entries_first one.orders.rising other.orders.rising)

  pub instances_both : Stores instance_cells instance_row instance_cmp (piece a c db 3) (instances_in first ++ instances_in second)
  instances_both =
      stores_both instance_cells instance_row instance_cmp (λ (entry : InstanceEntry). entry.0) (λ _. refl) (λ _. refl) (db 3) cut.instances.rowids a b c low high (instances_in first) (instances_in second) one.instances other.instances
      (rising_both (λ (entry : InstanceEntry). entry.0) b (instances_in first) (instances_in second) all_up_to.1 all_above.1 instance_cmp (λ x y less. less) one.instances.rising other.instances.rising)

  pub bindings_both : Stores binding_cells binding_row binding_cmp (piece a c db 5) (bindings_in first ++ bindings_in second)
  bindings_both =
      stores_both binding_cells binding_row binding_cmp (λ (entry : BindingEntry). entry.instance) (λ _. refl) (λ _. refl) (db 5) cut.bindings.rowids a b c low high (bindings_in first) (bindings_in second) one.bindings other.bindings
      (rising_both (λ (entry : BindingEntry). entry.instance) b (bindings_in first) (bindings_in second) all_up_to.2 all_above.2 binding_cmp bindings_first one.bindings.rising other.bindings.rising)

pub lives_hold_rows : (db : Trees) → StoreLives db → HoldRows db
lives_hold_rows db it = record { orders = it.holds.orders; instances = it.holds.instances; bindings = it.holds.bindings }

module _ (db : Trees) (cut : MayBeCut db) (a b : List ℕ) (c : Value) (low : above (Text a) (Text b) ≡ false) (high : above (Text b) c ≡ false) (one : StoreLives (piece a (Text b) db)) (other : StoreLives (piece b c db)) where
  abbrev front : Trees
  front = piece a (Text b) db

  abbrev back : Trees
  back = piece b c db

  one_rows : HoldRows front
  one_rows = lives_hold_rows front one

  other_rows : HoldRows back
  other_rows = lives_hold_rows back other

  one_contexts : HoldsContexts (contexts_in front) front
  one_contexts = held_contexts front _ one.contexts

  other_contexts : HoldsContexts (contexts_in back) back
  other_contexts = held_contexts back _ other.contexts

  contexts_up_to : AllByRecursion (λ (entry : ContextEntry). IsUpTo b entry.instance) (contexts_in front)
  contexts_up_to = ids_up_to context_cells context_row context_cmp (λ (entry : ContextEntry). entry.instance) (λ _. refl) (λ _. refl) (db 7) a b (contexts_in front) one_contexts

  contexts_above : AllByRecursion (λ (entry : ContextEntry). IsAbove b entry.instance) (contexts_in back)
  contexts_above = ids_above context_cells context_row context_cmp (λ (entry : ContextEntry). entry.instance) (λ _. refl) (λ _. refl) (db 7) b c (contexts_in back) other_contexts

  -- where lives are stored in each of two pieces, they are in both together
  pub stored_both : StoreLives (piece a c db)
  stored_both =
      audit_stored (piece a c db) (entries_in front ++ entries_in back) (instances_in front ++ instances_in back) (bindings_in front ++ bindings_in back) (contexts_in front ++ contexts_in back)
      (record {
        format = cut.version;
        orders = orders_both db cut.rows a b c low high one_rows other_rows;
        instances = instances_both db cut.rows a b c low high one_rows other_rows;
        bindings = bindings_both db cut.rows a b c low high one_rows other_rows;
      })
      (all-append _ (entries_in front) (entries_in back) (stored_bare front) (stored_bare back)) (all-append _ (instances_in front) (instances_in back) (instances_bare front) (instances_bare back))
      (stores_both context_cells context_row context_cmp (λ (entry : ContextEntry). entry.instance) (λ _. refl) (λ _. refl) (db 7) cut.contexts.rowids a b c low high (contexts_in front) (contexts_in back) one_contexts other_contexts
      (rising_both (λ (entry : ContextEntry). entry.instance) b (contexts_in front) (contexts_in back) contexts_up_to contexts_above context_cmp contexts_first one_contexts.rising other_contexts.rising))
      (contexts_of_both b (contexts_in front) (contexts_in back) (entries_in front) (entries_in back) (instances_in front) (instances_in back) (bindings_in front) (bindings_in back)
      (all_up_to db cut.rows a b c low high one_rows other_rows) contexts_up_to (no_contexts (entries_in front) (instances_in front) (stored_bare front) (instances_bare front))
      (all_above db cut.rows a b c low high one_rows other_rows) contexts_above (no_contexts (entries_in back) (instances_in back) (stored_bare back) (instances_bare back))
      (audited_rows front one) (audited_rows back other))

-- the rows that are named are all
pub stored_whole : (db : Trees) → MayBeCut db → StoreLives (piece [] beyond db) → StoreLives db
stored_whole db cut =
    stored_as (piece [] beyond db) db refl
    (filter_all (is_row_between [] beyond) (db 1) cut.rows.orders.named)
    (filter_all (is_row_between [] beyond) (db 3) cut.rows.instances.named)
    (filter_all (is_row_between [] beyond) (db 5) cut.rows.bindings.named)
    (filter_all (is_row_between [] beyond) (db 7) cut.contexts.named)

-- ---- each row of stored lives has the id of an instance

pub below_beyond : (id : List ℕ) → above (Text id) beyond ≡ false
unfolding value_cmp
below_beyond id = refl

pub not_above : (a b : List ℕ) → by_bytes a b ≡ Less → above (Text a) (Text b) ≡ false
not_above a b less = ap is_gt (value_cmp-Text a b ∙ less)

pub named_id : (id : List ℕ) → bytes_eq id [] ≡ false → is_between [] beyond (Text id) ≡ true
named_id [] other = absurd (true≢false (sym (text_itself []) ∙ other))
named_id (byte ∷ id) other = rw (below_beyond (byte ∷ id)) (and_true _ ∙ ap is_gt (value_cmp-Text (byte ∷ id) []))

pub not_an_id : (utf8 small plain : Bool) → (((utf8 && false) && small) && plain) ≡ true → false ≡ true
not_an_id true small plain is = is
not_an_id false small plain is = is

never_opened : (life : Life) → IfSome (opened life) (IsInstance []) → life ≡ []
never_opened [] stands = refl
never_opened (order ∷ life) stands = absurd (let none = not_an_id (is_utf8 []) true (has_no_controls []) stands.id in cc)

nothing_mapped : {X Y : Type 0} (f : X → Y) (xs : List X) → map f xs ≡ [] → xs ≡ []
nothing_mapped f [] none = refl
nothing_mapped f (x ∷ xs) none = absurd (cc)

-- none of the rows of well-formed lives has the empty id
module _ (orders : List Entry) (instances : List InstanceEntry) (bindings : List BindingEntry) (whole : AreRowsOfLives orders instances bindings) where
  at_none : StandsAt [] (life_in [] orders) instances bindings
  at_none = stands_at orders instances bindings whole.1 []

  no_life : life_in [] orders ≡ []
  no_life = never_opened (life_in [] orders) at_none.instance

  pub no_orders : AllByRecursion (λ (entry : Entry). bytes_eq entry.0 [] ≡ false) orders
  no_orders = passes_none (is_of []) orders (nothing_mapped (λ (entry : Entry). entry.1) (filter (is_of []) orders) no_life)

  pub no_instances : AllByRecursion (λ (entry : InstanceEntry). bytes_eq entry.0 [] ≡ false) instances
  no_instances = passes_none (is_instance []) instances (at_none.row ∙ ap (λ (life : Life). map (λ (row : InstanceRow). ([], row)) (option_to_list (row_of life))) no_life)

  pub no_bound : AllByRecursion (λ (entry : BindingEntry). bytes_eq entry.instance [] ≡ false) bindings
  no_bound = passes_none (is_bound []) bindings (at_none.bound ∙ ap (λ (life : Life). map (binding_entry []) (entries (bindings_of life))) no_life ∙ ap (map (binding_entry [])) no_bindings)

module _ (db : Trees) (it : StoreLives db) where
  abbrev its_contexts : List ContextEntry
  its_contexts = contexts_in db

  pub its_none : HaveNoContexts (entries_in db) (instances_in db)
  its_none = no_contexts (entries_in db) (instances_in db) (stored_bare db) (instances_bare db)

  abbrev pub its_orders : List Entry
  its_orders = lists_orders its_contexts (entries_in db) (instances_in db) (bindings_in db) its_none (audited_rows db it)

  abbrev pub its_rows : List InstanceEntry
  its_rows = lists_instances its_contexts (entries_in db) (instances_in db) (bindings_in db) its_none (audited_rows db it)

  pub its_lives : AreRowsOfLives its_orders its_rows (bindings_in db)
  its_lives = lists_rows its_contexts (entries_in db) (instances_in db) (bindings_in db) its_none (audited_rows db it)

  pub its_join : AreJoined its_contexts (entries_in db) (instances_in db) its_orders its_rows
  its_join = lists_join its_contexts (entries_in db) (instances_in db) (bindings_in db) its_none (audited_rows db it)

  abbrev HasId : ContextEntry → Type 0
  HasId entry = bytes_eq entry.instance [] ≡ false

  of_orders : AllByRecursion (λ entry. is_of_order entry ≡ true → HasId entry) its_contexts
  of_orders = all_kept HasId is_of_order its_contexts (subst (AllByRecursion HasId) (sym its_join.orders_with.contexts_are) (all_map HasId context_of_entry its_orders (no_orders its_orders its_rows (bindings_in db) its_lives)))

  of_rows : AllByRecursion (λ entry. is_of_standing entry ≡ true → HasId entry) its_contexts
  of_rows = all_kept HasId is_of_standing its_contexts (subst (AllByRecursion HasId) (sym its_join.rows_with.contexts_are) (all_map HasId context_of_row its_rows (no_instances its_orders its_rows (bindings_in db) its_lives)))

  of_either : AllByRecursion HasId its_contexts
  of_either = all_both (λ entry. is_of_order entry ≡ true → HasId entry) (λ entry. is_of_standing entry ≡ true → HasId entry) HasId (λ entry order standing. elim (cases_Bool (is_of_standing entry)) [ inl is ↦ standing is | inr other ↦ order (ap not other) ]) its_contexts of_orders of_rows

  pub orders_named : AreNamed (db 1)
  orders_named =
      rows_of_ids order_cells entry_row entry_cmp (λ (entry : Entry). entry.0) (λ _. refl) (λ _. refl) (db 1) (is_between [] beyond) (db 1) (entries_in db) it.holds.orders
      (all_weaker _ _ (λ entry is. named_id entry.0 is) (entries_in db) (all_unmap (λ (entry : Entry). bytes_eq entry.0 [] ≡ false) (joined_entry its_contexts) (entries_in db) (no_orders its_orders its_rows (bindings_in db) its_lives)))

  pub instances_named : AreNamed (db 3)
  instances_named =
      rows_of_ids instance_cells instance_row instance_cmp (λ (entry : InstanceEntry). entry.0) (λ _. refl) (λ _. refl) (db 3) (is_between [] beyond) (db 3) (instances_in db) it.holds.instances
      (all_weaker _ _ (λ entry is. named_id entry.0 is) (instances_in db) (all_unmap (λ (entry : InstanceEntry). bytes_eq entry.0 [] ≡ false) (joined_instance_entry its_contexts) (instances_in db) (no_instances its_orders its_rows (bindings_in db) its_lives)))

  pub bindings_named : AreNamed (db 5)
  bindings_named =
      rows_of_ids binding_cells binding_row binding_cmp (λ (entry : BindingEntry). entry.instance) (λ _. refl) (λ _. refl) (db 5) (is_between [] beyond) (db 5) (bindings_in db) it.holds.bindings
      (all_weaker _ _ (λ entry is. named_id entry.instance is) (bindings_in db) (no_bound its_orders its_rows (bindings_in db) its_lives))

  pub contexts_named : AreNamed (db 7)
  contexts_named =
      rows_of_ids context_cells context_row context_cmp (λ (entry : ContextEntry). entry.instance) (λ _. refl) (λ _. refl) (db 7) (is_between [] beyond) (db 7) its_contexts (held_contexts db _ it.contexts)
      (all_weaker _ _ (λ entry is. named_id entry.instance is) its_contexts of_either)

-- so where lives are stored, an answer that all are named is true
module _ (old now : Database) (same : now ≡ old) (it : StoreLives old.trees) (answer : Bool) where
  pub first_named : (answer ≡ true) ↔ (AreNamed (now.trees 1) × AreNamed (now.trees 3)) → answer ≡ true
  first_named says = says.1 (subst (λ (d : Database). AreNamed (d.trees 1) × AreNamed (d.trees 3)) (sym same) (orders_named old.trees it, instances_named old.trees it))

  pub others_named : (answer ≡ true) ↔ (AreNamed (now.trees 5) × AreNamed (now.trees 7)) → answer ≡ true
  others_named says = says.1 (subst (λ (d : Database). AreNamed (d.trees 5) × AreNamed (d.trees 7)) (sym same) (bindings_named old.trees it, contexts_named old.trees it))

-- ---- the version

pub version_read : (version : ℕ) (db : Trees) (versions : List ℕ) → AreVersionsOf db versions → (versions ≡ version ∷ []) ↔ HoldsVersion version db
version_read version db versions read = (
  λ is. subst (Stores version_cells version_row nat_cmp (db 0)) is (stored_list nat_cmp version_cells version_row (db 0) versions read (subst (IsStrictlySortedBy nat_cmp) (sym is) (one_rises version))),
  λ held. sym (same_versions (version ∷ []) versions (read.only (version ∷ []) held)),
)

-- ---- piece after piece

-- the pieces so far are stored, as what is left shows
abbrev pub SoFar : Trees → List ℕ → Type 0
SoFar db after = StoreLives (piece after beyond db) → StoreLives db

pub none_so_far : (db : Trees) → MayBeCut db → SoFar db []
none_so_far db cut = stored_whole db cut

pub next_so_far : (db : Trees) → MayBeCut db → (after to : List ℕ) → by_bytes after to ≡ Less → StoreLives (piece after (Text to) db) → SoFar db after → SoFar db to
next_so_far db cut after to less one so_far rest = so_far (stored_both db cut after to beyond (not_above after to less) (below_beyond to) one rest)

-- what was read of a piece was judged
pub piece_judged : (old mid : Database) (after : List ℕ) (to : Value) (read : Piece) (contexts : List ContextEntry) (answer : Bool) → mid ≡ old → (AreSeparateRows old.trees → IsReadOf (piece after to old.trees) read) → (HaveRowids (mid.trees 7) → AreContextsOf (piece after to mid.trees) contexts)
    → (HaveNoContexts read.orders.items read.instances.items → (answer ≡ true) ↔ AreRowsWithContexts contexts read.orders.items read.instances.items read.bindings.items) → MayBeCut old.trees → (answer ≡ true) ↔ StoreLives (piece after to old.trees)
piece_judged old mid after to read contexts answer same found contexts_found says cut =
    let it = found cut.rows in
    let of_contexts = subst (λ (d : Database). HaveRowids (d.trees 7) → AreContextsOf (piece after to d.trees) contexts) same contexts_found cut.contexts.rowids in
    read_whole (piece after to old.trees) read.orders.items read.instances.items read.bindings.items contexts it.orders it.instances it.bindings of_contexts cut.version answer
    (says (no_contexts read.orders.items read.instances.items it.orders.1 it.instances.1))
