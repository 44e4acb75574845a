-- Lists without contexts and the contexts beside them, against the lists that they make up.
use Rattle.std.proofs.Common.{◌≡◌, ℕ, List, [], ◌∷◌, map, cond, Bool, true, false, Ordering, Less, Option, None, Some, option_map, refl, sym, ap, ap₂, subst, subst₂, ◌∙◌, Result, Ok, Err}
use Rattle.std.specs.Prelude.{bytes_eq, ◌↔◌, IfOk}
use Rattle.std.specs.Ordering.{eq_by_cmp}
use Rattle.std.specs.Option.{option_to_list}
use Rattle.std.specs.List.Sorted.{IsStrictlySortedBy}
use Rattle.std.specs.Cmp.Lexicographic.{nat_list_cmp_total}
use Rattle.std.specs.FinMap.{empty, get, get-empty, get-insert, insert, same_map, entries as rows_of, slice_cmp-IsAntisymmetric, nat_cmp-IsAntisymmetric}
use Rattle.sqlite_trees.specs.Tree.{IsAscending}
use Rattle.sqlite_keyed.proofs.ListLemmas.{ascending-map, filter-map}
use Rattle.osb_orders.specs.Life.{Life}
use Rattle.osb_orders.specs.Lives.{Lives, life_of}
use Rattle.osb_orders.specs.IsLife.{IsLives}
use Rattle.osb_standing.specs.declared.row.InstanceRow.{InstanceRow}
use Rattle.osb_standing.specs.Rows.{row_of, bindings_of}
use Rattle.osb_audit.specs.declared.entry.BindingEntry.{BindingEntry}
use Rattle.osb_audit.specs.Orders.{Entry, entry_cmp, lives_in}
use Rattle.osb_audit.specs.Instances.{InstanceEntry, instance_cmp, is_instance, InstancesStand}
use Rattle.osb_audit.specs.Bindings.{binding_entry, AllBindingsStand}
use Rattle.osb_audit.specs.Audit.{AreRowsOfLives}
use Rattle.osb_audit.proofs.LivesLemmas.{key_is}
use Rattle.osb_audit.proofs.RunLemmas.{by_bytes, same_text}
use Rattle.osb_bare.specs.Bare.{bare_lives, bare_entry, bare_row}
use Rattle.osb_bare.proofs.LifeLemmas.{row_of-bare, bindings_of-bare}
use Rattle.osb_bare.proofs.LivesLemmas.{life_of-bare, lives_in-bare}
use Rattle.osb_joined.specs.declared.entry.ContextEntry.{ContextEntry}
use Rattle.osb_joined.specs.Contexts.{contexts_of}
use Rattle.osb_joined.specs.Joined.{joined_order, joined_life, joined_entry, joined_lives, joined_row}
use Rattle.osb_joined.specs.Join.{bare_instance_entry, AreJoined}
use Rattle.osb_joined.specs.Audit.{HaveNoContexts, AreRowsWithContexts}
use Rattle.osb_joined.proofs.ListLemmas.{ascending}
use Rattle.osb_joined.proofs.JoinLemmas.{get-joined, life_of-joined, bare-joined, row_joined}
use Rattle.osb_joined.proofs.OrderLemmas.{lives_joined}
use Rattle.osb_joined.proofs.AuditLemmas.{rows_join, are_contexts_of, joined_once}

-- ---- lists that rise

module _ {E : Type 0} (cmp : E → E → Ordering) (f : E → E) (same : (a b : E) → cmp (f a) (f b) ≡ cmp a b) where
  strictly : (es : List E) → IsAscending (λ a b. cmp a b ≡ Less) es → IsStrictlySortedBy cmp es
  unfolding IsStrictlySortedBy
  strictly [] up = tt
  strictly (e ∷ es) up = (up.0, strictly es up.1)

  still_rises : (es : List E) → IsStrictlySortedBy cmp es → IsStrictlySortedBy cmp (map f es)
  still_rises es up = strictly (map f es) (ascending-map (λ a b. cmp a b ≡ Less) f es (subst (λ (test : E → E → Ordering). IsAscending (λ a b. test a b ≡ Less) es) (λ i a b. sym (same a b) i) (ascending cmp es up)))

-- ---- lives with contexts, order by order

module _ (contexts : List ContextEntry) where
  same_lives : (one other : Lives) → ((id : List ℕ) → get one id ≡ get other id) → one ≡ other
  same_lives one other same = same_map nat_list_cmp_total (slice_cmp-IsAntisymmetric nat_cmp-IsAntisymmetric) one other same

  insert-joined : (lives : Lives) (id : List ℕ) (life : Life) → insert (joined_lives contexts lives) id (joined_life contexts id life) ≡ joined_lives contexts (insert lives id life)
  insert-joined lives id life = same_lives (insert (joined_lives contexts lives) id (joined_life contexts id life)) (joined_lives contexts (insert lives id life)) (λ q.
      get-insert nat_list_cmp_total (joined_lives contexts lives) id (joined_life contexts id life) q
      ∙ go q (eq_by_cmp by_bytes q id) (sym (key_is q id))
      ∙ ap (option_map (joined_life contexts q)) (sym (get-insert nat_list_cmp_total lives id life q))
      ∙ sym (get-joined contexts (insert lives id life) q))
    where
      go : (q : List ℕ) (b : Bool) → bytes_eq id q ≡ b → cond b (Some (joined_life contexts id life)) (get (joined_lives contexts lives) q) ≡ option_map (joined_life contexts q) (cond b (Some life) (get lives q))
      go q true is = ap (λ (key : List ℕ). Some (joined_life contexts key life)) (same_text id q is)
      go q false is = get-joined contexts lives q

  empty-joined : empty ≡ joined_lives contexts empty
  empty-joined = same_lives empty (joined_lives contexts empty) (λ id. get-empty by_bytes id ∙ ap (option_map (joined_life contexts id)) (sym (get-empty by_bytes id)) ∙ sym (get-joined contexts empty id))

  lives_in-joined : (entries : List Entry) → lives_in (map (joined_entry contexts) entries) ≡ joined_lives contexts (lives_in entries)
  lives_in-joined [] = empty-joined
  lives_in-joined (entry ∷ entries) =
      ap (λ (lives : Lives). insert lives entry.0 (joined_order contexts entry.0 entry.1 ∷ life_of lives entry.0)) (lives_in-joined entries)
      ∙ ap (λ (life : Life). insert (joined_lives contexts (lives_in entries)) entry.0 (joined_order contexts entry.0 entry.1 ∷ life)) (life_of-joined contexts (lives_in entries) entry.0)
      ∙ insert-joined (lives_in entries) entry.0 (entry.1 ∷ life_of (lives_in entries) entry.0)

  -- the row of an instance with its context
  abbrev pub joined_instance_entry : InstanceEntry → InstanceEntry
  joined_instance_entry entry = (entry.0, joined_row contexts entry.0 entry.1)

  orders_again : (entries : List Entry) → map bare_entry entries ≡ entries → map bare_entry (map (joined_entry contexts) entries) ≡ entries
  orders_again entries bare = go entries ∙ bare
    where
      go : (entries : List Entry) → map bare_entry (map (joined_entry contexts) entries) ≡ map bare_entry entries
      go [] = refl
      go (entry ∷ entries) = ap (λ rest. bare_entry entry ∷ rest) (go entries)

  row_again : (id : List ℕ) (row : InstanceRow) → bare_row (joined_row contexts id row) ≡ bare_row row
  row_again id row = go row.standing refl
    where
      go : (standing : _) → row.standing ≡ standing → bare_row (joined_row contexts id row) ≡ bare_row row
      go None is = rw is refl
      go (Some standing) is = rw is refl

  rows_again : (entries : List InstanceEntry) → map bare_instance_entry entries ≡ entries → map bare_instance_entry (map joined_instance_entry entries) ≡ entries
  rows_again entries bare = go entries ∙ bare
    where
      go : (entries : List InstanceEntry) → map bare_instance_entry (map joined_instance_entry entries) ≡ map bare_instance_entry entries
      go [] = refl
      go (entry ∷ entries) = ap₂ (λ (row : InstanceRow) rest. (entry.0, row) ∷ rest) (row_again entry.0 entry.1) (go entries)

-- ---- rows without contexts

row_list : (id : List ℕ) (f : InstanceRow → InstanceRow) (g : InstanceEntry → InstanceEntry) → ((row : InstanceRow) → g (id, row) ≡ (id, f row)) → (found : Option InstanceRow)
    → map g (map (λ (row : InstanceRow). (id, row)) (option_to_list found)) ≡ map (λ (row : InstanceRow). (id, row)) (option_to_list (option_map f found))
row_list id f g is None = refl
row_list id f g is (Some row) = ap (λ entry. entry ∷ []) (is row)

module _ (lives : Lives) where
  rows_bare : (instances : List InstanceEntry) → InstancesStand lives instances → InstancesStand (bare_lives lives) (map bare_instance_entry instances)
  rows_bare instances stand id =
      filter-map (is_instance id) bare_instance_entry instances
      ∙ ap (map bare_instance_entry) (stand id)
      ∙ row_list id bare_row bare_instance_entry (λ _. refl) (row_of (life_of lives id))
      ∙ ap (λ found. map (λ (row : InstanceRow). (id, row)) (option_to_list found)) (sym (row_of-bare (life_of lives id)) ∙ ap row_of (sym (life_of-bare lives id)))

  bindings_same : (id : List ℕ) → bindings_of (life_of (bare_lives lives) id) ≡ bindings_of (life_of lives id)
  bindings_same id = ap bindings_of (life_of-bare lives id) ∙ bindings_of-bare (life_of lives id)

  bindings_bare : (bindings : List BindingEntry) → AllBindingsStand lives bindings → AllBindingsStand (bare_lives lives) bindings
  bindings_bare bindings stand id = stand id ∙ ap (λ found. map (binding_entry id) (rows_of found)) (sym (bindings_same id))

  bindings_back : (bindings : List BindingEntry) → AllBindingsStand (bare_lives lives) bindings → AllBindingsStand lives bindings
  bindings_back bindings stand id = stand id ∙ ap (λ found. map (binding_entry id) (rows_of found)) (bindings_same id)

  -- the rows of bare lives with the contexts of the lives
  rows_back : (whole : IsLives lives) (instances : List InstanceEntry) → InstancesStand (bare_lives lives) instances → InstancesStand lives (map (joined_instance_entry (contexts_of lives)) instances)
  rows_back whole instances stand id =
      let contexts = contexts_of lives in
      filter-map (is_instance id) (joined_instance_entry contexts) instances
      ∙ ap (map (joined_instance_entry contexts)) (stand id)
      ∙ row_list id (joined_row contexts id) (joined_instance_entry contexts) (λ _. refl) (row_of (life_of (bare_lives lives) id))
      ∙ ap (λ found. map (λ (row : InstanceRow). (id, row)) (option_to_list found)) (ap (λ life. option_map (joined_row contexts id) (row_of life)) (life_of-bare lives id) ∙ row_joined lives id whole)

-- ---- both ways

module _ (contexts : List ContextEntry) (orders : List Entry) (instances : List InstanceEntry) (bindings : List BindingEntry) (none : HaveNoContexts orders instances) where
  pub audited : (joined : List Entry) (joined_instances : List InstanceEntry) → AreJoined contexts orders instances joined joined_instances → AreRowsOfLives joined joined_instances bindings → AreRowsWithContexts contexts orders instances bindings
  audited joined joined_instances joins rows =
      let lives = lives_in joined in
      let same : map bare_entry joined ≡ orders = joins.orders_with.same ∙ none.orders_bare in
      let same_rows : map bare_instance_entry joined_instances ≡ instances = joins.rows_with.same ∙ none.instances_bare in
      let known : contexts ≡ contexts_of lives = are_contexts_of joined joined_instances bindings rows contexts orders instances joins in
      let told : lives_in orders ≡ bare_lives lives = ap lives_in (sym same) ∙ lives_in-bare joined in
      let found : joined_lives contexts (lives_in orders) ≡ lives = ap₂ joined_lives known told ∙ lives_joined lives rows.1.lives in
      record {
        rise = record {
          orders_rise = subst (IsStrictlySortedBy entry_cmp) same (still_rises entry_cmp bare_entry (λ _ _. refl) joined rows.0.orders_rise);
          instances_rise = subst (IsStrictlySortedBy instance_cmp) same_rows (still_rises instance_cmp bare_instance_entry (λ _ _. refl) joined_instances rows.0.instances_rise);
          bindings_rise = rows.0.bindings_rise;
        };
        lives = subst IsLives (sym found) rows.1.lives;
        instances_stand = subst (λ (l : Lives). InstancesStand l instances) (sym told) (subst (InstancesStand (bare_lives lives)) same_rows (rows_bare lives joined_instances rows.1.instances_stand));
        bindings_stand = subst (λ (l : Lives). AllBindingsStand l bindings) (sym told) (bindings_bare lives bindings rows.1.bindings_stand);
        contexts_are = known ∙ ap contexts_of (sym found);
      }

  module _ (it : AreRowsWithContexts contexts orders instances bindings) where
    abbrev pub lists_orders : List Entry
    lists_orders = map (joined_entry contexts) orders

    abbrev pub lists_instances : List InstanceEntry
    lists_instances = map (joined_instance_entry contexts) instances

    abbrev lives : Lives
    lives = joined_lives contexts (lives_in orders)

    bare_is : lives_in orders ≡ bare_lives lives
    bare_is = ap lives_in (sym none.orders_bare) ∙ lives_in-bare orders ∙ sym (bare-joined contexts (lives_in orders))

    pub lists_rows : AreRowsOfLives lists_orders lists_instances bindings
    lists_rows =
        let is = lives_in-joined contexts orders in (
          record {
            orders_rise = still_rises entry_cmp (joined_entry contexts) (λ _ _. refl) orders it.rise.orders_rise;
            instances_rise = still_rises instance_cmp (joined_instance_entry contexts) (λ _ _. refl) instances it.rise.instances_rise;
            bindings_rise = it.rise.bindings_rise;
          },
          record {
            lives = subst IsLives (sym is) it.lives;
            instances_stand = subst (λ (l : Lives). InstancesStand l lists_instances) (sym is)
                (subst (λ entries. InstancesStand lives (map (joined_instance_entry entries) instances)) (sym it.contexts_are) (rows_back lives it.lives instances (subst (λ (l : Lives). InstancesStand l instances) bare_is it.instances_stand)));
            bindings_stand = subst (λ (l : Lives). AllBindingsStand l bindings) (sym is) (bindings_back lives bindings (subst (λ (l : Lives). AllBindingsStand l bindings) bare_is it.bindings_stand));
          },
        )

    pub lists_join : AreJoined contexts orders instances lists_orders lists_instances
    lists_join =
        let joins = rows_join lists_orders lists_instances bindings lists_rows in
        let known : contexts_of (lives_in lists_orders) ≡ contexts = ap contexts_of (lives_in-joined contexts orders) ∙ sym it.contexts_are in
        rw (known, orders_again contexts orders none.orders_bare, rows_again contexts instances none.instances_bare) at joins

  -- what the audit of the joined lists says
  pub answers_joined : (joined : List Entry) (joined_instances : List InstanceEntry) → AreJoined contexts orders instances joined joined_instances → (answer : Bool) → (answer ≡ true) ↔ AreRowsOfLives joined joined_instances bindings
      → (answer ≡ true) ↔ AreRowsWithContexts contexts orders instances bindings
  answers_joined joined joined_instances joins answer says = (λ is. audited joined joined_instances joins (says.0 is), λ it. says.1 (back it))
    where
      back : AreRowsWithContexts contexts orders instances bindings → AreRowsOfLives joined joined_instances bindings
      back it =
          let same = joined_once contexts orders instances (lists_orders it) joined (lists_instances it) joined_instances (lists_join it) joins in
          subst₂ (λ (es : List Entry) (rows : List InstanceEntry). AreRowsOfLives es rows bindings) same.0 same.1 (lists_rows it)

  pub answers_none : ((joined : List Entry) (joined_instances : List InstanceEntry) → AreJoined contexts orders instances joined joined_instances → ⊥) → (false ≡ true) ↔ AreRowsWithContexts contexts orders instances bindings
  answers_none none_joined = (λ is. absurd (cc), λ it. absurd (none_joined (lists_orders it) (lists_instances it) (lists_join it)))

pub if_ok : {A E : Type 0} {P Q : A → Type 0} (r : Result A E) → ((x : A) → P x → Q x) → IfOk r P → IfOk r Q
if_ok (Ok x) f h = f x h
if_ok (Err e) f h = tt
