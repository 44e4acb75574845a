-- Orders and rows of lives, joined with contexts: these are the contexts of the lives, and no others.
use Rattle.std.proofs.Common.{◌≡◌, ℕ, ◌==◌, not, List, [], ◌∷◌, map, filter, Bool, true, false, Less, nat_cmp, Option, None, Some, option_map, refl, sym, ap, ◌∙◌}
use Rattle.std.specs.List.{AllByRecursion}
use Rattle.std.specs.Option.{option_to_list}
use Rattle.std.specs.Ordering.{ordering_then}
use Rattle.sqlite_keyed.proofs.ListLemmas.{all_weaker, ascending-filter, ascending-map, ascending_weaker, filter-map, filter_all, filter_none}
use Rattle.osb_orders.specs.declared.order.Order.{Order}
use Rattle.osb_orders.specs.declared.view.Standing.{Standing}
use Rattle.osb_orders.specs.Life.{Life, standing_of}
use Rattle.osb_orders.specs.Lives.{Lives, life_of}
use Rattle.osb_standing.specs.declared.row.InstanceRow.{InstanceRow}
use Rattle.osb_standing.specs.Rows.{row_of}
use Rattle.osb_audit.specs.declared.entry.BindingEntry.{BindingEntry}
use Rattle.osb_audit.specs.Orders.{Entry, entry_cmp, is_of, lives_in}
use Rattle.osb_audit.specs.Instances.{InstanceEntry, instance_cmp}
use Rattle.osb_audit.specs.Audit.{AreRowsOfLives}
use Rattle.osb_audit.proofs.LivesLemmas.{life_of_lives}
use Rattle.osb_audit.proofs.RunLemmas.{same_text}
use Rattle.osb_bare.specs.Bare.{bare_entry, bare_standing}
use Rattle.osb_joined.specs.declared.entry.ContextEntry.{ContextEntry}
use Rattle.osb_joined.specs.Contexts.{context_cmp, AreRising, context_of_order, context_of_standing, contexts_of_instance, contexts_of}
use Rattle.osb_joined.specs.Join.{context_of_entry, context_of_row, bare_instance_entry, is_of_standing, is_of_order, AreJoined}
use Rattle.osb_joined.proofs.ListLemmas.{filter_hit, filter_miss, filter_swap, all_pass, ascending, same_rising}
use Rattle.osb_joined.proofs.InstanceLemmas.{context_total, is_context_of, IsNumberedFrom, of_orders, of_orders_all, none_is_0}
use Rattle.osb_joined.proofs.LivesLemmas.{numbered, of_instance, contexts_rise}
use Rattle.osb_joined.proofs.ChangeLemmas.{same_contexts}
use Rattle.osb_joined.proofs.WithLemmas.{orders_once, rows_once}

-- ---- of one instance

module _ (id : List ℕ) where
  orders_of_it : (life : Life) → IsNumberedFrom 0 life → filter is_of_order (contexts_of_instance id life) ≡ of_orders id life
  orders_of_it [] h = refl
  orders_of_it (order ∷ later) h =
      let life : Life = order ∷ later in
      filter_miss is_of_order (context_of_standing id (standing_of life)) (of_orders id life) refl
      ∙ filter_all is_of_order (of_orders id life) (of_orders_all id (λ entry. is_of_order entry ≡ true) life
      (all_weaker (λ (order : Order). (order.number == 0) ≡ false) (λ (order : Order). is_of_order (context_of_order id order) ≡ true) (λ order is. ap not is) life (none_is_0 id 0 life h)))

  standing_of_it : (life : Life) → IsNumberedFrom 0 life → filter is_of_standing (contexts_of_instance id life) ≡ map context_of_row (map (λ (row : InstanceRow). (id, row)) (option_to_list (row_of life)))
  standing_of_it [] h = refl
  standing_of_it (order ∷ later) h =
      let life : Life = order ∷ later in
      filter_hit is_of_standing (context_of_standing id (standing_of life)) (of_orders id life) refl
      ∙ ap (λ entries. context_of_standing id (standing_of life) ∷ entries) (filter_none is_of_standing (of_orders id life) (of_orders_all id (λ entry. is_of_standing entry ≡ false) life (none_is_0 id 0 life h)))

  entries_of_it : (entries : List Entry) → AllByRecursion (λ (entry : Entry). is_of id entry ≡ true) entries → of_orders id (map (λ (entry : Entry). entry.1) entries) ≡ map context_of_entry entries
  entries_of_it [] h = refl
  entries_of_it (entry ∷ entries) h = λ i. context_of_order (sym (same_text entry.0 id h.0) i) entry.1 ∷ entries_of_it entries h.1 i

-- ---- of all

module _ (orders : List Entry) (instances : List InstanceEntry) (bindings : List BindingEntry) (rows : AreRowsOfLives orders instances bindings) where
  abbrev lives : Lives
  lives = lives_in orders

  life_numbered : (id : List ℕ) → IsNumberedFrom 0 (life_of lives id)
  life_numbered = numbered lives rows.1.lives

  up : AreRising (contexts_of lives)
  up = contexts_rise lives life_numbered

  split : (test : ContextEntry → Bool) (id : List ℕ) → filter (is_context_of id) (filter test (contexts_of lives)) ≡ filter test (contexts_of_instance id (life_of lives id))
  split test id = filter_swap (is_context_of id) test (contexts_of lives) ∙ ap (filter test) (of_instance lives id)

  orders_rise : AreRising (map context_of_entry orders)
  orders_rise = ascending-map (λ a b. context_cmp a b ≡ Less) context_of_entry orders (ascending entry_cmp orders rows.0.orders_rise)

  instances_rise : AreRising (map context_of_row instances)
  instances_rise = ascending-map (λ a b. context_cmp a b ≡ Less) context_of_row instances
      (ascending_weaker (λ a b. instance_cmp a b ≡ Less) (λ (a b : InstanceEntry). context_cmp (context_of_row a) (context_of_row b) ≡ Less) (λ a b below. ap (λ o. ordering_then o (nat_cmp 0 0)) below) instances
      (ascending instance_cmp instances rows.0.instances_rise))

  orders_at : (id : List ℕ) → filter (is_context_of id) (filter is_of_order (contexts_of lives)) ≡ filter (is_context_of id) (map context_of_entry orders)
  orders_at id =
      split is_of_order id
      ∙ orders_of_it id (life_of lives id) (life_numbered id)
      ∙ ap (of_orders id) (life_of_lives id orders)
      ∙ entries_of_it id (filter (is_of id) orders) (all_pass (is_of id) orders)
      ∙ sym (filter-map (is_context_of id) context_of_entry orders)

  rows_at : (id : List ℕ) → filter (is_context_of id) (filter is_of_standing (contexts_of lives)) ≡ filter (is_context_of id) (map context_of_row instances)
  rows_at id =
      split is_of_standing id
      ∙ standing_of_it id (life_of lives id) (life_numbered id)
      ∙ ap (map context_of_row) (sym (rows.1.instances_stand id))
      ∙ sym (filter-map (is_context_of id) context_of_row instances)

  contexts_of_orders : filter is_of_order (contexts_of lives) ≡ map context_of_entry orders
  contexts_of_orders = same_contexts (filter is_of_order (contexts_of lives)) (map context_of_entry orders) (ascending-filter (λ a b. context_cmp a b ≡ Less) is_of_order (contexts_of lives) up) orders_rise orders_at

  contexts_of_rows : filter is_of_standing (contexts_of lives) ≡ map context_of_row instances
  contexts_of_rows = same_contexts (filter is_of_standing (contexts_of lives)) (map context_of_row instances) (ascending-filter (λ a b. context_cmp a b ≡ Less) is_of_standing (contexts_of lives) up) instances_rise rows_at

  bare_orders : (entries : List Entry) → map bare_entry entries ≡ map bare_entry (map bare_entry entries)
  bare_orders [] = refl
  bare_orders (entry ∷ entries) = ap (λ entries. bare_entry entry ∷ entries) (bare_orders entries)

  bare_again : (standing : Option Standing) → option_map bare_standing standing ≡ option_map bare_standing (option_map bare_standing standing)
  bare_again None = refl
  bare_again (Some standing) = refl

  bare_rows : (entries : List InstanceEntry) → map bare_instance_entry entries ≡ map bare_instance_entry (map bare_instance_entry entries)
  bare_rows [] = refl
  bare_rows (entry ∷ entries) = λ i. (entry.0, record { standing = bare_again entry.1.standing i; busy = entry.1.busy; last_number = entry.1.last_number }) ∷ bare_rows entries i

  pub rows_join : AreJoined (contexts_of lives) (map bare_entry orders) (map bare_instance_entry instances) orders instances
  rows_join = record {
    rising = up;
    orders_with = record { same = bare_orders orders; contexts_are = contexts_of_orders };
    rows_with = record { same = bare_rows instances; contexts_are = contexts_of_rows };
  }

  -- ---- no others

  abbrev kind : Bool → ContextEntry → Bool
  kind true = is_of_standing
  kind false = is_of_order

  kind_is : (entry : ContextEntry) → kind (entry.number == 0) entry ≡ true
  kind_is entry = go (entry.number == 0) refl
    where
      go : (b : Bool) → (entry.number == 0) ≡ b → kind b entry ≡ true
      go true is = is
      go false is = ap not is

  pub are_contexts_of : (contexts : List ContextEntry) (given : List Entry) (given_rows : List InstanceEntry) → AreJoined contexts given given_rows orders instances → contexts ≡ contexts_of lives
  are_contexts_of contexts given given_rows h = same_rising context_cmp context_total kind (λ (entry : ContextEntry). entry.number == 0) kind_is contexts (contexts_of lives) h.rising up same
    where
      same : (b : Bool) → filter (kind b) contexts ≡ filter (kind b) (contexts_of lives)
      same true = h.rows_with.contexts_are ∙ sym contexts_of_rows
      same false = h.orders_with.contexts_are ∙ sym contexts_of_orders

pub joined_once : (contexts : List ContextEntry) (orders : List Entry) (instances : List InstanceEntry) (one other : List Entry) (rows others : List InstanceEntry) → AreJoined contexts orders instances one rows → AreJoined contexts orders instances other others → (one ≡ other) × (rows ≡ others)
joined_once contexts orders instances one other rows others h k = (orders_once contexts orders one other h.orders_with k.orders_with, rows_once contexts instances rows others h.rows_with k.rows_with)
