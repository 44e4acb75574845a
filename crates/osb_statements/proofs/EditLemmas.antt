-- What an edit makes of the rows of the bindings.
use Rattle.std.proofs.Common.{◌≡◌, ℕ, List, [], ◌∷◌, length, map, filter, bytes_eq, Bool, true, false, not, cond, ◌&&◌, true≢false, Some, None, Option, option_map, is_some, slice_get, Ok, IsTrue, Ordering, Less, Equal, Greater, is_eq, is_gt, T, refl, sym, ap, subst, ◌∙◌, arith, nat_cmp}
use Rattle.std.specs.List.{AllByRecursion}
use Rattle.std.specs.Ordering.{eq_by_cmp}
use Rattle.std.specs.Cmp.{IsTotalOrder}
use Rattle.std.proofs.lemmas.Map.Text.{is_eq-slice_cmp}
use Rattle.std.specs.Cmp.Lexicographic.{slice_cmp, nat_list_cmp_total}
use Rattle.std.specs.FinMap.{empty, get, insert, remove, entries, entries_sorted, entries-insert, get-entries, get-remove, len-entries, len-empty, slice_cmp-IsAntisymmetric, nat_cmp-IsAntisymmetric}
use Rattle.std.specs.FinMap.Entries.{find, put, by_order, below_all, is_sorted, where_key, find-where_key, is_sorted-where_key, same_entries}
use Rattle.sqlite_trees.specs.Tree.{IsAscending}
use Rattle.sqlite_keyed.specs.Lists.{insert_sorted, update_where, delete_where}
use Rattle.sqlite_keyed.proofs.ListLemmas.{filter-map, filter_same, filter-filter, all_weaker}
use Rattle.sqlite.specs.Effect.{Database}
use Rattle.sqlite.specs.State.{State, IsUnchanged}
use Rattle.osb_orders.specs.declared.order.OrderKind.{OrderKind}
use Rattle.osb_orders.specs.declared.order.OrderKind.TheVariants.{Create, Update, Delete, Bind, Unbind}
use Rattle.osb_orders.specs.declared.order.OrderState.{OrderState}
use Rattle.osb_orders.specs.declared.order.OrderState.TheVariants.{Running, Succeeded, Failed}
use Rattle.osb_orders.specs.declared.order.Order.{Order}
use Rattle.osb_orders.specs.declared.order.Change.{Change}
use Rattle.osb_orders.specs.declared.view.BindingNow.{BindingNow}
use Rattle.osb_orders.specs.Orders.{is_about_binding}
use Rattle.osb_orders.specs.Life.{Life, since_birth}
use Rattle.osb_orders.specs.Bindings.{of_binding, binding_since, since_bind}
use Rattle.osb_orders.specs.Changed.{changed}
use Rattle.osb_standing.specs.declared.row.BindingEdit.{BindingEdit}
use Rattle.osb_standing.specs.declared.row.BindingEdit.TheVariants.{Keep, Put, Remove, Clear}
use Rattle.osb_standing.specs.Rows.{Bindings, bindings_of}
use Rattle.osb_standing.specs.Binding.{edit_of, edit_over, edited}
use Rattle.osb_standing.specs.Written.{IsWritten}
use Rattle.osb_standing.proofs.RowLemmas.{bindings_are, bindings_stand}
use Rattle.osb_audit.specs.declared.entry.BindingEntry.{BindingEntry}
use Rattle.osb_audit.specs.Bindings.{binding_entry, binding_now, binding_cmp, is_bound, is_binding, BindingsStand}
use Rattle.osb_statements.specs.BindingRows.{binding_found, with_binding_row, binding_put, bindings_edited, PutsBindings, FollowsOrder}
use Rattle.osb_statements.specs.Inside.{with_bindings, ContentSteps}
use Rattle.osb_statements.specs.Stored.{bare_lives_in, instances_in, bindings_in}
use Rattle.osb_statements.specs.Steps.{HasTables, content}
use Rattle.osb_statements.proofs.TestLemmas.{text_itself}
use Rattle.osb_rows.proofs.StoresLemmas.{none_changed, none_deleted}
use Rattle.osb_statements.proofs.LivesLemmas.{key_is, insert_other, filter_update}
use Rattle.osb_audit.proofs.CountLemmas.{less as is_less, left as first_part, right as second_part}
use Rattle.osb_contexts.proofs.TestLemmas.{same_bytes}
use Rattle.osb_audit.proofs.RunLemmas.{text_itself as bytes_itself}
use Rattle.osb_audit.proofs.RisingLemmas.{bindings_total as binding_total}
use Rattle.osb_contexts.proofs.StepLemmas.{within_later}

abbrev Kept : Type 0
Kept = List (List ℕ × BindingNow)

abbrev by_bytes : List ℕ → List ℕ → Ordering
by_bytes = slice_cmp nat_cmp

-- ---- filters and edits of one list

filters_swap : {A : Type 0} (p q : A → Bool) (xs : List A) → filter p (filter q xs) ≡ filter q (filter p xs)
filters_swap p q [] = refl
filters_swap p q (x ∷ xs) = go (p x) refl (q x) refl (filters_swap p q xs)
  where
    go : (b : Bool) → p x ≡ b → (c : Bool) → q x ≡ c → filter p (filter q xs) ≡ filter q (filter p xs) → filter p (cond c (x ∷ filter q xs) (filter q xs)) ≡ filter q (cond b (x ∷ filter p xs) (filter p xs))
    go true is true it more = rw (is, it) (ap (λ l. x ∷ l) more)
    go true is false it more = rw it more
    go false is true it more = rw is more
    go false is false it more = more

none_of : {A : Type 0} (p q : A → Bool) → ((x : A) → p x ≡ true → q x ≡ false) → (xs : List A) → filter p (filter q xs) ≡ []
none_of p q apart [] = refl
none_of p q apart (x ∷ xs) = go (q x) refl (none_of p q apart xs)
  where
    misses : q x ≡ true → (b : Bool) → p x ≡ b → p x ≡ false
    misses it true is = absurd (true≢false (sym it ∙ apart x is))
    misses it false is = is

    go : (c : Bool) → q x ≡ c → filter p (filter q xs) ≡ [] → filter p (cond c (x ∷ filter q xs) (filter q xs)) ≡ []
    go true it more = rw (misses it (p x) refl) more
    go false it more = more

module _ {E : Type 0} (cmp : E → E → Ordering) (total : IsTotalOrder cmp) where
  in_front : (e : E) (ys : List E) → AllByRecursion (λ y. is_gt (cmp e y) ≡ false) ys → insert_sorted cmp e ys ≡ e ∷ ys
  in_front e [] h = refl
  in_front e (y ∷ ys) h = rw h.0 refl

  filter_all : (P : E → Type 0) (p : E → Bool) (xs : List E) → AllByRecursion P xs → AllByRecursion P (filter p xs)
  filter_all P p [] h = tt
  filter_all P p (x ∷ xs) h = go (p x) (filter_all P p xs h.1)
    where
      go : (b : Bool) → AllByRecursion P (filter p xs) → AllByRecursion P (cond b (x ∷ filter p xs) (filter p xs))
      go true more = (h.0, more)
      go false more = more

  not_above : (e x : E) (xs : List E) → is_gt (cmp e x) ≡ false → AllByRecursion (λ y. cmp x y ≡ Less) xs → AllByRecursion (λ y. is_gt (cmp e y) ≡ false) xs
  not_above e x xs low up = go (cmp e x) refl low
    where
      go : (o : Ordering) → cmp e x ≡ o → is_gt o ≡ false → AllByRecursion (λ y. is_gt (cmp e y) ≡ false) xs
      go Less is low = all_weaker _ _ (λ y less. ap is_gt (total.trans e x y is less)) xs up
      go Equal is low = all_weaker _ _ (λ y less. ap is_gt (total.congr e x y is ∙ less)) xs up
      go Greater is low = absurd (true≢false low)

  -- a record that passes has its place among those that pass
  filter_insert : (p : E → Bool) (e : E) (xs : List E) → p e ≡ true → IsAscending (λ a b. cmp a b ≡ Less) xs → filter p (insert_sorted cmp e xs) ≡ insert_sorted cmp e (filter p xs)
  filter_insert p e [] hit up = rw hit refl
  filter_insert p e (x ∷ xs) hit up = go (is_gt (cmp e x)) refl (p x) refl (filter_insert p e xs hit up.1)
    where
      go : (b : Bool) → is_gt (cmp e x) ≡ b → (c : Bool) → p x ≡ c → filter p (insert_sorted cmp e xs) ≡ insert_sorted cmp e (filter p xs)
          → filter p (cond b (x ∷ insert_sorted cmp e xs) (e ∷ x ∷ xs)) ≡ insert_sorted cmp e (cond c (x ∷ filter p xs) (filter p xs))
      go true is true it more = rw (is, it) (ap (λ l. x ∷ l) more)
      go true is false it more = rw it more
      go false is true it more = rw (is, it, hit) refl
      go false is false it more = rw (it, hit) (sym (in_front e (filter p xs) (filter_all (λ y. is_gt (cmp e y) ≡ false) p xs (not_above e x xs is up.0))))

-- ---- the rows of one instance

test_is : (id : List ℕ) (binding : List ℕ) (e : List ℕ × BindingNow) → is_binding id binding (binding_entry id e) ≡ bytes_eq e.0 binding
test_is id binding e = rw (bytes_itself id) refl

bound_key : (id binding : List ℕ) (entry : BindingEntry) → is_binding id binding entry ≡ true → is_bound id entry ≡ true
bound_key id binding entry hit = go (is_bound id entry) refl hit
  where
    go : (b : Bool) → is_bound id entry ≡ b → (b && bytes_eq entry.binding binding) ≡ true → is_bound id entry ≡ true
    go true is h = is
    go false is h = absurd (true≢false (sym h))

-- ---- finding a row

-- the binding as its row keeps it
abbrev as_kept : BindingNow → BindingNow
as_kept row = record row { attributes = of_binding row.attributes }

found_in : (id binding : List ℕ) (es : Kept) → option_map binding_now (slice_get (filter (is_binding id binding) (map (binding_entry id) es)) 0) ≡ option_map as_kept (find by_bytes binding es)
found_in id binding [] = refl
found_in id binding (e ∷ es) = go (bytes_eq e.0 binding) refl (found_in id binding es)
  where
    rest : List BindingEntry
    rest = filter (is_binding id binding) (map (binding_entry id) es)

    go : (b : Bool) → bytes_eq e.0 binding ≡ b → option_map binding_now (slice_get rest 0) ≡ option_map as_kept (find by_bytes binding es)
        → option_map binding_now (slice_get (cond (is_binding id binding (binding_entry id e)) (binding_entry id e ∷ rest) rest) 0) ≡ option_map as_kept (cond (eq_by_cmp by_bytes binding e.0) (Some e.1) (find by_bytes binding es))
    go true is more = rw (test_is id binding e, key_is binding e.0, is) refl
    go false is more = rw (test_is id binding e, key_is binding e.0, is) more

kept_of : (binding : List ℕ) (orders : Life) → option_map as_kept (binding_since binding orders) ≡ binding_since binding orders
kept_of binding [] = refl
kept_of binding (bind ∷ later) = refl

kept_row : (life : Life) (binding : List ℕ) → option_map as_kept (get (bindings_of life) binding) ≡ get (bindings_of life) binding
kept_row life binding = ap (option_map as_kept) (bindings_are life binding) ∙ kept_of binding (since_bind binding (since_birth life)) ∙ sym (bindings_are life binding)

-- the row that is found is that of the life
pub found_row : (id binding : List ℕ) (life : Life) (bindings : List BindingEntry) → BindingsStand id life bindings → binding_found id binding bindings ≡ get (bindings_of life) binding
found_row id binding life bindings stands =
    ap (λ (es : List BindingEntry). option_map binding_now (slice_get es 0)) (sym (filter-filter (is_binding id binding) (is_bound id) (bound_key id binding) bindings) ∙ ap (filter (is_binding id binding)) stands)
    ∙ found_in id binding (entries (bindings_of life))
    ∙ ap (option_map as_kept) (sym (get-entries (bindings_of life) binding))
    ∙ kept_row life binding

-- ---- a row away

tie_back : (a b : List ℕ) → eq_by_cmp by_bytes a b ≡ eq_by_cmp by_bytes b a
tie_back a b = key_is a b ∙ sym (is_eq-slice_cmp b a)

other_way : {A : Type 0} (b : Bool) (x : Option A) → cond b None x ≡ cond (not b) x None
other_way true x = refl
other_way false x = refl

entries_removed : (rows : Bindings) (binding : List ℕ) → entries (remove rows binding) ≡ filter (λ e. not (eq_by_cmp by_bytes binding e.0)) (entries rows)
entries_removed rows binding =
    let passes = λ (key : List ℕ). not (eq_by_cmp by_bytes binding key) in
    let same = slice_cmp-IsAntisymmetric nat_cmp-IsAntisymmetric in
    same_entries by_bytes nat_list_cmp_total same (entries (remove rows binding)) (where_key by_bytes passes (entries rows)) (entries_sorted _) (is_sorted-where_key by_bytes passes (entries rows) (entries_sorted rows))
    (λ q. sym (get-entries (remove rows binding) q) ∙ get-remove nat_list_cmp_total rows binding q ∙ other_way (eq_by_cmp by_bytes q binding) (get rows q) ∙ ap (λ b. cond (not b) (get rows q) None) (tie_back q binding) ∙ ap (λ found. cond (passes q) found None) (get-entries rows q)
    ∙ sym (find-where_key by_bytes passes q (λ x tied. ap passes (sym (same q x tied))) (entries rows)))

no_rows : entries (empty {X = BindingNow} {R = slice_cmp nat_cmp}) ≡ []
no_rows = none _ (sym (len-entries empty) ∙ len-empty (slice_cmp nat_cmp) BindingNow)
  where
    none : {A : Type 0} (items : List A) → length items ≡ 0 → items ≡ []
    none [] e = refl
    none (item ∷ items) e = absurd (omega (arith, e))

-- ---- a row put

put_new : (id binding : List ℕ) (row : BindingNow) (es : Kept) → find by_bytes binding es ≡ None → insert_sorted binding_cmp (binding_entry id (binding, row)) (map (binding_entry id) es) ≡ map (binding_entry id) (put by_bytes binding row es)
put_new id binding row [] none = refl
put_new id binding row (e ∷ es) none = go (by_bytes binding e.0) refl none (put_new id binding row es)
  where
    new : BindingEntry
    new = binding_entry id (binding, row)

    more_rows : List BindingEntry
    more_rows = map (binding_entry id) es

    go : (o : Ordering) → by_bytes binding e.0 ≡ o → cond (is_eq o) (Some e.1) (find by_bytes binding es) ≡ None → (find by_bytes binding es ≡ None → insert_sorted binding_cmp new more_rows ≡ map (binding_entry id) (put by_bytes binding row es))
        → cond (is_gt (binding_cmp new (binding_entry id e))) (binding_entry id e ∷ insert_sorted binding_cmp new more_rows) (new ∷ binding_entry id e ∷ more_rows) ≡ map (binding_entry id) (by_order (by_bytes binding e.0) ((binding, row) ∷ e ∷ es) ((e.0, row) ∷ es) (e ∷ put by_bytes binding row es))
    go Less is none more = rw (text_itself id, is) refl
    go Equal is none more = absurd (cc)
    go Greater is none more = rw (text_itself id, is) (ap (λ l. binding_entry id e ∷ l) (more none))

-- the later keys are other ones
no_tie : (binding key : List ℕ) (es : Kept) → T (below_all by_bytes key es) → ((x : List ℕ) → by_bytes key x ≡ Less → by_bytes binding x ≡ Less) → AllByRecursion (λ (e : List ℕ × BindingNow). by_bytes binding e.0 ≡ Less) es
no_tie binding key [] up below = tt
no_tie binding key (e ∷ es) up below = (below e.0 (is_less _ (first_part _ _ up)), no_tie binding key es (second_part _ _ up) below)

not_found : (binding : List ℕ) (es : Kept) → AllByRecursion (λ (e : List ℕ × BindingNow). by_bytes binding e.0 ≡ Less) es → find by_bytes binding es ≡ None
not_found binding [] up = refl
not_found binding (e ∷ es) up = rw up.0 (not_found binding es up.1)

stay : (id binding : List ℕ) (row : BindingNow) (es : Kept) → AllByRecursion (λ (e : List ℕ × BindingNow). by_bytes binding e.0 ≡ Less) es → update_where (is_binding id binding) (with_binding_row row) (map (binding_entry id) es) ≡ map (binding_entry id) es
stay id binding row [] up = refl
stay id binding row (e ∷ es) up = rw (test_is id binding e, sym (key_is binding e.0), up.0) (ap (λ l. binding_entry id e ∷ l) (stay id binding row es up.1))

put_old : (id binding : List ℕ) (row : BindingNow) (es : Kept) → T (is_sorted by_bytes es) → is_some (find by_bytes binding es) ≡ true → update_where (is_binding id binding) (with_binding_row row) (map (binding_entry id) es) ≡ map (binding_entry id) (put by_bytes binding row es)
put_old id binding row [] up found = absurd (true≢false (sym found))
put_old id binding row (e ∷ es) up found = go (by_bytes binding e.0) refl found (put_old id binding row es (second_part _ _ up))
  where
    changed_rows : List BindingEntry
    changed_rows = update_where (is_binding id binding) (with_binding_row row) (map (binding_entry id) es)

    go : (o : Ordering) → by_bytes binding e.0 ≡ o → is_some (cond (is_eq o) (Some e.1) (find by_bytes binding es)) ≡ true → (is_some (find by_bytes binding es) ≡ true → changed_rows ≡ map (binding_entry id) (put by_bytes binding row es))
        → cond (is_binding id binding (binding_entry id e)) (with_binding_row row (binding_entry id e)) (binding_entry id e) ∷ changed_rows ≡ map (binding_entry id) (by_order (by_bytes binding e.0) ((binding, row) ∷ e ∷ es) ((e.0, row) ∷ es) (e ∷ put by_bytes binding row es))
    go Less is found more =
        let none = not_found binding es (no_tie binding e.0 es (first_part _ _ up) (λ x less. nat_list_cmp_total.trans binding e.0 x is less)) in
        absurd (true≢false (sym found ∙ ap is_some none))
    go Equal is found more =
        let tail = stay id binding row es (no_tie binding e.0 es (first_part _ _ up) (λ x less. nat_list_cmp_total.congr binding e.0 x is ∙ less)) in
        rw (test_is id binding e, sym (key_is binding e.0), is) (ap (λ l. binding_entry id (e.0, row) ∷ l) tail)
    go Greater is found more = rw (test_is id binding e, sym (key_is binding e.0), is) (ap (λ l. binding_entry id e ∷ l) (more found))

-- ---- the edits

module _ (id : List ℕ) (life : Life) (bindings : List BindingEntry) (rising : IsAscending (λ a b. binding_cmp a b ≡ Less) bindings) (stands : BindingsStand id life bindings) where
  abbrev rows : Bindings
  rows = bindings_of life

  apart : (p : BindingEntry → Bool) → ((entry : BindingEntry) → p entry ≡ true → is_bound id entry ≡ true) → (other : List ℕ) → bytes_eq id other ≡ false → filter p (filter (is_bound other) bindings) ≡ []
  apart p mine other differs = none_of p (is_bound other) (λ entry hit. ap (λ text. bytes_eq text other) (same_bytes entry.instance id (mine entry hit)) ∙ differs) bindings

  removed : (binding : List ℕ) → PutsBindings id (remove rows binding) bindings (delete_where (is_binding id binding) bindings)
  removed binding =
      let hit = is_binding id binding in
      record {
        here = filters_swap (is_bound id) (λ entry. not (hit entry)) bindings
            ∙ ap (filter (λ entry. not (hit entry))) stands
            ∙ filter-map (λ entry. not (hit entry)) (binding_entry id) (entries rows)
            ∙ ap (map (binding_entry id)) (filter_same (λ e. not (hit (binding_entry id e))) (λ e. not (eq_by_cmp by_bytes binding e.0)) (λ e. ap not (test_is id binding e ∙ sym (key_is binding e.0))) (entries rows))
            ∙ ap (map (binding_entry id)) (sym (entries_removed rows binding));
        others = λ other differs. filters_swap (is_bound other) (λ entry. not (hit entry)) bindings ∙ none_deleted hit (filter (is_bound other) bindings) (apart hit (bound_key id binding) other differs);
      }

  cleared : PutsBindings id empty bindings (delete_where (is_bound id) bindings)
  cleared = record {
    here = none_of (is_bound id) (λ entry. not (is_bound id entry)) (λ entry hit. ap not hit) bindings ∙ ap (map (binding_entry id)) (sym no_rows);
    others = λ other differs. filters_swap (is_bound other) (λ entry. not (is_bound id entry)) bindings ∙ none_deleted (is_bound id) (filter (is_bound other) bindings) (apart (is_bound id) (λ entry hit. hit) other differs);
  }

  put_row : (binding : List ℕ) (row : BindingNow) (found : Option BindingNow) → found ≡ get rows binding → PutsBindings id (insert rows binding row) bindings (binding_put id binding row found bindings)
  put_row binding row None none = record {
    here = filter_insert binding_cmp binding_total (is_bound id) (binding_entry id (binding, row)) bindings (bytes_itself id) rising
        ∙ ap (insert_sorted binding_cmp (binding_entry id (binding, row))) stands
        ∙ put_new id binding row (entries rows) (sym (get-entries rows binding) ∙ sym none)
        ∙ ap (map (binding_entry id)) (sym (entries-insert nat_list_cmp_total rows binding row));
    others = λ other differs. insert_other binding_cmp binding_total (is_bound other) (binding_entry id (binding, row)) bindings differs;
  }
  put_row binding row (Some old) some =
      let hit = is_binding id binding in
      record {
        here = filter_update (is_bound id) hit (with_binding_row row) (λ _. refl) bindings
            ∙ ap (update_where hit (with_binding_row row)) stands
            ∙ put_old id binding row (entries rows) (entries_sorted rows) (ap is_some (sym (get-entries rows binding) ∙ sym some))
            ∙ ap (map (binding_entry id)) (sym (entries-insert nat_list_cmp_total rows binding row));
        others = λ other differs. filter_update (is_bound other) hit (with_binding_row row) (λ _. refl) bindings ∙ none_changed hit (with_binding_row row) (filter (is_bound other) bindings) (apart hit (bound_key id binding) other differs);
      }

  -- the rows after an edit are those of the edited bindings
  pub puts_edited : (edit : BindingEdit) (binding : List ℕ) → PutsBindings id (edited edit binding rows) bindings (bindings_edited edit id binding bindings)
  puts_edited Keep binding = record { here = stands; others = λ other differs. refl }
  puts_edited (Put row) binding = put_row binding row (binding_found id binding bindings) (found_row id binding life bindings stands)
  puts_edited Remove binding = removed binding
  puts_edited Clear binding = cleared

-- ---- the functions

pub no_entries : (entries : List BindingEntry) → is_some (option_map binding_now (slice_get entries 0)) ≡ false → entries ≡ []
no_entries [] none = refl
no_entries (entry ∷ entries) none = absurd (true≢false none)

pub unchanged_itself : (s : State) → IsTrue s.is_open → IsUnchanged s s
unchanged_itself s live = (record { was_open = live; is_open = live; now_is = refl; committed_is = refl; mode = refl }, record { changes = refl; last_rowid = refl }, refl)

not_about : (kind : OrderKind) (state : OrderState) (order : Order) (old : Option BindingNow) → is_about_binding kind ≡ false → edit_over kind state order old ≡ edit_over kind state order None
not_about Create state order old other = refl
not_about Update state order old other = refl
not_about Delete Running order old other = refl
not_about Delete Succeeded order old other = refl
not_about Delete Failed order old other = refl
not_about Bind state order old other = absurd (true≢false other)
not_about Unbind state order old other = absurd (true≢false other)

-- what is known of an edit
abbrev pub IsEditOf : List ℕ → Order → BindingEdit → List BindingEntry → Type 0
IsEditOf id order edit bindings = (life : Life) (change : Change) → IsWritten life change order → BindingsStand id life bindings → bindings_of (changed change life) ≡ edited edit order.binding (bindings_of life)

pub edit_without : (id : List ℕ) (order : Order) (edit : BindingEdit) (bindings : List BindingEntry) → is_about_binding order.kind ≡ false → edit ≡ edit_of order None → IsEditOf id order edit bindings
edit_without id order edit bindings other is life change w stands =
    let old = get (bindings_of life) order.binding in
    let same : edit_of order old ≡ edit = not_about order.kind order.outcome.state order old other ∙ sym is in
    bindings_stand life change {old = old} {E = Unit {0}} w refl (Ok (edit_of order old)) refl ∙ ap (λ e. edited e order.binding (bindings_of life)) same

module _ (old mid new : State) (id : List ℕ) (order : Order) (edit : BindingEdit) (same : IsUnchanged old mid) (steps : ContentSteps mid new (with_bindings (bindings_edited edit id order.binding (content mid).bindings) (content mid))) (tables : HasTables mid.now)
    (is_edit : IsEditOf id order edit (content mid).bindings) where
  now : mid.now ≡ old.now
  now = same.0.now_is

  rows_follow : (life : Life) (change : Change) → IsWritten life change order → BindingsStand id life (content old).bindings → PutsBindings id (bindings_of (changed change life)) (content old).bindings (content new).bindings
  rows_follow life change w stands =
      let here = subst (λ (db : Database). BindingsStand id life (bindings_in db.trees)) (sym now) stands in
      let puts = puts_edited id life (content mid).bindings tables.holds.bindings.rising here edit order.binding in
      let after = subst (PutsBindings id (edited edit order.binding (bindings_of life)) (content mid).bindings) (sym steps.bindings_are) puts in
      let rows = subst (λ (rows : Bindings). PutsBindings id rows (content mid).bindings (content new).bindings) (sym (is_edit life change w here)) after in
      subst (λ (db : Database). PutsBindings id (bindings_of (changed change life)) (bindings_in db.trees) (content new).bindings) now rows

  -- after a query that changed nothing and the statement of the edit
  pub follows_by : FollowsOrder old new id order
  follows_by = record {
    steps = record {
      within = within_later old mid new same steps.within;
      tables = steps.tables;
      lives_are = steps.lives_are ∙ ap (λ (db : Database). bare_lives_in db.trees) now;
      instances_are = steps.instances_are ∙ ap (λ (db : Database). instances_in db.trees) now;
      bindings_are = refl;
      sound = steps.sound;
      contexts_kept = steps.contexts_kept ∙ ap (λ (db : Database). db.trees 7) now;
    };
    puts = rows_follow;
  }
