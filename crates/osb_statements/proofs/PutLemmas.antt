-- An instance gets a row, and the rows of the lives that it changes.
use Rattle.std.proofs.Common.{◌≡◌, ℕ, List, [], ◌∷◌, ◌++◌, map, filter, bytes_eq, Bool, true, false, cond, true≢false, Option, Some, None, Less, refl, sym, ap, subst, ◌∙◌}
use Rattle.std.specs.Prelude.{unwrap_or}
use Rattle.std.specs.List.{AllByRecursion}
use Rattle.std.specs.Option.{option_to_list}
use Rattle.std.specs.Cmp.Lexicographic.{nat_list_cmp_total}
use Rattle.std.specs.FinMap.{get, insert, get-insert}
use Rattle.sqlite.specs.State.{State}
use Rattle.sqlite_trees.specs.Tree.{IsAscending}
use Rattle.sqlite_keyed.specs.Lists.{insert_sorted, update_where}
use Rattle.osb_orders.specs.declared.order.Order.{Order}
use Rattle.osb_orders.specs.declared.order.Change.{Change}
use Rattle.osb_orders.specs.declared.order.Change.TheVariants.{Nothing, Append, Finish}
use Rattle.osb_orders.specs.Life.{Life}
use Rattle.osb_orders.specs.Lives.{Lives, life_of}
use Rattle.osb_orders.specs.Changed.{changed, lives_changed}
use Rattle.osb_standing.specs.declared.row.InstanceRow.{InstanceRow}
use Rattle.osb_standing.specs.Rows.{row_of}
use Rattle.osb_standing.specs.Written.{IsWritten}
use Rattle.osb_audit.specs.Instances.{InstanceEntry, instance_cmp, is_instance, IsRowOf, InstancesStand}
use Rattle.osb_statements.specs.Inside.{with_row, with_instances, Puts, ContentSteps, PutsInstance}
use Rattle.sqlite.specs.Tree.{Trees}
use Rattle.osb_statements.specs.Stored.{instances_in, bare_lives_in}
use Rattle.osb_statements.specs.Steps.{HasTables, content}
use Rattle.osb_statements.proofs.TestLemmas.{bytes_back}
use Rattle.osb_statements.proofs.LivesLemmas.{insert_other, insert_last, filter_update, key_is}
use Rattle.osb_contexts.proofs.TestLemmas.{same_bytes}
use Rattle.osb_audit.proofs.RunLemmas.{text_itself as bytes_itself}
use Rattle.osb_audit.proofs.RisingLemmas.{instances_total as instance_total}

-- ---- one row in the list

none_hit : (id : List ℕ) (P : InstanceEntry → Type 0) (entries : List InstanceEntry) → filter (is_instance id) entries ≡ [] → AllByRecursion (λ entry. is_instance id entry ≡ true → P entry) entries
none_hit id P [] none = tt
none_hit id P (entry ∷ entries) none = go (is_instance id entry) refl none (none_hit id P entries)
  where
    go : (b : Bool) → is_instance id entry ≡ b → cond b (entry ∷ filter (is_instance id) entries) (filter (is_instance id) entries) ≡ []
        → (filter (is_instance id) entries ≡ [] → AllByRecursion (λ entry. is_instance id entry ≡ true → P entry) entries) → AllByRecursion (λ entry. is_instance id entry ≡ true → P entry) (entry ∷ entries)
    go true is none more = absurd (cc)
    go false is none more = (λ hit. absurd (true≢false (sym hit ∙ is)), more none)

puts_new : (id : List ℕ) (row : InstanceRow) (entries : List InstanceEntry) → IsAscending (λ a b. instance_cmp a b ≡ Less) entries → IsRowOf id None entries → Puts id row entries (insert_sorted instance_cmp (id, row) entries)
puts_new id row entries up none = record {
  here = insert_last instance_cmp instance_total (is_instance id) (id, row) entries (bytes_itself id) (none_hit id (λ entry. instance_cmp entry (id, row) ≡ Less) entries none) up ∙ ap (λ es. es ++ (id, row) ∷ []) none;
  others = λ other apart. insert_other instance_cmp instance_total (is_instance other) (id, row) entries apart;
}

-- rows of other instances stay
others_stay : (id other : List ℕ) (row : InstanceRow) → bytes_eq id other ≡ false → (entries : List InstanceEntry) → update_where (is_instance id) (with_row row) (filter (is_instance other) entries) ≡ filter (is_instance other) entries
others_stay id other row apart [] = refl
others_stay id other row apart (entry ∷ entries) = go (is_instance other entry) refl (others_stay id other row apart entries)
  where
    misses : is_instance other entry ≡ true → is_instance id entry ≡ false
    misses is = ap (λ text. bytes_eq text id) (same_bytes entry.0 other is) ∙ bytes_back id other apart

    go : (b : Bool) → is_instance other entry ≡ b → update_where (is_instance id) (with_row row) (filter (is_instance other) entries) ≡ filter (is_instance other) entries
        → update_where (is_instance id) (with_row row) (cond b (entry ∷ filter (is_instance other) entries) (filter (is_instance other) entries)) ≡ cond b (entry ∷ filter (is_instance other) entries) (filter (is_instance other) entries)
    go true is more = rw (misses is) (ap (λ es. entry ∷ es) more)
    go false is more = more

puts_again : (id : List ℕ) (row before : InstanceRow) (entries : List InstanceEntry) → IsRowOf id (Some before) entries → Puts id row entries (update_where (is_instance id) (with_row row) entries)
puts_again id row before entries one = record {
  here = filter_update (is_instance id) (is_instance id) (with_row row) (λ _. refl) entries ∙ ap (update_where (is_instance id) (with_row row)) one ∙ rw (bytes_itself id) refl;
  others = λ other apart. filter_update (is_instance other) (is_instance id) (with_row row) (λ _. refl) entries ∙ others_stay id other row apart entries;
}

-- ---- in the tables

module _ (old new : State) (id : List ℕ) (row : InstanceRow) where
  puts_by : (instances : List InstanceEntry) → ContentSteps old new (with_instances instances (content old)) → Puts id row (content old).instances instances → PutsInstance old new id row
  puts_by instances steps puts = record {
    steps = record {
      within = steps.within;
      tables = steps.tables;
      lives_are = steps.lives_are;
      instances_are = refl;
      bindings_are = steps.bindings_are;
      sound = steps.sound;
      contexts_kept = steps.contexts_kept;
    };
    puts = subst (Puts id row (content old).instances) (sym steps.instances_are) puts;
  }

  pub inserted : HasTables old.now → IsRowOf id None (content old).instances → ContentSteps old new (with_instances (insert_sorted instance_cmp (id, row) (content old).instances) (content old)) → PutsInstance old new id row
  inserted tables none steps = puts_by _ steps (puts_new id row (content old).instances tables.holds.instances.rising none)

  pub updated : (before : InstanceRow) → IsRowOf id (Some before) (content old).instances → ContentSteps old new (with_instances (update_where (is_instance id) (with_row row) (content old).instances) (content old)) → PutsInstance old new id row
  updated before one steps = puts_by _ steps (puts_again id row before (content old).instances one)

-- ---- the rows of the changed lives

pub inserted_life : (lives : Lives) (id other : List ℕ) (life : Life) (b : Bool) → bytes_eq id other ≡ b → life_of (insert lives id life) other ≡ cond b life (life_of lives other)
inserted_life lives id other life true is =
    let found : get (insert lives id life) other ≡ Some life = get-insert nat_list_cmp_total lives id life other ∙ rw (key_is other id, is) refl in
    ap (λ (o : Option Life). unwrap_or o []) found
inserted_life lives id other life false is =
    let found : get (insert lives id life) other ≡ get lives other = get-insert nat_list_cmp_total lives id life other ∙ rw (key_is other id, is) refl in
    ap (λ (o : Option Life). unwrap_or o []) found

pub life_changed : (lives : Lives) (id other : List ℕ) (change : Change) (order : Order) → IsWritten (life_of lives id) change order → (b : Bool) → bytes_eq id other ≡ b
    → life_of (lives_changed change id lives) other ≡ cond b (changed change (life_of lives id)) (life_of lives other)
life_changed lives id other Nothing order written b is = let none : None ≡ Some order = written.writes in cc
life_changed lives id other (Append added) order written b is = inserted_life lives id other _ b is
life_changed lives id other (Finish number outcome) order written b is = inserted_life lives id other _ b is

pub instances_stand : (lives : Lives) (id : List ℕ) (change : Change) (order : Order) (row : InstanceRow) (before after : List InstanceEntry) → IsWritten (life_of lives id) change order → row_of (changed change (life_of lives id)) ≡ Some row
    → Puts id row before after → InstancesStand lives before → InstancesStand (lives_changed change id lives) after
instances_stand lives id change order row before after written follows puts stood other = go (bytes_eq id other) refl
  where
    go : (b : Bool) → bytes_eq id other ≡ b → IsRowOf other (row_of (life_of (lives_changed change id lives) other)) after
    go true is =
        let life = life_changed lives id other change order written true is in
        subst (λ (l : Life). IsRowOf other (row_of l) after) (sym life) (subst (λ (found : Option InstanceRow). IsRowOf other found after) (sym follows) (subst (λ i. IsRowOf i (Some row) after) (same_bytes id other is) puts.here))
    go false is =
        let life = life_changed lives id other change order written false is in
        subst (λ (l : Life). IsRowOf other (row_of l) after) (sym life) (puts.others other is ∙ stood other)

-- one row is found
abbrev first_row : List InstanceEntry → Option InstanceRow
first_row [] = None
first_row (entry ∷ entries) = Some entry.1

pub one_found : (id : List ℕ) (a b : Option InstanceRow) (instances : List InstanceEntry) → IsRowOf id a instances → IsRowOf id b instances → a ≡ b
one_found id a b instances p q = sym (back a) ∙ ap first_row (sym p ∙ q) ∙ back b
  where
    back : (found : Option InstanceRow) → first_row (map (λ (row : InstanceRow). (id, row)) (option_to_list found)) ≡ found
    back None = refl
    back (Some row) = refl

-- the row that was put is that of the changed life
pub written_stands : (id : List ℕ) (order : Order) (row : InstanceRow) (found : Option InstanceRow) (first read last : Trees) (after : List InstanceEntry) → read ≡ first → last ≡ read → IsRowOf id found (instances_in first)
    → ((change : Change) → IsWritten (life_of (bare_lives_in read) id) change order → found ≡ row_of (life_of (bare_lives_in read) id) → row_of (changed change (life_of (bare_lives_in read) id)) ≡ Some row)
    → Puts id row (instances_in last) after → (change : Change) → IsWritten (life_of (bare_lives_in first) id) change order → InstancesStand (bare_lives_in first) (instances_in first) → InstancesStand (lives_changed change id (bare_lives_in first)) after
written_stands id order row found first read last after is-read is-last shows follows puts change written stood =
    let told = one_found id found (row_of (life_of (bare_lives_in first) id)) (instances_in first) shows (stood id) in
    let next = subst (λ trees. (change : Change) → IsWritten (life_of (bare_lives_in trees) id) change order → found ≡ row_of (life_of (bare_lives_in trees) id) → row_of (changed change (life_of (bare_lives_in trees) id)) ≡ Some row) is-read follows in
    instances_stand (bare_lives_in first) id change order row (instances_in first) after written (next change written told) (subst (λ trees. Puts id row (instances_in trees) after) (is-last ∙ is-read) puts) stood
