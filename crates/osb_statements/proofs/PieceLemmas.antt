-- Lists of rows that are cut by the ids of their instances, and put together again.
use Rattle.std.proofs.Common.{◌≡◌, ℕ, Bool, true, false, not, cond, List, [], ◌∷◌, ◌++◌, map, filter, bytes_eq, Ordering, Less, Equal, Greater, is_gt, true≢false, refl, sym, ap, ap₂, subst, ◌∙◌}
use Rattle.std.specs.Prelude.{IfSome}
use Rattle.std.specs.List.{AllByRecursion}
use Rattle.std.specs.List.Sorted.{IsStrictlySortedBy}
use Rattle.std.specs.Option.{option_to_list}
use Rattle.std.specs.Ordering.{nat_cmp, ordering_then, ordering_reverse}
use Rattle.std.specs.Cmp.Lexicographic.{slice_cmp, nat_list_cmp_total}
use Rattle.std.specs.FinMap.{entries}
use Rattle.std.proofs.lemmas.Bool.{false_from_ne_true}
use Rattle.std.proofs.lemmas.List.{append-nil, map-append}
use Rattle.std.proofs.lemmas.List.Elements.{filter-append}
use Rattle.sqlite_trees.specs.Tree.{IsAscending}
use Rattle.sqlite_keyed.proofs.ListLemmas.{all_map, all_weaker, ascending-append, ascending-filter, filter-filter, filter-map, filter_none}
use Rattle.osb_orders.specs.Life.{Life}
use Rattle.osb_orders.specs.IsLife.{IsInstance, IsLives}
use Rattle.osb_standing.specs.declared.row.InstanceRow.{InstanceRow}
use Rattle.osb_standing.specs.Rows.{row_of, bindings_of}
use Rattle.osb_audit.specs.declared.entry.BindingEntry.{BindingEntry}
use Rattle.osb_audit.specs.Orders.{Entry, entry_cmp, is_of, lives_in}
use Rattle.osb_audit.specs.Instances.{InstanceEntry, instance_cmp, is_instance}
use Rattle.osb_audit.specs.Bindings.{binding_cmp, binding_entry, is_bound}
use Rattle.osb_audit.specs.Audit.{AreRowsOfLives}
use Rattle.osb_audit.specs.Life.{orders_in}
use Rattle.osb_audit.proofs.RunLemmas.{by_bytes, same_text, text_itself as itself}
use Rattle.osb_audit.proofs.LivesLemmas.{life_in, life_of_lives, opened, no_bindings, StandsAt, stands_at, stand_from}
use Rattle.osb_bare.specs.Bare.{bare_entry}
use Rattle.osb_joined.specs.declared.entry.ContextEntry.{ContextEntry}
use Rattle.osb_joined.specs.Contexts.{context_cmp, contexts_of, contexts_of_instance}
use Rattle.osb_joined.specs.Joined.{joined_entry}
use Rattle.osb_joined.specs.Join.{bare_instance_entry, context_of_entry, context_of_row, is_of_order, is_of_standing, AreJoined}
use Rattle.osb_joined.specs.Audit.{HaveNoContexts, AreRowsWithContexts}
use Rattle.osb_joined.proofs.ChangeLemmas.{same_contexts}
use Rattle.osb_joined.proofs.InstanceLemmas.{is_context_of}
use Rattle.osb_joined.proofs.ListLemmas.{all_pass, ascending, filter_hit, filter_swap, sorted_by}
use Rattle.osb_joined.proofs.LivesLemmas.{contexts_rise, numbered, of_instance}
use Rattle.osb_joined.proofs.AuditedLemmas.{joined_instance_entry, lists_orders, lists_instances, lists_rows, lists_join, audited}

-- ---- items by their ids

module _ {X : Type 0} (key : X → List ℕ) (chosen : List ℕ → Bool) where
  abbrev is_chosen : X → Bool
  is_chosen x = chosen (key x)

  abbrev has : List ℕ → X → Bool
  has id x = bytes_eq (key x) id

  -- where all ids are chosen there is nothing of another one
  pub none_other : (id : List ℕ) → chosen id ≡ false → (xs : List X) → AllByRecursion (λ x. chosen (key x) ≡ true) xs → filter (has id) xs ≡ []
  none_other id other xs all =
      filter_none (has id) xs (all_weaker (λ x. chosen (key x) ≡ true) (λ x. has id x ≡ false)
      (λ x is. false_from_ne_true (has id x) (λ here. true≢false (sym is ∙ ap chosen (same_text (key x) id here) ∙ other))) xs all)

  -- of a chosen id all is left, of another one nothing
  pub chosen_left : (id : List ℕ) → chosen id ≡ true → (xs : List X) → filter (has id) (filter is_chosen xs) ≡ filter (has id) xs
  chosen_left id is xs = filter-filter (has id) is_chosen (λ x here. ap chosen (same_text (key x) id here) ∙ is) xs

  pub other_gone : (id : List ℕ) → chosen id ≡ false → (xs : List X) → filter (has id) (filter is_chosen xs) ≡ []
  other_gone id other xs = none_other id other (filter is_chosen xs) (all_pass is_chosen xs)

rising_left : {X : Type 0} (cmp : X → X → Ordering) (p : X → Bool) (xs : List X) → IsStrictlySortedBy cmp xs → IsStrictlySortedBy cmp (filter p xs)
rising_left cmp p xs up = sorted_by cmp (filter p xs) (ascending-filter (λ a b. cmp a b ≡ Less) p xs (ascending cmp xs up))

-- ---- what stands at one id

-- it depends on the items of that id only
stands_as : (id : List ℕ) (orders new : List Entry) (instances rows : List InstanceEntry) (bindings bound : List BindingEntry) → filter (is_of id) new ≡ filter (is_of id) orders → filter (is_instance id) rows ≡ filter (is_instance id) instances
    → filter (is_bound id) bound ≡ filter (is_bound id) bindings → StandsAt id (life_in id orders) instances bindings → StandsAt id (life_in id new) rows bound
stands_as id orders new instances rows bindings bound same same_rows same_bound stands =
    let life : life_in id orders ≡ life_in id new = sym (ap orders_in same) in record {
      instance = subst (λ (life : Life). IfSome (opened life) (IsInstance id)) life stands.instance;
      row = same_rows ∙ stands.row ∙ ap (λ (life : Life). map (λ (row : InstanceRow). (id, row)) (option_to_list (row_of life))) life;
      bound = same_bound ∙ stands.bound ∙ ap (λ (life : Life). map (binding_entry id) (entries (bindings_of life))) life;
    }

nothing_stands : (id : List ℕ) → StandsAt id (life_in id []) [] []
nothing_stands id = record { instance = tt; row = refl; bound = sym (ap (map (binding_entry id)) no_bindings) }

pub rows_of_none : AreRowsOfLives [] [] []
unfolding IsStrictlySortedBy
rows_of_none = (record { orders_rise = tt; instances_rise = tt; bindings_rise = tt }, stand_from [] [] [] nothing_stands)

-- ---- the rows of some instances

module _ (chosen : List ℕ → Bool) where
  abbrev pub orders_of : List Entry → List Entry
  orders_of = filter (λ (entry : Entry). chosen entry.0)

  abbrev pub instances_of : List InstanceEntry → List InstanceEntry
  instances_of = filter (λ (entry : InstanceEntry). chosen entry.0)

  abbrev pub bindings_of_those : List BindingEntry → List BindingEntry
  bindings_of_those = filter (λ (entry : BindingEntry). chosen entry.instance)

  abbrev is_of_those : ContextEntry → Bool
  is_of_those entry = chosen entry.instance

  abbrev pub contexts_of_those : List ContextEntry → List ContextEntry
  contexts_of_those = filter is_of_those

  module _ (orders : List Entry) (instances : List InstanceEntry) (bindings : List BindingEntry) where
    -- are those of well-formed lives where the rows of all are
    pub rows_of_some : AreRowsOfLives orders instances bindings → AreRowsOfLives (orders_of orders) (instances_of instances) (bindings_of_those bindings)
    rows_of_some whole = (
      record {
        orders_rise = rising_left entry_cmp _ orders whole.0.orders_rise;
        instances_rise = rising_left instance_cmp _ instances whole.0.instances_rise;
        bindings_rise = rising_left binding_cmp _ bindings whole.0.bindings_rise;
      },
      stand_from (orders_of orders) (instances_of instances) (bindings_of_those bindings) (λ id. at id (chosen id) refl),
    )
      where
        at : (id : List ℕ) (b : Bool) → chosen id ≡ b → StandsAt id (life_in id (orders_of orders)) (instances_of instances) (bindings_of_those bindings)
        at id true is =
            stands_as id orders (orders_of orders) instances (instances_of instances) bindings (bindings_of_those bindings)
            (chosen_left (λ (entry : Entry). entry.0) chosen id is orders)
            (chosen_left (λ (entry : InstanceEntry). entry.0) chosen id is instances)
            (chosen_left (λ (entry : BindingEntry). entry.instance) chosen id is bindings)
            (stands_at orders instances bindings whole.1 id)
        at id false is =
            stands_as id [] (orders_of orders) [] (instances_of instances) [] (bindings_of_those bindings)
            (other_gone (λ (entry : Entry). entry.0) chosen id is orders)
            (other_gone (λ (entry : InstanceEntry). entry.0) chosen id is instances)
            (other_gone (λ (entry : BindingEntry). entry.instance) chosen id is bindings)
            (nothing_stands id)

  module _ (contexts : List ContextEntry) (orders : List Entry) (instances : List InstanceEntry) (bindings : List BindingEntry) (none : HaveNoContexts orders instances) where
    bare_left : HaveNoContexts (orders_of orders) (instances_of instances)
    bare_left = record {
      orders_bare = sym (filter-map (λ (entry : Entry). chosen entry.0) bare_entry orders) ∙ ap orders_of none.orders_bare;
      instances_bare = sym (filter-map (λ (entry : InstanceEntry). chosen entry.0) bare_instance_entry instances) ∙ ap instances_of none.instances_bare;
    }

    joined_left : (joined : List Entry) (rows : List InstanceEntry) → AreJoined contexts orders instances joined rows → AreJoined (contexts_of_those contexts) (orders_of orders) (instances_of instances) (orders_of joined) (instances_of rows)
    joined_left joined rows joins = record {
      rising = ascending-filter (λ a b. context_cmp a b ≡ Less) is_of_those contexts joins.rising;
      orders_with = record {
        same = sym (filter-map (λ (entry : Entry). chosen entry.0) bare_entry joined) ∙ ap orders_of joins.orders_with.same ∙ filter-map (λ (entry : Entry). chosen entry.0) bare_entry orders;
        contexts_are = filter_swap is_of_order is_of_those contexts ∙ ap (filter is_of_those) joins.orders_with.contexts_are ∙ filter-map is_of_those context_of_entry joined;
      };
      rows_with = record {
        same = sym (filter-map (λ (entry : InstanceEntry). chosen entry.0) bare_instance_entry rows) ∙ ap instances_of joins.rows_with.same ∙ filter-map (λ (entry : InstanceEntry). chosen entry.0) bare_instance_entry instances;
        contexts_are = filter_swap is_of_standing is_of_those contexts ∙ ap (filter is_of_those) joins.rows_with.contexts_are ∙ filter-map is_of_those context_of_row rows;
      };
    }

    -- the same of rows that were read apart from their contexts
    pub contexts_of_some : AreRowsWithContexts contexts orders instances bindings → AreRowsWithContexts (contexts_of_those contexts) (orders_of orders) (instances_of instances) (bindings_of_those bindings)
    contexts_of_some whole =
        let joined : List Entry = lists_orders contexts orders instances bindings none whole in
        let rows : List InstanceEntry = lists_instances contexts orders instances bindings none whole in
        let stand = rows_of_some joined rows bindings (lists_rows contexts orders instances bindings none whole) in
        audited (contexts_of_those contexts) (orders_of orders) (instances_of instances) (bindings_of_those bindings) bare_left (orders_of joined) (instances_of rows)
        (joined_left joined rows (lists_join contexts orders instances bindings none whole)) stand

-- ---- two pieces

-- an id up to the last of the first piece is below one above it
below : (last id other : List ℕ) → is_gt (by_bytes id last) ≡ false → is_gt (by_bytes other last) ≡ true → by_bytes id other ≡ Less
below last id other up above =
    let later : by_bytes last other ≡ Less = nat_list_cmp_total.antisymm last other ∙ ap ordering_reverse (greater (by_bytes other last) above) in
    go (by_bytes id last) refl up later
  where
    greater : (o : Ordering) → is_gt o ≡ true → o ≡ Greater
    greater Less is = absurd (cc)
    greater Equal is = absurd (cc)
    greater Greater is = refl

    go : (o : Ordering) → by_bytes id last ≡ o → is_gt o ≡ false → by_bytes last other ≡ Less → by_bytes id other ≡ Less
    go Less is up later = nat_list_cmp_total.trans id last other is later
    go Equal is up later = nat_list_cmp_total.congr id last other is ∙ later
    go Greater is up later = absurd (cc)

module _ {X : Type 0} (key : X → List ℕ) (last : List ℕ) (xs ys : List X) (low : AllByRecursion (λ x. is_gt (by_bytes (key x) last) ≡ false) xs) (high : AllByRecursion (λ y. is_gt (by_bytes (key y) last) ≡ true) ys) where
  -- lists that rise are one
  pub rising_both : (cmp : X → X → Ordering) → ((x y : X) → by_bytes (key x) (key y) ≡ Less → cmp x y ≡ Less) → IsAscending (λ a b. cmp a b ≡ Less) xs → IsAscending (λ a b. cmp a b ≡ Less) ys → IsAscending (λ a b. cmp a b ≡ Less) (xs ++ ys)
  rising_both cmp first up other =
      ascending-append (λ a b. cmp a b ≡ Less) xs ys up other
      (all_weaker _ (λ x. AllByRecursion (λ y. cmp x y ≡ Less) ys) (λ x is. all_weaker _ (λ y. cmp x y ≡ Less) (λ y above. first x y (below last (key x) (key y) is above)) ys high) xs low)

  sorted_both : (cmp : X → X → Ordering) → ((x y : X) → by_bytes (key x) (key y) ≡ Less → cmp x y ≡ Less) → IsStrictlySortedBy cmp xs → IsStrictlySortedBy cmp ys → IsStrictlySortedBy cmp (xs ++ ys)
  sorted_both cmp first up other = sorted_by cmp (xs ++ ys) (rising_both cmp first (ascending cmp xs up) (ascending cmp ys other))

  -- what they have of one id is in one of them
  all_in_first : (id : List ℕ) → is_gt (by_bytes id last) ≡ false → filter (λ x. bytes_eq (key x) id) (xs ++ ys) ≡ filter (λ x. bytes_eq (key x) id) xs
  all_in_first id up =
      filter-append (λ x. bytes_eq (key x) id) xs ys ∙ ap (λ rest. filter (λ x. bytes_eq (key x) id) xs ++ rest) (none_other key (λ id. is_gt (by_bytes id last)) id up ys high) ∙ append-nil (filter (λ x. bytes_eq (key x) id) xs)

  all_in_second : (id : List ℕ) → is_gt (by_bytes id last) ≡ true → filter (λ x. bytes_eq (key x) id) (xs ++ ys) ≡ filter (λ x. bytes_eq (key x) id) ys
  all_in_second id above =
      filter-append (λ x. bytes_eq (key x) id) xs ys
      ∙ ap (λ front. front ++ filter (λ x. bytes_eq (key x) id) ys) (none_other key (λ id. not (is_gt (by_bytes id last))) id (ap not above) xs (all_weaker _ (λ x. not (is_gt (by_bytes (key x) last)) ≡ true) (λ x is. ap not is) xs low))

-- the ids of all rows are such
abbrev pub AllIds : (List ℕ → Type 0) → List Entry → List InstanceEntry → List BindingEntry → Type 0
AllIds Such orders instances bindings = AllByRecursion (λ (entry : Entry). Such entry.0) orders × AllByRecursion (λ (entry : InstanceEntry). Such entry.0) instances × AllByRecursion (λ (entry : BindingEntry). Such entry.instance) bindings

abbrev pub IsUpTo : List ℕ → List ℕ → Type 0
IsUpTo last id = is_gt (by_bytes id last) ≡ false

abbrev pub IsAbove : List ℕ → List ℕ → Type 0
IsAbove last id = is_gt (by_bytes id last) ≡ true

pub entries_first : (x y : Entry) → by_bytes x.0 y.0 ≡ Less → entry_cmp x y ≡ Less
entries_first x y less = ap (λ o. ordering_then o (nat_cmp x.1.number y.1.number)) less

pub bindings_first : (x y : BindingEntry) → by_bytes x.instance y.instance ≡ Less → binding_cmp x y ≡ Less
bindings_first x y less = ap (λ o. ordering_then o (slice_cmp nat_cmp x.binding y.binding)) less

pub contexts_first : (x y : ContextEntry) → by_bytes x.instance y.instance ≡ Less → context_cmp x y ≡ Less
contexts_first x y less = ap (λ o. ordering_then o (nat_cmp x.number y.number)) less

module _ (last : List ℕ) (orders later : List Entry) (instances rows : List InstanceEntry) (bindings bound : List BindingEntry) (low : AllIds (IsUpTo last) orders instances bindings) (high : AllIds (IsAbove last) later rows bound) where
  -- the rows of two pieces are those of well-formed lives where those of each are
  pub rows_of_both : AreRowsOfLives orders instances bindings → AreRowsOfLives later rows bound → AreRowsOfLives (orders ++ later) (instances ++ rows) (bindings ++ bound)
  rows_of_both one other = (
    record {
      orders_rise = sorted_both (λ (entry : Entry). entry.0) last orders later low.0 high.0 entry_cmp entries_first one.0.orders_rise other.0.orders_rise;
      instances_rise = sorted_both (λ (entry : InstanceEntry). entry.0) last instances rows low.1 high.1 instance_cmp (λ x y less. less) one.0.instances_rise other.0.instances_rise;
      bindings_rise = sorted_both (λ (entry : BindingEntry). entry.instance) last bindings bound low.2 high.2 binding_cmp bindings_first one.0.bindings_rise other.0.bindings_rise;
    },
    stand_from (orders ++ later) (instances ++ rows) (bindings ++ bound) (λ id. at id (is_gt (by_bytes id last)) refl),
  )
    where
      at : (id : List ℕ) (b : Bool) → is_gt (by_bytes id last) ≡ b → StandsAt id (life_in id (orders ++ later)) (instances ++ rows) (bindings ++ bound)
      at id false is =
          stands_as id orders (orders ++ later) instances (instances ++ rows) bindings (bindings ++ bound)
          (all_in_first (λ (entry : Entry). entry.0) last orders later low.0 high.0 id is)
          (all_in_first (λ (entry : InstanceEntry). entry.0) last instances rows low.1 high.1 id is)
          (all_in_first (λ (entry : BindingEntry). entry.instance) last bindings bound low.2 high.2 id is)
          (stands_at orders instances bindings one.1 id)
      at id true is =
          stands_as id later (orders ++ later) rows (instances ++ rows) bound (bindings ++ bound)
          (all_in_second (λ (entry : Entry). entry.0) last orders later low.0 high.0 id is)
          (all_in_second (λ (entry : InstanceEntry). entry.0) last instances rows low.1 high.1 id is)
          (all_in_second (λ (entry : BindingEntry). entry.instance) last bindings bound low.2 high.2 id is)
          (stands_at later rows bound other.1 id)

module _ (last : List ℕ) (contexts more : List ContextEntry) (orders later : List Entry) (instances rows : List InstanceEntry) (bindings bound : List BindingEntry)
    (low : AllIds (IsUpTo last) orders instances bindings) (low_contexts : AllByRecursion (λ (entry : ContextEntry). IsUpTo last entry.instance) contexts) (none : HaveNoContexts orders instances)
    (high : AllIds (IsAbove last) later rows bound) (high_contexts : AllByRecursion (λ (entry : ContextEntry). IsAbove last entry.instance) more) (later_none : HaveNoContexts later rows) where
  joined_both : (one : List Entry) (one_rows : List InstanceEntry) (other : List Entry) (other_rows : List InstanceEntry) → AreJoined contexts orders instances one one_rows → AreJoined more later rows other other_rows
      → AreJoined (contexts ++ more) (orders ++ later) (instances ++ rows) (one ++ other) (one_rows ++ other_rows)
  joined_both one one_rows other other_rows first second = record {
    rising = rising_both (λ (entry : ContextEntry). entry.instance) last contexts more low_contexts high_contexts context_cmp contexts_first first.rising second.rising;
    orders_with = record {
      same = map-append bare_entry one other ∙ ap₂ (λ (xs ys : List Entry). xs ++ ys) first.orders_with.same second.orders_with.same ∙ sym (map-append bare_entry orders later);
      contexts_are = filter-append is_of_order contexts more ∙ ap₂ (λ (xs ys : List ContextEntry). xs ++ ys) first.orders_with.contexts_are second.orders_with.contexts_are ∙ sym (map-append context_of_entry one other);
    };
    rows_with = record {
      same = map-append bare_instance_entry one_rows other_rows ∙ ap₂ (λ (xs ys : List InstanceEntry). xs ++ ys) first.rows_with.same second.rows_with.same ∙ sym (map-append bare_instance_entry instances rows);
      contexts_are = filter-append is_of_standing contexts more ∙ ap₂ (λ (xs ys : List ContextEntry). xs ++ ys) first.rows_with.contexts_are second.rows_with.contexts_are ∙ sym (map-append context_of_row one_rows other_rows);
    };
  }

  none_both : HaveNoContexts (orders ++ later) (instances ++ rows)
  none_both = record {
    orders_bare = map-append bare_entry orders later ∙ ap₂ (λ (xs ys : List Entry). xs ++ ys) none.orders_bare later_none.orders_bare;
    instances_bare = map-append bare_instance_entry instances rows ∙ ap₂ (λ (xs ys : List InstanceEntry). xs ++ ys) none.instances_bare later_none.instances_bare;
  }

  -- the same of rows that were read apart from their contexts
  pub contexts_of_both : AreRowsWithContexts contexts orders instances bindings → AreRowsWithContexts more later rows bound → AreRowsWithContexts (contexts ++ more) (orders ++ later) (instances ++ rows) (bindings ++ bound)
  contexts_of_both first second =
      let one : List Entry = lists_orders contexts orders instances bindings none first in
      let one_rows : List InstanceEntry = lists_instances contexts orders instances bindings none first in
      let other : List Entry = lists_orders more later rows bound later_none second in
      let other_rows : List InstanceEntry = lists_instances more later rows bound later_none second in
      let lows : AllIds (IsUpTo last) one one_rows bindings = (
        all_map (λ (entry : Entry). IsUpTo last entry.0) (joined_entry contexts) orders low.0,
        all_map (λ (entry : InstanceEntry). IsUpTo last entry.0) (joined_instance_entry contexts) instances low.1,
        low.2,
      ) in
      let highs : AllIds (IsAbove last) other other_rows bound = (
        all_map (λ (entry : Entry). IsAbove last entry.0) (joined_entry more) later high.0,
        all_map (λ (entry : InstanceEntry). IsAbove last entry.0) (joined_instance_entry more) rows high.1,
        high.2,
      ) in
      let stand = rows_of_both last one other one_rows other_rows bindings bound lows highs (lists_rows contexts orders instances bindings none first) (lists_rows more later rows bound later_none second) in
      let joins = joined_both one one_rows other other_rows (lists_join contexts orders instances bindings none first) (lists_join more later rows bound later_none second) in
      audited (contexts ++ more) (orders ++ later) (instances ++ rows) (bindings ++ bound) none_both (one ++ other) (one_rows ++ other_rows) joins stand

-- ---- the contexts that the lives of two pieces have

-- where nothing has an id that isn't chosen, all have chosen ones
all_chosen : {X : Type 0} (key : X → List ℕ) (chosen : List ℕ → Bool) (xs : List X) → ((id : List ℕ) → chosen id ≡ false → filter (λ x. bytes_eq (key x) id) xs ≡ []) → AllByRecursion (λ x. chosen (key x) ≡ true) xs
all_chosen key chosen [] none = tt
all_chosen {X} key chosen (x ∷ xs) none = (here (chosen (key x)) refl, all_chosen key chosen xs (λ id other. rest id (bytes_eq (key x) id) (none id other)))
  where
    here : (b : Bool) → chosen (key x) ≡ b → chosen (key x) ≡ true
    here true is = is
    here false is =
        let has : X → Bool = λ item. bytes_eq (key item) (key x) in
        let some : x ∷ filter has xs ≡ [] = sym (filter_hit has x xs (itself (key x))) ∙ none (key x) is in
        absurd (cc)

    rest : (id : List ℕ) (b : Bool) → cond b (x ∷ filter (λ item. bytes_eq (key item) id) xs) (filter (λ item. bytes_eq (key item) id) xs) ≡ [] → filter (λ item. bytes_eq (key item) id) xs ≡ []
    rest id true is = absurd (cc)
    rest id false is = is

module _ (last : List ℕ) (orders later : List Entry) (low : AllByRecursion (λ (entry : Entry). IsUpTo last entry.0) orders) (high : AllByRecursion (λ (entry : Entry). IsAbove last entry.0) later) where
  abbrev contexts_in_lives : List Entry → List ContextEntry
  contexts_in_lives entries = contexts_of (lives_in entries)

  abbrev of_those : List ℕ → List Entry → List ContextEntry
  of_those id entries = contexts_of_instance id (orders_in entries)

  at_id : (id : List ℕ) (entries : List Entry) → filter (is_context_of id) (contexts_in_lives entries) ≡ of_those id (filter (is_of id) entries)
  at_id id entries = of_instance (lives_in entries) id ∙ ap (contexts_of_instance id) (life_of_lives id entries)

  none_in_first : (id : List ℕ) → IsAbove last id → filter (is_of id) orders ≡ []
  none_in_first id above = none_other (λ (entry : Entry). entry.0) (λ id. not (is_gt (by_bytes id last))) id (ap not above) orders (all_weaker _ (λ (entry : Entry). not (is_gt (by_bytes entry.0 last)) ≡ true) (λ entry is. ap not is) orders low)

  none_in_second : (id : List ℕ) → IsUpTo last id → filter (is_of id) later ≡ []
  none_in_second id up = none_other (λ (entry : Entry). entry.0) (λ id. is_gt (by_bytes id last)) id up later high

  turned_up : (b : Bool) → not b ≡ true → b ≡ false
  turned_up true is = absurd (cc)
  turned_up false is = refl

  turned_above : (b : Bool) → not b ≡ false → b ≡ true
  turned_above true is = refl
  turned_above false is = absurd (cc)

  first_up_to : AllByRecursion (λ (entry : ContextEntry). IsUpTo last entry.instance) (contexts_in_lives orders)
  first_up_to =
      all_weaker _ (λ (entry : ContextEntry). IsUpTo last entry.instance) (λ entry is. turned_up (is_gt (by_bytes entry.instance last)) is) (contexts_in_lives orders)
      (all_chosen (λ (entry : ContextEntry). entry.instance) (λ id. not (is_gt (by_bytes id last))) (contexts_in_lives orders) (λ id other. at_id id orders ∙ ap (of_those id) (none_in_first id (turned_above (is_gt (by_bytes id last)) other))))

  second_above : AllByRecursion (λ (entry : ContextEntry). IsAbove last entry.instance) (contexts_in_lives later)
  second_above = all_chosen (λ (entry : ContextEntry). entry.instance) (λ id. is_gt (by_bytes id last)) (contexts_in_lives later) (λ id up. at_id id later ∙ ap (of_those id) (none_in_second id up))

  at_either : (id : List ℕ) (b : Bool) → is_gt (by_bytes id last) ≡ b → filter (is_context_of id) (contexts_in_lives (orders ++ later)) ≡ filter (is_context_of id) (contexts_in_lives orders ++ contexts_in_lives later)
  at_either id false is =
      at_id id (orders ++ later) ∙ ap (of_those id) (all_in_first (λ (entry : Entry). entry.0) last orders later low high id is) ∙ sym (at_id id orders)
      ∙ sym (filter-append (is_context_of id) (contexts_in_lives orders) (contexts_in_lives later)
      ∙ ap (λ rest. filter (is_context_of id) (contexts_in_lives orders) ++ rest) (at_id id later ∙ ap (of_those id) (none_in_second id is)) ∙ append-nil (filter (is_context_of id) (contexts_in_lives orders)))
  at_either id true is =
      at_id id (orders ++ later) ∙ ap (of_those id) (all_in_second (λ (entry : Entry). entry.0) last orders later low high id is) ∙ sym (at_id id later)
      ∙ sym (filter-append (is_context_of id) (contexts_in_lives orders) (contexts_in_lives later)
      ∙ ap (λ front. front ++ filter (is_context_of id) (contexts_in_lives later)) (at_id id orders ∙ ap (of_those id) (none_in_first id is)))

  -- are those of the first and then those of the second
  pub contexts_in_turn : IsLives (lives_in orders) → IsLives (lives_in later) → IsLives (lives_in (orders ++ later)) → contexts_of (lives_in (orders ++ later)) ≡ contexts_of (lives_in orders) ++ contexts_of (lives_in later)
  contexts_in_turn one other both =
      same_contexts (contexts_in_lives (orders ++ later)) (contexts_in_lives orders ++ contexts_in_lives later) (contexts_rise _ (numbered _ both))
      (rising_both (λ (entry : ContextEntry). entry.instance) last (contexts_in_lives orders) (contexts_in_lives later) first_up_to second_above context_cmp contexts_first (contexts_rise _ (numbered _ one)) (contexts_rise _ (numbered _ other)))
      (λ id. at_either id (is_gt (by_bytes id last)) refl)
