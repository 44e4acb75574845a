-- The contexts that are gathered order by order: each first order of an instance takes the next row.
use Rattle.std.proofs.Common.{append-nil, append_assoc, ◌≡◌, ℕ, ◌<◌, ◌==◌, not, List, [], ◌∷◌, ◌++◌, map, filter, bytes_eq, Bool, true, false, cond, Ordering, Less, Equal, Greater, nat_cmp, refl, sym, ap, subst, ◌∙◌, arith}
use Rattle.std.specs.List.{AllByRecursion}
use Rattle.std.specs.Option.{option_to_list}
use Rattle.std.specs.Ordering.{ordering_then}
use Rattle.std.specs.Cmp.{tied_itself}
use Rattle.std.specs.Cmp.Lexicographic.{nat_list_cmp_total}
use Rattle.std.proofs.lemmas.Bool.Decides.{nat_tests}
use Rattle.std.proofs.lemmas.List.Elements.{filter-append}
use Rattle.sqlite_trees.specs.Tree.{IsAscending}
use Rattle.sqlite_keyed.proofs.ListLemmas.{all_weaker, all_both, all-filter, all_unmap, ascending-map, filter-map, filter_none}
use Rattle.osb_orders.specs.declared.order.Order.{Order}
use Rattle.osb_orders.specs.Life.{Life}
use Rattle.osb_orders.specs.Lives.{life_of}
use Rattle.osb_standing.specs.declared.row.InstanceRow.{InstanceRow}
use Rattle.osb_standing.specs.Rows.{row_of}
use Rattle.osb_audit.specs.declared.entry.BindingEntry.{BindingEntry}
use Rattle.osb_audit.specs.Orders.{Entry, entry_cmp, is_of, lives_in}
use Rattle.osb_audit.specs.Instances.{InstanceEntry, instance_cmp}
use Rattle.osb_audit.specs.Audit.{AreRowsOfLives}
use Rattle.osb_audit.specs.Life.{orders_in}
use Rattle.osb_audit.proofs.LivesLemmas.{life_of_lives}
use Rattle.osb_audit.proofs.RunLemmas.{same_text, text_itself, by_bytes}
use Rattle.osb_bare.specs.Bare.{bare_entry}
use Rattle.osb_joined.specs.declared.entry.ContextEntry.{ContextEntry}
use Rattle.osb_joined.specs.Contexts.{context_cmp, AreRising, contexts_of}
use Rattle.osb_joined.specs.Join.{context_of_entry, context_of_row, bare_instance_entry, is_of_standing, is_of_order, AreJoined}
use Rattle.osb_joined.proofs.ListLemmas.{same_head, same_tail, filter_hit, filter_miss, filter_swap, all_pass, ascending, same_rising}
use Rattle.osb_joined.proofs.InstanceLemmas.{context_total, IsNumberedFrom, numbers_above, same_number, higher_number, numbers_less}
use Rattle.osb_joined.proofs.LivesLemmas.{numbered}
use Rattle.osb_joined.proofs.AuditLemmas.{rows_join, are_contexts_of}

-- ---- what the loop makes

-- the order is the first of its instance
abbrev pub is_first : Entry → Bool
is_first entry = entry.1.number == 1

-- where it is, the next row belongs to it
abbrev pub row_contexts : Bool → List InstanceEntry → List ContextEntry
row_contexts true (row ∷ rows) = context_of_row row ∷ []
row_contexts _ _ = []

abbrev pub rows_after : Bool → List InstanceEntry → List InstanceEntry
rows_after true (row ∷ rows) = rows
rows_after _ rows = rows

abbrev pub gathered : List InstanceEntry → List Entry → List ContextEntry
gathered rows [] = []
gathered rows (entry ∷ orders) = row_contexts (is_first entry) rows ++ context_of_entry entry ∷ gathered (rows_after (is_first entry) rows) orders

-- ---- in the loop

-- what is left gives what the whole gives
abbrev pub Gathers : List InstanceEntry → List Entry → List ContextEntry → List InstanceEntry → List Entry → Type 0
Gathers instances orders done rows rest = gathered instances orders ≡ done ++ gathered rows rest

pub gathers_first : (instances : List InstanceEntry) (orders : List Entry) (done : List ContextEntry) → done ≡ [] → Gathers instances orders done instances orders
gathers_first instances orders done none = sym (ap (λ (done : List ContextEntry). done ++ gathered instances orders) none)

-- what was gathered, and the rows that are left, once the order took its row
pub record TakesRow (entry : Entry) (rows : List InstanceEntry) (done next : List ContextEntry) (left : List InstanceEntry) : Type 0 where
  pub grown : next ≡ done ++ row_contexts (is_first entry) rows
  pub left_are : left ≡ rows_after (is_first entry) rows

module _ (entry : Entry) (rows : List InstanceEntry) (done next : List ContextEntry) (left : List InstanceEntry) where
  pub takes_next : entry.1.number ≡ 1 → (row : InstanceEntry) (later : List InstanceEntry) → rows ≡ row ∷ later → left ≡ later → (pushed : List ContextEntry) (context : ContextEntry) →
      next ≡ pushed → pushed ≡ done ++ context ∷ [] → context ≡ context_of_row row → TakesRow entry rows done next left
  takes_next is row later front same_left pushed context same grown is_row =
      let first : is_first entry ≡ true = same_number entry.1.number 1 is in record {
        grown = same ∙ grown ∙ ap (λ (context : ContextEntry). done ++ context ∷ []) is_row ∙ (λ i. done ++ row_contexts (sym first i) (sym front i));
        left_are = same_left ∙ (λ i. rows_after (sym first i) (sym front i));
      }

  pub takes_none : rows ≡ [] → next ≡ done → left ≡ rows → TakesRow entry rows done next left
  takes_none none same same_left = record {
    grown = same ∙ sym (append-nil done) ∙ (λ i. done ++ sym (no_context (is_first entry)) i) ∙ (λ i. done ++ row_contexts (is_first entry) (sym none i));
    left_are = same_left ∙ none ∙ sym (no_rows (is_first entry)) ∙ (λ i. rows_after (is_first entry) (sym none i));
  }
    where
      no_context : (first : Bool) → row_contexts first [] ≡ []
      no_context true = refl
      no_context false = refl

      no_rows : (first : Bool) → rows_after first [] ≡ []
      no_rows true = refl
      no_rows false = refl

  pub passes_by : (entry.1.number ≡ 1 → ⊥) → next ≡ done → left ≡ rows → TakesRow entry rows done next left
  passes_by other same same_left =
      let later : is_first entry ≡ false = not_first entry.1.number other in record {
        grown = same ∙ sym (append-nil done) ∙ (λ i. done ++ row_contexts (sym later i) rows);
        left_are = same_left ∙ (λ i. rows_after (sym later i) rows);
      }
    where
      not_first : (n : ℕ) → (n ≡ 1 → ⊥) → (n == 1) ≡ false
      not_first n other = grind (arith, nat_tests)

module _ (instances : List InstanceEntry) (orders : List Entry) (done : List ContextEntry) (rows : List InstanceEntry) (rest : List Entry) (so_far : Gathers instances orders done rows rest) where
  pub gathers_on : (entry : Entry) (later : List Entry) → rest ≡ entry ∷ later → (next : List ContextEntry) (left : List InstanceEntry) → TakesRow entry rows done next left →
      (more : List ContextEntry) (context : ContextEntry) → more ≡ next ++ context ∷ [] → context ≡ context_of_entry entry → Gathers instances orders more left later
  gathers_on entry later is next left took more context grown is_entry =
      let first : Bool = is_first entry in
      let after : List ContextEntry = gathered (rows_after first rows) later in
      so_far
      ∙ ap (λ (rest : List Entry). done ++ gathered rows rest) is
      ∙ sym (append_assoc done (row_contexts first rows) (context_of_entry entry ∷ after))
      ∙ sym (append_assoc (done ++ row_contexts first rows) (context_of_entry entry ∷ []) after)
      ∙ (λ i. (sym took.grown i ++ context_of_entry entry ∷ []) ++ gathered (sym took.left_are i) later)
      ∙ (λ i. (next ++ sym is_entry i ∷ []) ++ gathered left later)
      ∙ ap (λ (more : List ContextEntry). more ++ gathered left later) (sym grown)

  pub gathers_all : rest ≡ [] → gathered instances orders ≡ done
  gathers_all none = so_far ∙ ap (λ (rest : List Entry). done ++ gathered rows rest) none ∙ append-nil done

-- ---- what that means, where each first order has its row

abbrev pub row_ids : List InstanceEntry → List (List ℕ)
row_ids rows = map (λ (row : InstanceEntry). row.0) rows

abbrev pub order_ids : List Entry → List (List ℕ)
order_ids orders = map (λ (entry : Entry). entry.0) orders

-- the rows are of the instances that the first orders are of
abbrev pub AreTheirs : List InstanceEntry → List Entry → Type 0
AreTheirs rows orders = row_ids rows ≡ order_ids (filter is_first orders)

-- no order has the number 0
abbrev AreCounted : List Entry → Type 0
AreCounted orders = AllByRecursion (λ (entry : Entry). is_of_order (context_of_entry entry) ≡ true) orders

abbrev AreInOrder : List Entry → Type 0
AreInOrder = IsAscending (λ a b. entry_cmp a b ≡ Less)

-- no two have one id
abbrev AreByIds : List Entry → Type 0
AreByIds = IsAscending (λ (a b : Entry). by_bytes a.0 b.0 ≡ Less)

abbrev AreIdsRising : List (List ℕ) → Type 0
AreIdsRising = IsAscending (λ (a b : List ℕ). by_bytes a b ≡ Less)

counts : (n : ℕ) → not (n == 0) ≡ true → 0 < n
counts n is = grind (arith, nat_tests)

not_0 : (n : ℕ) → not (n == 0) ≡ true → (n == 0) ≡ false
not_0 n is = grind (arith, nat_tests)

one_up : (n : ℕ) → (n == 1) ≡ true → 0 < n
one_up n is = grind (arith, nat_tests)

not_less : (m n : ℕ) → 0 < m → (n == 1) ≡ true → nat_cmp m n ≡ Less → ⊥
not_less m n above is less = grind (arith, nat_tests)

-- before a first order come the ids below its own
lower_id : (m n : ℕ) (o : Ordering) → 0 < m → (n == 1) ≡ true → ordering_then o (nat_cmp m n) ≡ Less → o ≡ Less
lower_id m n Less above is less = refl
lower_id m n Equal above is less = absurd (not_less m n above is less)
lower_id m n Greater above is less = cc

-- ---- all orders and all rows are there

none_of_orders : (first : Bool) (rows : List InstanceEntry) → filter is_of_order (row_contexts first rows) ≡ []
none_of_orders true [] = refl
none_of_orders true (row ∷ rows) = refl
none_of_orders false rows = refl

orders_kept : (orders : List Entry) → AreCounted orders → (rows : List InstanceEntry) → filter is_of_order (gathered rows orders) ≡ map context_of_entry orders
orders_kept [] counted rows = refl
orders_kept (entry ∷ orders) counted rows =
    let first : Bool = is_first entry in
    let later : List ContextEntry = gathered (rows_after first rows) orders in
    filter-append is_of_order (row_contexts first rows) (context_of_entry entry ∷ later)
    ∙ ap (λ (entries : List ContextEntry). entries ++ filter is_of_order (context_of_entry entry ∷ later)) (none_of_orders first rows)
    ∙ filter_hit is_of_order (context_of_entry entry) later counted.0
    ∙ ap (λ (entries : List ContextEntry). context_of_entry entry ∷ entries) (orders_kept orders counted.1 (rows_after first rows))

rows_kept : (orders : List Entry) → AreCounted orders → (rows : List InstanceEntry) → AreTheirs rows orders → filter is_of_standing (gathered rows orders) ≡ map context_of_row rows
rows_kept [] counted [] theirs = refl
rows_kept [] counted (row ∷ rows) theirs = cc
rows_kept (entry ∷ orders) counted rows theirs = go (is_first entry) rows theirs (rows_kept orders counted.1)
  where
    past : (later : List ContextEntry) → filter is_of_standing (context_of_entry entry ∷ later) ≡ filter is_of_standing later
    past later = filter_miss is_of_standing (context_of_entry entry) later (not_0 entry.1.number counted.0)

    go : (first : Bool) (rows : List InstanceEntry) → row_ids rows ≡ order_ids (cond first (entry ∷ filter is_first orders) (filter is_first orders))
        → ((rows : List InstanceEntry) → AreTheirs rows orders → filter is_of_standing (gathered rows orders) ≡ map context_of_row rows)
        → filter is_of_standing (row_contexts first rows ++ context_of_entry entry ∷ gathered (rows_after first rows) orders) ≡ map context_of_row rows
    go true [] theirs more = cc
    go true (row ∷ rows) theirs more =
        filter_hit is_of_standing (context_of_row row) (context_of_entry entry ∷ gathered rows orders) refl
        ∙ ap (λ (entries : List ContextEntry). context_of_row row ∷ entries) (past (gathered rows orders) ∙ more rows (same_tail theirs))
    go false rows theirs more = past (gathered rows orders) ∙ more rows theirs

-- ---- and they rise

module _ (entry : Entry) (counted : 0 < entry.1.number) where
  abbrev IsBelow : ContextEntry → Type 0
  IsBelow context = context_cmp (context_of_entry entry) context ≡ Less

  below_row : (first : Entry) (row : InstanceEntry) → is_first first ≡ true → entry_cmp entry first ≡ Less → row.0 ≡ first.0 → IsBelow (context_of_row row)
  below_row first row is below same =
      ap (λ (o : Ordering). ordering_then o (nat_cmp entry.1.number 0)) (ap (λ (id : List ℕ). by_bytes entry.0 id) same ∙ lower_id entry.1.number first.1.number (by_bytes entry.0 first.0) counted is below)

  below_all : (orders : List Entry) → AllByRecursion (λ (later : Entry). entry_cmp entry later ≡ Less) orders → (rows : List InstanceEntry) → AreTheirs rows orders → AllByRecursion IsBelow (gathered rows orders)
  below_all [] below rows theirs = tt
  below_all (next ∷ orders) below rows theirs = go (is_first next) refl rows theirs (below_all orders below.1)
    where
      go : (first : Bool) → is_first next ≡ first → (rows : List InstanceEntry) → row_ids rows ≡ order_ids (cond first (next ∷ filter is_first orders) (filter is_first orders))
          → ((rows : List InstanceEntry) → AreTheirs rows orders → AllByRecursion IsBelow (gathered rows orders))
          → AllByRecursion IsBelow (row_contexts first rows ++ context_of_entry next ∷ gathered (rows_after first rows) orders)
      go true is [] theirs more = cc
      go true is (row ∷ rows) theirs more = (below_row next row is below.0 (same_head theirs), (below.0, more rows (same_tail theirs)))
      go false is rows theirs more = (below.0, more rows theirs)

  below_own : (row : InstanceEntry) → row.0 ≡ entry.0 → context_cmp (context_of_row row) (context_of_entry entry) ≡ Less
  below_own row same =
      ap (λ (id : List ℕ). ordering_then (by_bytes id entry.0) (nat_cmp 0 entry.1.number)) same
      ∙ ap (λ (o : Ordering). ordering_then o (nat_cmp 0 entry.1.number)) (tied_itself nat_list_cmp_total entry.0)
      ∙ numbers_less 0 entry.1.number counted

gathered_rises : (orders : List Entry) → AreInOrder orders → AreCounted orders → (rows : List InstanceEntry) → AreTheirs rows orders → AreRising (gathered rows orders)
gathered_rises [] up counted rows theirs = tt
gathered_rises (entry ∷ orders) up counted rows theirs = go (is_first entry) rows theirs (gathered_rises orders up.1 counted.1)
  where
    above_0 : 0 < entry.1.number
    above_0 = counts entry.1.number counted.0

    go : (first : Bool) (rows : List InstanceEntry) → row_ids rows ≡ order_ids (cond first (entry ∷ filter is_first orders) (filter is_first orders))
        → ((rows : List InstanceEntry) → AreTheirs rows orders → AreRising (gathered rows orders))
        → AreRising (row_contexts first rows ++ context_of_entry entry ∷ gathered (rows_after first rows) orders)
    go true [] theirs more = cc
    go true (row ∷ rows) theirs more =
        let own : context_cmp (context_of_row row) (context_of_entry entry) ≡ Less = below_own entry above_0 row (same_head theirs) in
        let later : AllByRecursion (λ (context : ContextEntry). context_cmp (context_of_entry entry) context ≡ Less) (gathered rows orders) = below_all entry above_0 orders up.0 rows (same_tail theirs) in (
          (
            own,
            all_weaker (λ (context : ContextEntry). context_cmp (context_of_entry entry) context ≡ Less) (λ (context : ContextEntry). context_cmp (context_of_row row) context ≡ Less)
                (λ context below. context_total.trans (context_of_row row) (context_of_entry entry) context own below) (gathered rows orders) later,
          ),
          (later, more rows (same_tail theirs)),
        )
    go false rows theirs more = (below_all entry above_0 orders up.0 rows theirs, more rows theirs)

-- ---- of lives: one row for each first order

abbrev is_number_1 : Order → Bool
is_number_1 order = order.number == 1

module _ (id : List ℕ) where
  first_once : (life : Life) → IsNumberedFrom 0 life → map (λ (order : Order). id) (filter is_number_1 life) ≡ row_ids (map (λ (row : InstanceRow). (id, row)) (option_to_list (row_of life)))
  first_once [] numbers = refl
  first_once (order ∷ later) numbers =
      ap (map (λ (order : Order). id)) (
      filter_hit is_number_1 order later (same_number order.number 1 numbers.0)
      ∙ ap (λ (orders : List Order). order ∷ orders) (filter_none is_number_1 later (all_weaker (λ (order : Order). 1 < order.number) (λ (order : Order). is_number_1 order ≡ false) (λ order above. higher_number order.number 1 above) later (numbers_above 1 later numbers.1))))

  firsts_of_it : (entries : List Entry) → AllByRecursion (λ (entry : Entry). is_of id entry ≡ true) entries → order_ids (filter is_first entries) ≡ map (λ (order : Order). id) (filter is_number_1 (orders_in entries))
  firsts_of_it [] of = refl
  firsts_of_it (entry ∷ entries) of = go (is_first entry) (firsts_of_it entries of.1)
    where
      go : (first : Bool) → order_ids (filter is_first entries) ≡ map (λ (order : Order). id) (filter is_number_1 (orders_in entries))
          → order_ids (cond first (entry ∷ filter is_first entries) (filter is_first entries)) ≡ map (λ (order : Order). id) (cond first (entry.1 ∷ filter is_number_1 (orders_in entries)) (filter is_number_1 (orders_in entries)))
      go true more = λ i. same_text entry.0 id of.0 i ∷ more i
      go false more = more

firsts_rise : (orders : List Entry) → AreInOrder orders → AreByIds (filter is_first orders)
firsts_rise [] up = tt
firsts_rise (entry ∷ orders) up = go (is_first entry) refl (firsts_rise orders up.1)
  where
    go : (first : Bool) → is_first entry ≡ first → AreByIds (filter is_first orders) → AreByIds (cond first (entry ∷ filter is_first orders) (filter is_first orders))
    go true is more = (
      all_both (λ (later : Entry). is_first later ≡ true) (λ (later : Entry). entry_cmp entry later ≡ Less) (λ (later : Entry). by_bytes entry.0 later.0 ≡ Less)
          (λ later first below. lower_id entry.1.number later.1.number (by_bytes entry.0 later.0) (one_up entry.1.number is) first below)
          (filter is_first orders) (all_pass is_first orders) (all-filter (λ (later : Entry). entry_cmp entry later ≡ Less) is_first orders up.0),
      more,
    )
    go false is more = more

module _ (orders : List Entry) (instances : List InstanceEntry) (bindings : List BindingEntry) (rows : AreRowsOfLives orders instances bindings) where
  in_order : AreInOrder orders
  in_order = ascending entry_cmp orders rows.0.orders_rise

  rows_rise : AreIdsRising (row_ids instances)
  rows_rise = ascending-map (λ (a b : List ℕ). by_bytes a b ≡ Less) (λ (row : InstanceEntry). row.0) instances (ascending instance_cmp instances rows.0.instances_rise)

  orders_rise : AreIdsRising (order_ids (filter is_first orders))
  orders_rise = ascending-map (λ (a b : List ℕ). by_bytes a b ≡ Less) (λ (entry : Entry). entry.0) (filter is_first orders) (firsts_rise orders in_order)

  abbrev is_id : List ℕ → List ℕ → Bool
  is_id id text = bytes_eq text id

  same_ids : (id : List ℕ) → filter (is_id id) (row_ids instances) ≡ filter (is_id id) (order_ids (filter is_first orders))
  same_ids id =
      filter-map (is_id id) (λ (row : InstanceEntry). row.0) instances
      ∙ ap row_ids (rows.1.instances_stand id)
      ∙ sym (first_once id (life_of (lives_in orders) id) (numbered (lives_in orders) rows.1.lives id))
      ∙ ap (λ (life : Life). map (λ (order : Order). id) (filter is_number_1 life)) (life_of_lives id orders)
      ∙ sym (firsts_of_it id (filter (is_of id) orders) (all_pass (is_of id) orders))
      ∙ ap order_ids (filter_swap is_first (is_of id) orders)
      ∙ sym (filter-map (is_id id) (λ (entry : Entry). entry.0) (filter is_first orders))

  theirs : AreTheirs instances orders
  theirs = same_rising by_bytes nat_list_cmp_total is_id (λ (text : List ℕ). text) text_itself (row_ids instances) (order_ids (filter is_first orders)) rows_rise orders_rise same_ids

  pub gathered_is : gathered instances orders ≡ contexts_of (lives_in orders)
  gathered_is =
      let joined : AreJoined (contexts_of (lives_in orders)) (map bare_entry orders) (map bare_instance_entry instances) orders instances = rows_join orders instances bindings rows in
      let counted : AreCounted orders = all_unmap (λ (entry : ContextEntry). is_of_order entry ≡ true) context_of_entry orders
      (subst (AllByRecursion (λ (entry : ContextEntry). is_of_order entry ≡ true)) joined.orders_with.contexts_are (all_pass is_of_order (contexts_of (lives_in orders)))) in
      are_contexts_of orders instances bindings rows (gathered instances orders) (map bare_entry orders) (map bare_instance_entry instances) (record {
        rising = gathered_rises orders in_order counted instances theirs;
        orders_with = record { same = joined.orders_with.same; contexts_are = orders_kept orders counted instances };
        rows_with = record { same = joined.rows_with.same; contexts_are = rows_kept orders counted instances theirs };
      })
