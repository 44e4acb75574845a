-- The busy rows, each with the order that it names, are the listing of the lives.
use Rattle.std.proofs.Common.{◌≡◌, inl, ℕ, zero, suc, ◌+◌, ◌<◌, pos, List, [], ◌∷◌, ◌++◌, length, get_or, map, filter, take, Bool, true, false, cond, ◌==◌, T, Option, Some, None, Ordering, Less, Equal, Greater, is_eq, is_gt, is_lt, nat_cmp, refl, sym, ap, subst, ◌∙◌, IsTrue, arith}
use Rattle.std.specs.Prelude.{filter_map, option_map, unwrap_or}
use Rattle.std.specs.Option.{option_to_list}
use Rattle.std.specs.List.{AllByRecursion, cons_option, list_all}
use Rattle.std.specs.Cmp.Lexicographic.{slice_cmp, nat_list_cmp_total}
use Rattle.std.specs.FinMap.{entries, entries_sorted, get-entries, slice_cmp-IsAntisymmetric, nat_cmp-IsAntisymmetric}
use Rattle.std.specs.FinMap.Entries.{find, below_all, is_sorted, same_entries}
use Rattle.std.proofs.lemmas.List.{take-map}
use Rattle.sqlite.specs.declared.types.Value.TheVariants.{Null, Int, Text}
use Rattle.sqlite.specs.Order.{Row}
use Rattle.sqlite.specs.Program.{overlay}
use Rattle.sqlite.specs.Term.{col, holds}
use Rattle.sqlite.specs.Effect.{Database}
use Rattle.sqlite.specs.State.{State, HasCleanDisk, Shown, IsUnchanged, Survives}
use Rattle.sqlite.proofs.Callers.{reads_as, unchanged_then}
use Rattle.sqlite.proofs.StateLemmas.{unchanged, survives_then}
use Rattle.sqlite_trees.specs.Tree.{IsAscending}
use Rattle.osb_orders.specs.declared.order.Order.{Order}
use Rattle.osb_orders.specs.Life.{Life}
use Rattle.osb_orders.specs.Lives.{Lives, life_of}
use Rattle.osb_orders.specs.Listing.{listing}
use Rattle.osb_orders.specs.IsLife.{IsLives}
use Rattle.osb_standing.specs.declared.row.InstanceRow.{InstanceRow}
use Rattle.osb_standing.specs.Rows.{row_of}
use Rattle.osb_standing.specs.Listing.{with_its_row, with_order, is_listed_row, instance_rows}
use Rattle.osb_standing.specs.Laws.{ListedByRows}
use Rattle.osb_tables.specs.Tables.{second_schema}
use Rattle.osb_audit.specs.Instances.{InstanceEntry, instance_cmp, is_instance, InstancesStand}
use Rattle.osb_statements.specs.Instances.{instance_cells, instance_row, busy_number}
use Rattle.osb_statements.specs.Stored.{instances_in, bare_lives_in}
use Rattle.osb_statements.specs.Queries.{ShowsRecords}
use Rattle.osb_statements.specs.Asked.{busy_row, order_for}
use Rattle.osb_statements.specs.Steps.{HasTables, bare_in}
use Rattle.osb_rows.proofs.AnswerLemmas.{one_answer}
use Rattle.osb_statements.proofs.InstanceLemmas.{by_id}
use Rattle.osb_statements.proofs.LivesLemmas.{key_is}
use Rattle.osb_statements.proofs.TestLemmas.{later_text}
use Rattle.osb_statements.proofs.Texts.{select_busy, select_busy_is, busy_tests, busy_cells, by_instance}
use Rattle.osb_audit.proofs.PlanLemmas.{both}
use Rattle.osb_audit.proofs.CountLemmas.{left as first, right as second, less}
use Rattle.osb_contexts.proofs.ReadLemmas.{told_more}
use Rattle.osb_audit.proofs.RisingLemmas.{instances_total as instance_total}
use Rattle.osb_contexts.proofs.StepLemmas.{clean_before}
use Rattle.osb_contexts.proofs.TestLemmas.{same_number, and_true}

-- ---- the query

busy_again : (busy : Bool) → (busy_number busy == 1) ≡ busy
busy_again true = refl
busy_again false = refl

at_busy : (after : List ℕ) (more : Row) (entry : InstanceEntry) → list_all (holds ((Text after ∷ more) ∷ (Null ∷ instance_row entry) ∷ [])) busy_tests ≡ is_listed_row after entry
at_busy after more entry = rw (same_number (busy_number entry.1.busy) 1, busy_again entry.1.busy, later_text entry.0 after, and_true (is_gt (slice_cmp nat_cmp entry.0 after))) refl

-- the busy rows of greater ids, up to a limit
pub shows_busy : (old new : State) (tables : HasTables old.now) (after : List ℕ) (limit : ℕ) (rows : List Row) → Shown select_busy (Text after ∷ Int (pos limit) ∷ []) old new rows
    → rows ≡ map busy_row (take limit (filter (is_listed_row after) (instances_in old.now.trees)))
shows_busy old new tables after limit rows h =
    let params = Text after ∷ Int (pos limit) ∷ [] in
    let read = reads_as select_busy params old new second_schema tables.schema _ select_busy_is.0 select_busy_is.2 select_busy_is.1 rows h in
    one_answer 3 busy_tests busy_cells by_instance (col 0 1) (overlay old.now.trees []) params instance_cells instance_row instance_cmp instance_total (is_listed_row after)
    (λ _. refl) (λ _. refl) (at_busy after (Int (pos limit) ∷ [])) (λ a b less. by_id a b ∙ less) (instances_in old.now.trees) rows tables.holds.instances (read.answer Null)
    ∙ take-map busy_row limit _

-- ---- the rows of the table are those of the lives, in the order of their ids

abbrev by_bytes : List ℕ → List ℕ → Ordering
by_bytes = slice_cmp nat_cmp

rises : (instances : List InstanceEntry) → IsAscending (λ a b. instance_cmp a b ≡ Less) instances → T (is_sorted by_bytes instances)
rises [] up = tt
rises (entry ∷ instances) up = both _ _ (below instances up.0) (rises instances up.1)
  where
    below : (others : List InstanceEntry) → AllByRecursion (λ other. instance_cmp entry other ≡ Less) others → T (below_all by_bytes entry.0 others)
    below [] h = tt
    below (other ∷ others) h = both _ _ (subst (λ o. T (is_lt o)) (sym h.0) tt) (below others h.1)

rows_below : (id : List ℕ) (lives : List (List ℕ × Life)) → T (below_all by_bytes id lives) → T (below_all by_bytes id (filter_map with_its_row lives))
rows_below id [] h = tt
rows_below id (entry ∷ lives) h = go (row_of entry.1) (rows_below id lives (second _ _ h))
  where
    go : (row : Option InstanceRow) → T (below_all by_bytes id (filter_map with_its_row lives)) → T (below_all by_bytes id (cons_option (option_map (λ (r : InstanceRow). (entry.0, r)) row) (filter_map with_its_row lives)))
    go None more = more
    go (Some row) more = both _ _ (first _ _ h) more

rows_sorted : (lives : List (List ℕ × Life)) → T (is_sorted by_bytes lives) → T (is_sorted by_bytes (filter_map with_its_row lives))
rows_sorted [] h = tt
rows_sorted (entry ∷ lives) h = go (row_of entry.1) (rows_sorted lives (second _ _ h))
  where
    go : (row : Option InstanceRow) → T (is_sorted by_bytes (filter_map with_its_row lives)) → T (is_sorted by_bytes (cons_option (option_map (λ (r : InstanceRow). (entry.0, r)) row) (filter_map with_its_row lives)))
    go None more = more
    go (Some row) more = both _ _ (rows_below entry.0 lives (first _ _ h)) more

equal_ids : (a b : List ℕ) → is_eq (by_bytes a b) ≡ true → a ≡ b
equal_ids a b h = slice_cmp-IsAntisymmetric nat_cmp-IsAntisymmetric a b (equal _ h)
  where
    equal : (o : Ordering) → is_eq o ≡ true → o ≡ Equal
    equal Less h = absurd (cc)
    equal Equal h = refl
    equal Greater h = absurd (cc)

-- an id below all has no row
none_below : (id : List ℕ) (rows : List InstanceEntry) → T (below_all by_bytes id rows) → find by_bytes id rows ≡ None
none_below id [] h = refl
none_below id (row ∷ rows) h = ap (λ o. cond (is_eq o) (Some row.1) (find by_bytes id rows)) (less (by_bytes id row.0) (first _ _ h)) ∙ none_below id rows (second _ _ h)

abbrev row_of_found : Option Life → Option InstanceRow
row_of_found found = row_of (unwrap_or found [])

-- a look-up in the rows of the lives finds the row of the life
row_found : (id : List ℕ) (lives : List (List ℕ × Life)) → T (is_sorted by_bytes lives) → find by_bytes id (filter_map with_its_row lives) ≡ row_of_found (find by_bytes id lives)
row_found id [] h = refl
row_found id (entry ∷ lives) h = go (is_eq (by_bytes id entry.0)) refl (row_of entry.1) refl (row_found id lives (second _ _ h))
  where
    rest : List InstanceEntry
    rest = filter_map with_its_row lives

    go : (same : Bool) → is_eq (by_bytes id entry.0) ≡ same → (row : Option InstanceRow) → row_of entry.1 ≡ row → find by_bytes id rest ≡ row_of_found (find by_bytes id lives)
        → find by_bytes id (cons_option (option_map (λ (r : InstanceRow). (entry.0, r)) row) rest) ≡ row_of_found (cond same (Some entry.1) (find by_bytes id lives))
    go true here (Some row) is more = rw here (sym is)
    go true here None is more = ap (λ at. find by_bytes at rest) (equal_ids id entry.0 here) ∙ none_below entry.0 rest (rows_below entry.0 lives (first _ _ h)) ∙ sym is
    go false other (Some row) is more = rw other more
    go false other None is more = more

abbrev row_in : List InstanceEntry → Option InstanceRow
row_in [] = None
row_in (entry ∷ entries) = Some entry.1

found_first : (id : List ℕ) (instances : List InstanceEntry) → find by_bytes id instances ≡ row_in (filter (is_instance id) instances)
found_first id [] = refl
found_first id (entry ∷ instances) = ap (λ b. cond b (Some entry.1) (find by_bytes id instances)) (key_is id entry.0) ∙ go (is_instance id entry) (found_first id instances)
  where
    go : (b : Bool) → find by_bytes id instances ≡ row_in (filter (is_instance id) instances) → cond b (Some entry.1) (find by_bytes id instances) ≡ row_in (cond b (entry ∷ filter (is_instance id) instances) (filter (is_instance id) instances))
    go true more = refl
    go false more = more

row_back : (id : List ℕ) (row : Option InstanceRow) → row_in (map (λ (r : InstanceRow). (id, r)) (option_to_list row)) ≡ row
row_back id None = refl
row_back id (Some row) = refl

pub rows_are : (lives : Lives) (instances : List InstanceEntry) → IsAscending (λ a b. instance_cmp a b ≡ Less) instances → InstancesStand lives instances → instances ≡ instance_rows lives
rows_are lives instances up stand =
    same_entries by_bytes nat_list_cmp_total (slice_cmp-IsAntisymmetric nat_cmp-IsAntisymmetric) instances (instance_rows lives) (rises instances up) (rows_sorted (entries lives) (entries_sorted lives))
    (λ id. found_first id instances ∙ ap row_in (stand id) ∙ row_back id (row_of (life_of lives id)) ∙ ap row_of_found (get-entries lives id) ∙ sym (row_found id (entries lives) (entries_sorted lives)))

-- ---- each with the order that it names

found_all : {A B : Type 0} (f : A → Option B) (limit : ℕ) (items : List A) (found : List B) → map Some found ≡ map f (take limit items) → found ≡ take limit (filter_map f items)
found_all f zero items [] is = refl
found_all f zero items (x ∷ found) is = absurd (cc)
found_all f (suc limit) [] [] is = refl
found_all f (suc limit) [] (x ∷ found) is = absurd (cc)
found_all f (suc limit) (item ∷ items) [] is = absurd (cc)
found_all f (suc limit) (item ∷ items) (x ∷ found) is =
    let here : Some x ≡ f item = cc in
    let more : map Some found ≡ map f (take limit items) = cc in
    subst (λ o. x ∷ found ≡ take (suc limit) (cons_option o (filter_map f items))) here (ap (λ xs. x ∷ xs) (found_all f limit items found more))

named_again : (lives : Lives) (entries : List InstanceEntry) → map (order_for lives) (map busy_row entries) ≡ map (with_order lives) entries
named_again lives [] = refl
named_again lives (entry ∷ entries) = ap (λ found. with_order lives entry ∷ found) (named_again lives entries)

-- the orders that the busy rows name are the listing
pub listing_found : ListedByRows → (lives : Lives) (after : List ℕ) (limit : ℕ) (instances : List InstanceEntry) (rows : List Row) (found : List (List ℕ × Order)) → IsLives lives → IsAscending (λ a b. instance_cmp a b ≡ Less) instances → InstancesStand lives instances
    → rows ≡ map busy_row (take limit (filter (is_listed_row after) instances)) → map Some found ≡ map (order_for lives) rows → found ≡ listing lives after limit
listing_found law lives after limit instances rows found whole up stand are named =
    let busy = filter (is_listed_row after) instances in
    found_all (with_order lives) limit busy found (named ∙ ap (map (order_for lives)) are ∙ named_again lives (take limit busy))
    ∙ ap (λ all. take limit (filter_map (with_order lives) (filter (is_listed_row after) all))) (rows_are lives instances up stand)
    ∙ sym (law lives after limit whole)

-- ---- row by row

-- so far these rows were read, and nothing was changed
pub record HasListed (old now : State) (rows : List Row) (count : ℕ) (found : List (List ℕ × Order)) : Type 0 where
  pub shows : ShowsRecords now
  pub survives : Survives old now (λ _. ⊥)
  pub was_open : HasCleanDisk now → IsTrue now.is_open → IsTrue old.is_open
  pub same : HasCleanDisk now → IsTrue old.is_open → IsUnchanged old now
  pub named : HasCleanDisk now → IsTrue old.is_open → map Some found ≡ map (order_for (bare_in old)) (take count rows)

pub none_listed : (s : State) (rows : List Row) (found : List (List ℕ × Order)) → found ≡ [] → ShowsRecords s → HasListed s s rows 0 found
none_listed s rows found none shows = record {
  shows = shows;
  survives = record { clean = omega arith; shield = λ shielded. shielded; counts = omega arith; limit = refl; closes = λ _ live. inl live; crash = λ _ db left. inl left };
  was_open = λ _ live. live;
  same = λ _ live. unchanged s live;
  named = λ _ _. ap (map Some) none;
}

pub next_listed : (old now next : State) (rows : List Row) (at : ℕ) (row : Row) (found more : List (List ℕ × Order)) (pair : List ℕ × Order) → HasListed old now rows at found → Survives now next (λ _. ⊥)
    → (HasCleanDisk next → IsUnchanged now next) → ShowsRecords next → (HasCleanDisk next → Some pair ≡ order_for (bare_in now) row) → at < length rows → row ≡ get_or rows at row → more ≡ found ++ pair ∷ [] → HasListed old next rows (at + 1) more
next_listed old now next rows at row found more pair so_far survives same shows tells low is grown = record {
  shows = shows;
  survives = survives_then old now next (λ _. ⊥) (λ _. ⊥) (λ _. ⊥) (λ _ db none. none) (λ _ db none. none) so_far.survives survives;
  was_open = λ clean live. so_far.was_open (clean_before now next _ survives clean) (same clean).0.was_open;
  same = λ clean live. unchanged_then old now next (so_far.same (clean_before now next _ survives clean) live) (same clean);
  named = λ clean live.
      let before = clean_before now next _ survives clean in
      told_more Some (order_for (bare_in old)) rows at row found more pair low is (so_far.named before live)
      (tells clean ∙ ap (λ (d : Database). order_for (bare_lives_in d.trees) row) (so_far.same before live).0.now_is) grown;
}
