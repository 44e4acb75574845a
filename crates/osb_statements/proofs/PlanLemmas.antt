-- The plans in use, of the rows that were read.
use Rattle.std.proofs.Common.{◌≡◌, inl, zero, suc, ℕ, ◌+◌, ◌≤◌, ◌<◌, Bool, true, false, ◌||◌, List, [], ◌∷◌, ◌++◌, length, filter, take, Less, refl, sym, ap, subst, ◌∙◌, IsTrue, arith, IsPermutation}
use Rattle.std.specs.List.{AllByRecursion, list_any}
use Rattle.std.specs.List.Sorted.{IsStrictlySortedBy}
use Rattle.std.specs.Ordering.{eq_by_cmp}
use Rattle.std.specs.BTreeSet.{BTreeSet}
use Rattle.std.specs.Prelude.{filter_map, is_some}
use Rattle.std.specs.FinMap.{entries}
use Rattle.std.proofs.lemmas.List.{length-append, length-map, take_all}
use Rattle.std.proofs.lemmas.List.Concat.{flat_map-append}
use Rattle.std.proofs.lemmas.List.Folds.{list_any-append}
use Rattle.std.proofs.lemmas.List.Sorted.{length_permutation, list_any-IsPermutation}
use Rattle.std.proofs.lemmas.List.Elements.{filter-append}
use Rattle.sqlite.specs.declared.types.Value.{Value}
use Rattle.sqlite.specs.declared.types.Value.TheVariants.{Text}
use Rattle.sqlite.specs.State.{State, HasCleanDisk, IsUnchanged, KeepsCommit, Survives}
use Rattle.sqlite.specs.Effect.{Database}
use Rattle.sqlite.proofs.Callers.{unchanged_then}
use Rattle.sqlite.proofs.InsideLemmas.{keeps_then}
use Rattle.sqlite.proofs.StateLemmas.{unchanged, survives_then}
use Rattle.sqlite_keyed.proofs.ListLemmas.{IsPermutation-filter, all-filter, filter_all, filter_none, IsPermutation-flat_map, all_of}
use Rattle.osb_orders.specs.Lives.{Lives}
use Rattle.osb_orders.specs.Listing.{is_listed, listing, with_last}
use Rattle.osb_audit.specs.Orders.{Entry}
use Rattle.osb_audit.specs.Plans.{Pair, pair_cmp}
use Rattle.osb_audit.specs.Gathered.{pairs_in_row, pairs_in_rows, Adds, HasAdded}
use Rattle.osb_audit.proofs.RunLemmas.{by_bytes}
use Rattle.osb_audit.specs.Counts.{AreCounts}
use Rattle.osb_audit.specs.declared.counting.Counts.{Counts}
use Rattle.osb_audit.proofs.CountLemmas.{counted_there, counted_busy, counted_bound}
use Rattle.sqlite.specs.Order.{Row, column}
use Rattle.osb_statements.specs.Bindings.{binding_cells, binding_row}
use Rattle.osb_audit.specs.Instances.{InstanceEntry, instance_cmp, InstancesStand}
use Rattle.osb_tables.specs.Tables.{second_schema}
use Rattle.osb_statements.specs.Queries.{AreRecords, ShowsRecords}
use Rattle.osb_contexts.specs.Inside.{ShowsSchema}
use Rattle.osb_contexts.specs.Pieces.{beyond, is_row_between, piece, AreNamed}
use Rattle.osb_contexts.specs.Read.{HaveRowids}
use Rattle.osb_contexts.proofs.StepLemmas.{clean_before}
use Rattle.osb_statements.specs.Pieces.{is_instance_between, StoreRows, CountsMore, counted_in}
use Rattle.osb_statements.proofs.RowPieceLemmas.{bindings_have_ids, instance_ids}
use Rattle.osb_statements.specs.Stored.{instances_in}
use Rattle.osb_statements.specs.Steps.{content, bare_in}
use Rattle.osb_statements.proofs.NamedLemmas.{unchanged_records}
use Rattle.osb_statements.proofs.StoredLivesLemmas.{rises}
use Rattle.osb_statements.proofs.StoredPieceLemmas.{above, below_beyond, none_below, not_above, nothing_between, parted, stores_some}
use Rattle.osb_statements.proofs.SortLemmas.{same_rows}
use Rattle.osb_statements.proofs.BareLemmas.{instances_bare}
use Rattle.osb_statements.specs.Instances.{instance_cells, instance_row}
use Rattle.osb_statements.specs.Read.{AreInstancesOf}
use Rattle.osb_audit.proofs.RisingLemmas.{instances_total as instance_total}

pub records_schema : (s : State) → ShowsRecords s → ShowsSchema second_schema s
records_schema s shows clean live = (shows clean live).tables.schema

module _ (s : State) (records : AreRecords s.now) where
  pub rows_rise : IsStrictlySortedBy instance_cmp (content s).instances
  rows_rise = rises instance_cmp (content s).instances records.tables.holds.instances.rising

  pub rows_stand : InstancesStand (bare_in s) (content s).instances
  rows_stand = records.standing.instances

-- where fewer were found than asked for, they are all
found_all : {A : Type 0} (most : ℕ) (items : List A) → length (take most items) < most → take most items ≡ items
found_all zero items below = absurd (omega (arith, below))
found_all (suc most) [] below = refl
found_all (suc most) (item ∷ items) below = ap (λ rest. item ∷ rest) (found_all most items (omega (arith, below)))

pub all_listed : (lives : Lives) (most more : ℕ) (running : List Entry) → running ≡ listing lives [] most → length running < most → length running + 1 ≤ more → running ≡ listing lives [] more
all_listed lives most more running is below low =
    let items = filter (is_listed []) (filter_map with_last (entries lives)) in
    let all : running ≡ items = is ∙ found_all most items (subst (λ found. length found < most) is below) in
    all ∙ sym (take_all more items (subst (λ found. length found ≤ more) all (omega (arith, low))))

-- what was read of some instances are their rows
pub some_rows : (db : Database) → AreRecords db → (after : List ℕ) (to : Value) (entries : List InstanceEntry) → (HaveRowids (db.trees 3) → AreInstancesOf (piece after to db.trees) entries) → entries ≡ filter (is_instance_between after to) (instances_in db.trees)
some_rows db records after to entries read =
    let stores = records.tables.holds.instances in
    let list = read (record { apart = stores.held.apart; keyed = stores.held.keyed }) in
    let some = filter (is_instance_between after to) (instances_in db.trees) in
    sym (same_rows some entries (all-filter _ _ (instances_in db.trees) (instances_bare db.trees)) list.1
    (list.0.only some (stores_some instance_cells instance_row instance_cmp (λ (entry : InstanceEntry). entry.0) (λ _. refl) (λ _. refl) (db.trees 3) instance_total after to (instances_in db.trees) stores)))

-- the rows of records have ids
module _ (db : Database) (records : AreRecords db) where
  records_rows : StoreRows db.trees
  records_rows =
      let holds = records.tables.holds in
      record { holds = record { orders = holds.orders; instances = holds.instances; bindings = holds.bindings }; lives = records.lives; standing = records.standing }

  pub records_named : AllByRecursion (λ (entry : InstanceEntry). is_instance_between [] beyond entry ≡ true) (instances_in db.trees)
  records_named = instance_ids db.trees records_rows

  pub bindings_named : AreNamed (db.trees 5)
  bindings_named = bindings_have_ids db.trees records_rows

module _ (instances : List InstanceEntry) (b : List ℕ) (c : Value) (high : above (Text b) c ≡ false) where
  -- the rows so far, and those of one piece more
  rows_parted : IsPermutation (filter (is_instance_between [] c) instances) (filter (is_instance_between [] (Text b)) instances ++ filter (is_instance_between b c) instances)
  rows_parted = parted (λ (entry : InstanceEntry). Text entry.0) instances [] b c (none_below b) high

  pub more_added : (old new : BTreeSet Pair) → HasAdded (pairs_in_rows (filter (is_instance_between [] (Text b)) instances)) old → Adds (pairs_in_rows (filter (is_instance_between b c) instances)) old new → HasAdded (pairs_in_rows (filter (is_instance_between [] c) instances)) new
  more_added old new had adds q =
      let test = eq_by_cmp pair_cmp q in
      let pairs = λ (entry : InstanceEntry). pairs_in_row entry.1 in
      let first = filter (is_instance_between [] (Text b)) instances in
      let second = filter (is_instance_between b c) instances in
      adds q
      ∙ ap (λ has. list_any test (pairs_in_rows second) || has) (had q)
      ∙ turned (list_any test (pairs_in_rows second)) (list_any test (pairs_in_rows first))
      ∙ sym (list_any-append test (pairs_in_rows first) (pairs_in_rows second))
      ∙ ap (list_any test) (sym (flat_map-append pairs first second))
      ∙ sym (list_any-IsPermutation test _ _ (IsPermutation-flat_map pairs _ _ rows_parted))
    where
      turned : (a b : Bool) → (a || b) ≡ (b || a)
      turned true true = refl
      turned true false = refl
      turned false true = refl
      turned false false = refl

-- so far this is known of what was found first, and nothing was changed
pub record HasPassed (old now : State) (Found : Type 0) : Type 0 where
  pub shows : ShowsRecords now
  pub survives : Survives old now (λ _. ⊥)
  pub was_open : HasCleanDisk now → IsTrue now.is_open → IsTrue old.is_open
  pub same : HasCleanDisk now → IsTrue old.is_open → IsUnchanged old now
  pub found : HasCleanDisk now → IsTrue old.is_open → Found

none_passed : (s : State) (Found : Type 0) → Found → ShowsRecords s → HasPassed s s Found
none_passed s Found found shows = record {
  shows = shows;
  survives = record { clean = omega arith; shield = λ shielded. shielded; counts = omega arith; limit = refl; closes = λ _ live. inl live; crash = λ _ db left. inl left };
  was_open = λ _ live. live;
  same = λ _ live. unchanged s live;
  found = λ _ _. found;
}

module _ (old now next : State) (Found : Type 0) (so_far : HasPassed old now Found) (survives : Survives now next (λ _. ⊥)) (same : HasCleanDisk next → IsUnchanged now next) where
  -- after a query, which may have found more
  pub more_passed : (More : Type 0) → (HasCleanDisk next → IsTrue old.is_open → More) → HasPassed old next More
  more_passed More more = record {
    shows = λ clean live. unchanged_records now next survives so_far.shows clean (same clean);
    survives = survives_then old now next (λ _. ⊥) (λ _. ⊥) (λ _. ⊥) (λ _ db none. none) (λ _ db none. none) so_far.survives survives;
    was_open = λ clean live. so_far.was_open (clean_before now next _ survives clean) (same clean).0.was_open;
    same = λ clean live. unchanged_then old now next (so_far.same (clean_before now next _ survives clean) live) (same clean);
    found = more;
  }

  pub still_passed : HasPassed old next Found
  still_passed = more_passed Found (λ clean live. so_far.found (clean_before now next _ survives clean) live)

  pub now_was : HasCleanDisk next → IsTrue old.is_open → now.now ≡ old.now
  now_was clean live = (so_far.same (clean_before now next _ survives clean) live).0.now_is

-- ---- plans

-- the rows up to an id
abbrev rows_to : State → Value → List InstanceEntry
rows_to s to = filter (is_instance_between [] to) (content s).instances

-- the plans of the instances up to this id were gathered
abbrev pub HasGathered : State → State → List ℕ → BTreeSet Pair → Type 0
HasGathered old now after plans = HasPassed old now (HasAdded (pairs_in_rows (rows_to old (Text after))) plans)

no_rows_yet : (s : State) (after : List ℕ) → after ≡ [] → rows_to s (Text after) ≡ []
no_rows_yet s after none =
    ap (λ (last : List ℕ). rows_to s (Text last)) none
    ∙ filter_none _ (content s).instances (all_of (λ (entry : InstanceEntry). is_instance_between [] (Text []) entry ≡ false) (λ entry. nothing_between [] (Text entry.0)) (content s).instances)

pub none_gathered : (s : State) (after : List ℕ) (plans : BTreeSet Pair) → after ≡ [] → plans.keys ≡ [] → ShowsRecords s → HasGathered s s after plans
none_gathered s after plans none empty shows = none_passed s _ (λ q. ap (list_any (eq_by_cmp pair_cmp q)) empty ∙ ap (λ rows. list_any (eq_by_cmp pair_cmp q) (pairs_in_rows rows)) (sym (no_rows_yet s after none))) shows

-- all rows are those up to the last id
all_rows : (old now next : State) → Survives old now (λ _. ⊥) → Survives now next (λ _. ⊥) → ShowsRecords old → HasCleanDisk next → IsTrue old.is_open → rows_to old beyond ≡ (content old).instances
all_rows old now next first second shows clean live = filter_all (is_instance_between [] beyond) (content old).instances (records_named old.now (shows (clean_before old now _ first (clean_before now next _ second clean)) live))

module _ (old now next : State) (after : List ℕ) (plans more : BTreeSet Pair) (so_far : HasGathered old now after plans) (survives : Survives now next (λ _. ⊥)) (same : HasCleanDisk next → IsUnchanged now next) where
  plans_to : (c : Value) → above (Text after) c ≡ false → (HasCleanDisk next → Adds (pairs_in_rows (filter (is_instance_between after c) (content now).instances)) plans more) → HasCleanDisk next → IsTrue old.is_open → HasAdded (pairs_in_rows (rows_to old c)) more
  plans_to c high adds clean live =
      more_added (content old).instances after c high plans more (so_far.found (clean_before now next _ survives clean) live)
      (subst (λ (d : Database). Adds (pairs_in_rows (filter (is_instance_between after c) (instances_in d.trees))) plans more) (now_was old now next _ so_far survives same clean live) (adds clean))

  pub next_gathered : (to : List ℕ) → by_bytes after to ≡ Less → (HasCleanDisk next → Adds (pairs_in_rows (filter (is_instance_between after (Text to)) (content now).instances)) plans more) → HasGathered old next to more
  next_gathered to less adds = more_passed old now next _ so_far survives same _ (plans_to (Text to) (not_above after to less) adds)

  pub all_gathered : (HasCleanDisk next → Adds (pairs_in_rows (filter (is_instance_between after beyond) (content now).instances)) plans more) → ShowsRecords old → HasCleanDisk next → IsTrue old.is_open → HasAdded (pairs_in_rows (content old).instances) more
  all_gathered adds shows clean live = subst (λ rows. HasAdded (pairs_in_rows rows) more) (all_rows old now next so_far.survives survives shows clean live) (plans_to beyond (below_beyond after) adds clean live)

-- ---- counts

counted_parts : (hit : InstanceEntry → Bool) (whole first second : List InstanceEntry) → IsPermutation whole (first ++ second) → length (filter hit whole) ≡ length (filter hit first) + length (filter hit second)
counted_parts hit whole first second parts =
    sym (length_permutation _ _ (IsPermutation-filter hit _ _ parts)) ∙ ap length (filter-append hit first second) ∙ length-append (filter hit first) (filter hit second)

-- the instances up to this id were counted
abbrev pub HasCounted : State → State → List ℕ → ℕ × ℕ → Type 0
HasCounted old now after counted = HasPassed old now (counted ≡ counted_in (rows_to old (Text after)))

pub none_counted : (s : State) (after : List ℕ) → after ≡ [] → ShowsRecords s → HasCounted s s after (0, 0)
none_counted s after none shows = none_passed s _ (ap counted_in (sym (no_rows_yet s after none))) shows

module _ (old now next : State) (after : List ℕ) (counted more : ℕ × ℕ) (so_far : HasCounted old now after counted) (survives : Survives now next (λ _. ⊥)) (same : HasCleanDisk next → IsUnchanged now next) where
  counts_to : (c : Value) → above (Text after) c ≡ false → (HasCleanDisk next → CountsMore (filter (is_instance_between after c) (content now).instances) counted more) → HasCleanDisk next → IsTrue old.is_open → more ≡ counted_in (rows_to old c)
  counts_to c high sums clean live =
      let sum = subst (λ (d : Database). CountsMore (filter (is_instance_between after c) (instances_in d.trees)) counted more) (now_was old now next _ so_far survives same clean live) (sums clean) in
      let was = so_far.found (clean_before now next _ survives clean) live in
      let rows = filter (is_instance_between after c) (content old).instances in
      let parts = rows_parted (content old).instances after c high in
      (λ i. (
        (sum.0 ∙ ap (λ (pair : ℕ × ℕ). pair.0 + (counted_in rows).0) was ∙ sym (counted_parts (λ (entry : InstanceEntry). is_some entry.1.standing) (rows_to old c) (rows_to old (Text after)) rows parts)) i,
        (sum.1 ∙ ap (λ (pair : ℕ × ℕ). pair.1 + (counted_in rows).1) was ∙ sym (counted_parts (λ (entry : InstanceEntry). entry.1.busy) (rows_to old c) (rows_to old (Text after)) rows parts)) i,
      ))

  pub next_counted : (to : List ℕ) → by_bytes after to ≡ Less → (HasCleanDisk next → CountsMore (filter (is_instance_between after (Text to)) (content now).instances) counted more) → HasCounted old next to more
  next_counted to less sums = more_passed old now next _ so_far survives same _ (counts_to (Text to) (not_above after to less) sums)

  pub all_counted : (HasCleanDisk next → CountsMore (filter (is_instance_between after beyond) (content now).instances) counted more) → ShowsRecords old → HasCleanDisk next → IsTrue old.is_open → more ≡ counted_in (content old).instances
  all_counted sums shows clean live = counts_to beyond (below_beyond after) sums clean live ∙ ap counted_in (all_rows old now next so_far.survives survives shows clean live)

-- the rows of bindings up to an id
abbrev bound_to : State → Value → List Row
bound_to s to = piece [] to s.now.trees 5

-- the rows of bindings up to this id were counted, and nothing was changed
pub record HasCountedRows (old now : State) (after : List ℕ) (counted : ℕ) : Type 0 where
  pub passed : HasPassed old now (counted ≡ length (bound_to old (Text after)))
  pub kept : HasCleanDisk now → IsTrue old.in_transaction → KeepsCommit old now × IsTrue now.in_transaction

pub no_rows_counted : (s : State) (after : List ℕ) → after ≡ [] → ShowsRecords s → HasCountedRows s s after 0
no_rows_counted s after none shows = record {
  passed = none_passed s _ (sym (ap (λ (last : List ℕ). length (bound_to s (Text last))) none ∙ ap length (filter_none (is_row_between [] (Text [])) (s.now.trees 5) (all_of _ (λ row. nothing_between [] (column row 1)) (s.now.trees 5))))) shows;
  kept = λ _ inside. (record { was_open = λ live. live; committed = λ _. refl }, inside);
}

module _ (old now next : State) (after : List ℕ) (counted : ℕ) (so_far : HasCountedRows old now after counted) (survives : Survives now next (λ _. ⊥)) (kept : HasCleanDisk next → IsTrue now.in_transaction → KeepsCommit now next) where
  -- also where the last call failed
  pub still_kept : HasCleanDisk next → IsTrue old.in_transaction → KeepsCommit old next
  still_kept clean inside = let before = so_far.kept (clean_before now next _ survives clean) inside in keeps_then old now next before.0 (kept clean before.1)

  module _ (same : HasCleanDisk next → IsUnchanged now next) where
    keeps_more : HasCleanDisk next → IsTrue old.in_transaction → KeepsCommit old next × IsTrue next.in_transaction
    keeps_more clean inside = (still_kept clean inside, (same clean).0.mode ∙ (so_far.kept (clean_before now next _ survives clean) inside).1)

    pub still_counted : HasCountedRows old next after counted
    still_counted = record { passed = still_passed old now next _ so_far.passed survives same; kept = keeps_more }

    rows_to_id : (more : ℕ) (c : Value) → above (Text after) c ≡ false → (HasCleanDisk next → more ≡ counted + length (piece after c now.now.trees 5)) → HasCleanDisk next → IsTrue old.is_open → more ≡ length (bound_to old c)
    rows_to_id more c high sums clean live =
        let sum = sums clean ∙ ap (λ (d : Database). counted + length (piece after c d.trees 5)) (now_was old now next _ so_far.passed survives same clean live) in
        let was = so_far.passed.found (clean_before now next _ survives clean) live in
        sum ∙ ap (λ n. n + length (piece after c old.now.trees 5)) was ∙ sym (length-append (bound_to old (Text after)) (piece after c old.now.trees 5)) ∙ length_permutation _ _ (parted (λ row. column row 1) (old.now.trees 5) [] after c (none_below after) high)

    pub next_rows_counted : (to : List ℕ) (more : ℕ) → by_bytes after to ≡ Less → (HasCleanDisk next → more ≡ counted + length (piece after (Text to) now.now.trees 5)) → HasCountedRows old next to more
    next_rows_counted to more less sums = record { passed = more_passed old now next _ so_far.passed survives same _ (rows_to_id more (Text to) (not_above after to less) sums); kept = keeps_more }

    -- as many rows as bindings
    pub bindings_counted : (more : ℕ) → ShowsRecords old → (HasCleanDisk next → more ≡ counted + length (piece after beyond now.now.trees 5)) → HasCleanDisk next → IsTrue old.is_open → more ≡ length (content old).bindings
    bindings_counted more shows sums clean live =
        let records = shows (clean_before old now _ so_far.passed.survives (clean_before now next _ survives clean)) live in
        let db = old.now.trees in
        rows_to_id more beyond (below_beyond after) sums clean live ∙ ap length (filter_all (is_row_between [] beyond) (db 5) (bindings_named old.now records))
        ∙ sym (length-map (db 5) binding_cells) ∙ sym (length_permutation _ _ records.tables.holds.bindings.held.same) ∙ length-map (content old).bindings binding_row

-- the counts of all rows are those of the lives
pub counts_are : (s : State) → AreRecords s.now → (counts : Counts) (counted : ℕ × ℕ) → counted ≡ counted_in (content s).instances → counts.bindings ≡ length (content s).bindings → counts.instances ≡ counted.0 → counts.running ≡ counted.1 → AreCounts (bare_in s) counts
counts_are s records counts counted are bound there busy = record {
  instances = there ∙ ap (λ (pair : ℕ × ℕ). pair.0) are ∙ counted_there (bare_in s) (content s).instances records.standing.instances;
  bindings = bound ∙ counted_bound (bare_in s) (content s).bindings records.standing.bindings;
  running = busy ∙ ap (λ (pair : ℕ × ℕ). pair.1) are ∙ counted_busy (bare_in s) (content s).instances records.standing.instances;
}
