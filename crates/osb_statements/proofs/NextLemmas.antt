-- The first row of an instance above an id is that of the next instance that has orders.
use Rattle.std.proofs.Common.{◌≡◌, ◌≢◌, ℕ, pos, List, [], ◌∷◌, map, filter, take, Bool, true, false, cond, Option, Some, None, Ordering, Less, Equal, Greater, is_gt, refl, sym, ap, subst, ◌∙◌, true≢false}
use Rattle.std.specs.Prelude.{slice_get}
use Rattle.std.specs.Ordering.{ordering_reverse}
use Rattle.std.specs.Option.{option_to_list}
use Rattle.std.specs.List.{AllByRecursion, list_all}
use Rattle.std.specs.Cmp.Lexicographic.{nat_list_cmp_total}
use Rattle.std.proofs.lemmas.List.{take-map}
use Rattle.sqlite.specs.declared.types.Value.TheVariants.{Null, Int, Text}
use Rattle.sqlite.specs.Order.{Row, column, bytes}
use Rattle.sqlite.specs.Program.{overlay}
use Rattle.sqlite.specs.Term.{col, holds, lit}
use Rattle.sqlite.specs.Effect.{Database}
use Rattle.sqlite.specs.State.{State, Shown}
use Rattle.sqlite.proofs.Callers.{reads_as}
use Rattle.sqlite_trees.specs.Tree.{IsAscending}
use Rattle.sqlite_keyed.proofs.ListLemmas.{filter_none, all_weaker}
use Rattle.osb_orders.specs.Life.{Life}
use Rattle.osb_orders.specs.Lives.{Lives, life_of}
use Rattle.osb_standing.specs.declared.row.InstanceRow.{InstanceRow}
use Rattle.osb_standing.specs.Rows.{row_of}
use Rattle.osb_tables.specs.Tables.{second_schema}
use Rattle.osb_audit.specs.Instances.{InstanceEntry, instance_cmp, is_instance, InstancesStand}
use Rattle.osb_audit.proofs.RisingLemmas.{instances_total as instance_total}
use Rattle.osb_audit.proofs.RunLemmas.{by_bytes, not_itself, same_text as same_ids, text_itself as id_itself}
use Rattle.osb_joined.specs.Joined.{joined_order}
use Rattle.osb_rows.proofs.AnswerLemmas.{one_answer}
use Rattle.osb_contexts.specs.Contexts.{contexts_in}
use Rattle.osb_contexts.proofs.TestLemmas.{and_true}
use Rattle.osb_statements.specs.Instances.{instance_cells, instance_row}
use Rattle.osb_statements.specs.Stored.{instances_in, bare_lives_in, lives_stored}
use Rattle.osb_statements.specs.Asked.{id_row, is_above}
use Rattle.osb_statements.specs.NextId.{IsBelow, IsNextId}
use Rattle.osb_statements.specs.Queries.{HasLives}
use Rattle.osb_statements.specs.Steps.{HasTables}
use Rattle.osb_statements.proofs.InstanceLemmas.{by_id}
use Rattle.osb_statements.proofs.TestLemmas.{later_text}
use Rattle.osb_statements.proofs.ContextLemmas.{life_read}
use Rattle.osb_statements.proofs.Texts.{select_next, select_next_is, next_tests, by_instance}

-- ---- the query

at_above : (after : List ℕ) (more : Row) (entry : InstanceEntry) → list_all (holds ((Text after ∷ more) ∷ (Null ∷ instance_row entry) ∷ [])) next_tests ≡ is_above after entry
at_above after more entry = rw (later_text entry.0 after) (and_true _)

pub shows_next : (old new : State) (tables : HasTables old.now) (after : List ℕ) (rows : List Row) → Shown select_next (Text after ∷ []) old new rows
    → rows ≡ map id_row (take 1 (filter (is_above after) (instances_in old.now.trees)))
shows_next old new tables after rows h =
    let params = Text after ∷ [] in
    let read = reads_as select_next params old new second_schema tables.schema _ select_next_is.0 select_next_is.2 select_next_is.1 rows h in
    one_answer 3 next_tests (col 1 1 ∷ []) by_instance (lit (Int (pos 1))) (overlay old.now.trees []) params instance_cells instance_row instance_cmp instance_total (is_above after)
    (λ _. refl) (λ _. refl) (at_above after []) (λ a b less. by_id a b ∙ less) (instances_in old.now.trees) rows tables.holds.instances (read.answer Null)
    ∙ take-map id_row 1 _

-- ---- what a row says of the orders

-- an instance has a row exactly where it has orders
abbrev row_entry : List ℕ → InstanceRow → InstanceEntry
row_entry id row = (id, row)

no_orders : (id : List ℕ) (life : Life) → map (row_entry id) (option_to_list (row_of life)) ≡ [] → life ≡ []
no_orders id [] none = refl
no_orders id (order ∷ later) none = absurd (cc)

no_row : (id : List ℕ) (life : Life) → life ≡ [] → map (row_entry id) (option_to_list (row_of life)) ≡ []
no_row id life none = ap (λ (l : Life). map (row_entry id) (option_to_list (row_of l))) none

-- ---- the first above an id

above_of : (after id : List ℕ) → IsBelow after id → is_gt (by_bytes id after) ≡ true
above_of after id below = ap is_gt (nat_list_cmp_total.antisymm id after ∙ ap ordering_reverse below)

below_of : (after id : List ℕ) → is_gt (by_bytes id after) ≡ true → IsBelow after id
below_of after id above = nat_list_cmp_total.antisymm after id ∙ turned (by_bytes id after) above
  where
    turned : (o : Ordering) → is_gt o ≡ true → ordering_reverse o ≡ Less
    turned Less above = absurd (cc)
    turned Equal above = absurd (cc)
    turned Greater above = refl

module _ (after : List ℕ) where
  -- the first that passes does
  first_passes : (instances : List InstanceEntry) (first : InstanceEntry) (rest : List InstanceEntry) → filter (is_above after) instances ≡ first ∷ rest → is_above after first ≡ true
  first_passes [] first rest is = absurd (cc)
  first_passes (entry ∷ instances) first rest is = go (is_above after entry) refl is (first_passes instances first rest)
    where
      go : (b : Bool) → is_above after entry ≡ b → cond b (entry ∷ filter (is_above after) instances) (filter (is_above after) instances) ≡ first ∷ rest
          → (filter (is_above after) instances ≡ first ∷ rest → is_above after first ≡ true) → is_above after first ≡ true
      go true here is more =
          let same : entry ≡ first = cc in
          subst (λ (e : InstanceEntry). is_above after e ≡ true) same here
      go false here is more = more is

  -- and it has a row
  first_is_there : (instances : List InstanceEntry) (first : InstanceEntry) (rest : List InstanceEntry) → filter (is_above after) instances ≡ first ∷ rest → filter (is_instance first.0) instances ≢ []
  first_is_there [] first rest is none = absurd (cc)
  first_is_there (entry ∷ instances) first rest is none = go (is_above after entry) is (is_instance first.0 entry) refl none (first_is_there instances first rest)
    where
      go : (b : Bool) → cond b (entry ∷ filter (is_above after) instances) (filter (is_above after) instances) ≡ first ∷ rest
          → (c : Bool) → is_instance first.0 entry ≡ c → cond c (entry ∷ filter (is_instance first.0) instances) (filter (is_instance first.0) instances) ≡ []
          → (filter (is_above after) instances ≡ first ∷ rest → filter (is_instance first.0) instances ≢ []) → ⊥
      go b is true there none more = cc
      go true is false there none more =
          let same : entry ≡ first = cc in
          true≢false (sym (subst (λ (e : InstanceEntry). is_instance first.0 e ≡ true) (sym same) (id_itself first.0)) ∙ there)
      go false is false there none more = more is none

module _ (after id : List ℕ) (below : IsBelow after id) where
  other_instance : (entry : InstanceEntry) → is_above after entry ≡ false → is_instance id entry ≡ false
  other_instance entry low = go (is_instance id entry) refl
    where
      go : (b : Bool) → is_instance id entry ≡ b → b ≡ false
      go false is = refl
      go true is = absurd (true≢false (sym (subst (λ (other : List ℕ). is_gt (by_bytes other after) ≡ true) (sym (same_ids entry.0 id is)) (above_of after id below)) ∙ low))

  none_above : (instances : List InstanceEntry) → filter (is_above after) instances ≡ [] → filter (is_instance id) instances ≡ []
  none_above [] none = refl
  none_above (entry ∷ instances) none = go (is_above after entry) refl none (none_above instances)
    where
      go : (b : Bool) → is_above after entry ≡ b → cond b (entry ∷ filter (is_above after) instances) (filter (is_above after) instances) ≡ []
          → (filter (is_above after) instances ≡ [] → filter (is_instance id) instances ≡ []) → filter (is_instance id) (entry ∷ instances) ≡ []
      go true here none more = absurd (cc)
      go false here none more = rw (other_instance entry here) (more none)

  -- those behind a greater one are others
  all_greater : (entry : InstanceEntry) (instances : List InstanceEntry) → IsBelow id entry.0 → AllByRecursion (λ other. instance_cmp entry other ≡ Less) instances → filter (is_instance id) instances ≡ []
  all_greater entry instances less up =
      filter_none (is_instance id) instances
      (all_weaker _ _ (λ (other : InstanceEntry) more. not_itself id other.0 (nat_list_cmp_total.trans id entry.0 other.0 less more)) instances up)

  below_first : (instances : List InstanceEntry) (first : InstanceEntry) (rest : List InstanceEntry) → IsAscending (λ a b. instance_cmp a b ≡ Less) instances → filter (is_above after) instances ≡ first ∷ rest → IsBelow id first.0 → filter (is_instance id) instances ≡ []
  below_first [] first rest up is less = refl
  below_first (entry ∷ instances) first rest up is less = go (is_above after entry) refl is (λ is. below_first instances first rest up.1 is less)
    where
      go : (b : Bool) → is_above after entry ≡ b → cond b (entry ∷ filter (is_above after) instances) (filter (is_above after) instances) ≡ first ∷ rest
          → (filter (is_above after) instances ≡ first ∷ rest → filter (is_instance id) instances ≡ []) → filter (is_instance id) (entry ∷ instances) ≡ []
      go true here is more =
          let same : first ≡ entry = cc in
          let low : IsBelow id entry.0 = subst (λ (e : InstanceEntry). IsBelow id e.0) same less in
          rw (not_itself id entry.0 low) (all_greater entry instances low up.0)
      go false here is more = rw (other_instance entry here) (more is)

module _ (lives : Lives) (instances : List InstanceEntry) (up : IsAscending (λ a b. instance_cmp a b ≡ Less) instances) (stand : InstancesStand lives instances) (after : List ℕ) where
  next_none : filter (is_above after) instances ≡ [] → IsNextId lives after None
  next_none is id below = no_orders id (life_of lives id) (sym (stand id) ∙ none_above after id below instances is)

  next_some : (first : InstanceEntry) (rest : List InstanceEntry) → filter (is_above after) instances ≡ first ∷ rest → IsNextId lives after (Some first.0)
  next_some first rest is = (
    below_of after first.0 (first_passes after instances first rest is),
    λ none. first_is_there after instances first rest is (stand first.0 ∙ no_row first.0 (life_of lives first.0) none),
    λ id below less. no_orders id (life_of lives id) (sym (stand id) ∙ below_first after id below instances first rest up is less),
  )

  -- what was read says which
  pub none_read : (rows : List Row) → rows ≡ map id_row (take 1 (filter (is_above after) instances)) → rows ≡ [] → IsNextId lives after None
  none_read rows are none = go (filter (is_above after) instances) refl (sym none ∙ are)
    where
      go : (above : List InstanceEntry) → filter (is_above after) instances ≡ above → [] ≡ map id_row (take 1 above) → IsNextId lives after None
      go [] is read = next_none is
      go (first ∷ rest) is read = absurd (cc)

  pub one_read : (rows : List Row) (row : Row) → rows ≡ map id_row (take 1 (filter (is_above after) instances)) → slice_get rows 0 ≡ Some row → IsNextId lives after (Some (bytes (column row 0)))
  one_read rows row are one = go (filter (is_above after) instances) refl (sym (ap (λ (found : List Row). slice_get found 0) are) ∙ one)
    where
      go : (above : List InstanceEntry) → filter (is_above after) instances ≡ above → slice_get (map id_row (take 1 above)) 0 ≡ Some row → IsNextId lives after (Some (bytes (column row 0)))
      go [] is read = absurd (cc)
      go (first ∷ rest) is read =
          let same : id_row first ≡ row = cc in
          subst (λ (r : Row). IsNextId lives after (Some (bytes (column r 0)))) same (next_some first rest is)

-- ---- with the contexts

module _ (db : Database) (has : HasLives db) where
  still_none : (id : List ℕ) → life_of (bare_lives_in db.trees) id ≡ [] → life_of (lives_stored db.trees) id ≡ []
  still_none id none = sym (life_read db has id) ∙ ap (map (joined_order (contexts_in db.trees) id)) none

  still_some : (id : List ℕ) → life_of (bare_lives_in db.trees) id ≢ [] → life_of (lives_stored db.trees) id ≢ []
  still_some id some none = some (unmapped (life_of (bare_lives_in db.trees) id) (life_read db has id ∙ none))
    where
      unmapped : (life : Life) → map (joined_order (contexts_in db.trees) id) life ≡ [] → life ≡ []
      unmapped [] none = refl
      unmapped (order ∷ later) none = absurd (cc)

  pub next_joined : (after : List ℕ) (next : Option (List ℕ)) → IsNextId (bare_lives_in db.trees) after next → IsNextId (lives_stored db.trees) after next
  next_joined after None is = λ id below. still_none id (is id below)
  next_joined after (Some next) is = (is.0, still_some next is.1, λ id below less. still_none id (is.2 id below less))
