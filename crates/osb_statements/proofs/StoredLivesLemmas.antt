-- What the lists that were read say of the database, and that new tables store no lives.
use Rattle.std.proofs.Common.{◌≡◌, ℕ, List, [], ◌∷◌, map, Ordering, Less, nat_cmp, refl, sym, ap, subst, ◌∙◌}
use Rattle.std.specs.FinMap.{empty}
use Rattle.std.specs.List.Sorted.{IsStrictlySortedBy}
use Rattle.sqlite.specs.Order.{Row}
use Rattle.sqlite.specs.State.{State}
use Rattle.sqlite_trees.specs.Tree.{IsAscending}
use Rattle.osb_audit.specs.Orders.{Entry, entry_cmp}
use Rattle.osb_audit.specs.Instances.{InstanceEntry, instance_cmp}
use Rattle.osb_audit.specs.Bindings.{binding_cmp}
use Rattle.osb_bare.specs.Bare.{bare_lives}
use Rattle.osb_joined.specs.Contexts.{contexts_of}
use Rattle.osb_joined.specs.Join.{bare_instance_entry}
use Rattle.osb_joined.specs.Audit.{HaveNoContexts}
use Rattle.osb_tables.specs.Tables.{tables_schema}
use Rattle.osb_rows.specs.Rows.{Stores}
use Rattle.osb_contexts.specs.Contexts.{contexts_in, HoldsContexts}
use Rattle.osb_contexts.specs.Steps.{ContextSteps, VersionSteps}
use Rattle.osb_contexts.proofs.SortLemmas.{none_stored}
use Rattle.osb_contexts.proofs.StepLemmas.{within_then}
use Rattle.osb_statements.specs.Read.{IsListOf}
use Rattle.osb_statements.specs.Instances.{instance_row, instance_cells}
use Rattle.osb_statements.specs.Bindings.{binding_row, binding_cells}
use Rattle.osb_statements.specs.Stored.{AreBare, AreBareRows, Holds, Content, entry_row, order_cells}
use Rattle.osb_statements.specs.Standing.{IsConsistent}
use Rattle.osb_statements.specs.Inside.{Makes}
use Rattle.osb_statements.specs.LivesWritten.{WritesLives}
use Rattle.osb_statements.specs.Steps.{content}
use Rattle.osb_statements.proofs.SortLemmas.{entries_are, instances_are, bindings_are, held_again}
use Rattle.osb_statements.proofs.WriteLemmas.{no_lives, no_contexts_of, no_content, no_standing}
use Rattle.osb_statements.proofs.ContextLemmas.{same_entries, told_is_bare, stored_is}

module _ {E : Type 0} (cmp : E → E → Ordering) where
  ascends : (es : List E) → IsStrictlySortedBy cmp es → IsAscending (λ a b. cmp a b ≡ Less) es
  unfolding IsStrictlySortedBy
  ascends [] up = tt
  ascends (e ∷ es) up = (up.0, ascends es up.1)

  pub rises : (es : List E) → IsAscending (λ a b. cmp a b ≡ Less) es → IsStrictlySortedBy cmp es
  unfolding IsStrictlySortedBy
  rises [] up = tt
  rises (e ∷ es) up = (up.0, rises es up.1)

  -- a list that rises is stored
  pub stored_list : (cells : Row → Row) (shown : E → Row) (rows : List Row) (es : List E) → IsListOf cells shown cmp rows es → IsStrictlySortedBy cmp es → Stores cells shown cmp rows es
  stored_list cells shown rows es list up = record { held = list.held; rising = ascends es up; texts = list.texts }

pub one_rises : (version : ℕ) → IsStrictlySortedBy nat_cmp (version ∷ [])
unfolding IsStrictlySortedBy
one_rises version = (tt, tt)

-- what was read without contexts
pub no_contexts : (orders : List Entry) (instances : List InstanceEntry) → AreBare orders → AreBareRows instances → HaveNoContexts orders instances
no_contexts orders instances bare bare_rows = record { orders_bare = same_entries orders bare; instances_bare = same_instances instances bare_rows }
  where
    same_instances : (instances : List InstanceEntry) → AreBareRows instances → map bare_instance_entry instances ≡ instances
    same_instances [] bare = refl
    same_instances (entry ∷ instances) bare = λ i. (entry.0, bare.0 i) ∷ same_instances instances bare.1 i

-- ---- new tables

pub new_tables : (old mid next new : State) → Makes old mid tables_schema (5 ∷ 3 ∷ 1 ∷ 0 ∷ []) → ContextSteps mid next [] → VersionSteps next new → WritesLives old new empty
new_tables old mid next new makes shaped versioned =
    let blank = makes.blank in
    let first = shaped.kept in
    let second = versioned.reshapes.kept in
    let orders_blank : new.now.trees 1 ≡ [] = second.1.0 ∙ first.1.0 ∙ blank.1.1.0 in
    let instances_blank : new.now.trees 3 ≡ [] = second.1.1.0 ∙ first.1.1.0 ∙ blank.1.0 in
    let bindings_blank : new.now.trees 5 ≡ [] = second.1.1.1.0 ∙ first.1.1.1.0 ∙ blank.0 in
    let holds : Holds 2 [] [] [] new.now.trees = record {
      format = versioned.version;
      orders = none_stored order_cells entry_row entry_cmp _ orders_blank;
      instances = none_stored instance_cells instance_row instance_cmp _ instances_blank;
      bindings = none_stored binding_cells binding_row binding_cmp _ bindings_blank;
    } in
    let has = held_again 2 new.now.trees [] [] [] tt tt holds in
    let known : contexts_in new.now.trees ≡ contexts_of empty = rw (second.0) (shaped.contexts_are ∙ sym no_contexts_of) in
    let is : content new ≡ no_content = rw (entries_are new.now.trees [] tt holds.orders, instances_are new.now.trees [] tt holds.instances, bindings_are new.now.trees [] holds.bindings) refl in
    record {
      within = within_then old next new (within_then old mid next makes.within shaped.within) versioned.reshapes.within;
      tables = record { schema = versioned.reshapes.schema_is; holds = has };
      lives_are = stored_is new.now.trees empty no_lives (sym (told_is_bare new.now.trees) ∙ ap (λ (c : Content). bare_lives c.lives) is) known;
      standing = subst IsConsistent (sym is) no_standing;
      contexts = subst (λ entries. HoldsContexts entries new.now.trees) (shaped.contexts_are ∙ sym no_contexts_of) (rw (second.0) shaped.tables.holds);
      sound = versioned.reshapes.sound;
    }
