-- The entries of trees are those that they hold.
use Rattle.std.proofs.Common.{◌≡◌, ◌==◌, Bool, true, Option, None, Some, zero, suc, add-one, List, [], ◌∷◌, ℕ, map, false, Ordering, Less, is_eq, is_lt, option_map, refl, sym, ap, ap₂, subst, ◌∙◌, arith, IsPermutation, IsSorted}
use Rattle.std.specs.Ordering.{ordering_reverse}
use Rattle.std.specs.List.{AllByRecursion}
use Rattle.std.specs.Cmp.{IsTotalOrder}
use Rattle.std.proofs.lemmas.List.Sorted.{IsPermutation-map, IsPermutation-sym}
use Rattle.sqlite.specs.Order.{Row, column}
use Rattle.sqlite.specs.Tree.{Trees}
use Rattle.sqlite_trees.specs.Tree.{IsAscending}
use Rattle.sqlite_keyed.specs.Lists.{sort_by}
use Rattle.sqlite_keyed.proofs.ListLemmas.{ascending_weaker}
use Rattle.sqlite_keyed.proofs.SortLemmas.{sorted_is-sort_by}
use Rattle.osb_orders.specs.declared.order.OrderKind.{OrderKind}
use Rattle.osb_orders.specs.declared.order.OrderKind.TheVariants.{Create, Update, Delete, Bind, Unbind}
use Rattle.osb_orders.specs.declared.order.OrderState.{OrderState}
use Rattle.osb_orders.specs.declared.order.OrderState.TheVariants.{Running, Succeeded, Failed}
use Rattle.osb_orders.specs.declared.order.Attributes.{Attributes}
use Rattle.osb_orders.specs.declared.view.InstancePhase.{InstancePhase}
use Rattle.osb_orders.specs.declared.view.InstancePhase.TheVariants as instance
use Rattle.osb_orders.specs.declared.view.InstancePhase.TheVariants.{Creating, Ready, Updating, Deleting}
use Rattle.osb_orders.specs.declared.view.Standing.{Standing}
use Rattle.osb_orders.specs.declared.view.BindingPhase.{BindingPhase}
use Rattle.osb_orders.specs.declared.view.BindingPhase.TheVariants as binding
use Rattle.osb_orders.specs.declared.view.BindingPhase.TheVariants.{Binding, Bound, Unbinding}
use Rattle.osb_orders.specs.Orders.{kind_number, state_number}
use Rattle.osb_bare.specs.Bare.{bare_attributes, bare_order, bare_standing, bare_row}
use Rattle.osb_rows.specs.Rows.{Stores}
use Rattle.osb_contexts.specs.Format.{version_row}
use Rattle.osb_statements.specs.Columns.{number_in}
use Rattle.osb_statements.specs.Stored.{AreBare, AreBareRows}
use Rattle.osb_audit.specs.Instances.{InstanceEntry, instance_cmp}
use Rattle.osb_statements.specs.Instances.{instance_row, instance_decoded, instance_cells, instance_phase_number, standing_number, standing_decoded, attributes_shown, busy_number}
use Rattle.osb_audit.specs.declared.entry.BindingEntry.{BindingEntry}
use Rattle.osb_audit.specs.Bindings.{binding_cmp}
use Rattle.osb_statements.specs.Bindings.{binding_row, binding_decoded, binding_cells, binding_phase_number, binding_phase_numbered}
use Rattle.osb_audit.specs.Orders.{Entry, entry_cmp}
use Rattle.osb_statements.specs.Stored.{Holds, HoldsEntries, entry_row, entry_decoded, order_cells, kind_numbered, state_numbered, entries_in, instances_in, bindings_in}
use Rattle.osb_rows.proofs.RowLemmas.{ascending_permuted, untied_back}
use Rattle.osb_audit.proofs.RisingLemmas.{entries_total as entry_total, instances_total as instance_total, bindings_total as binding_total}

pub kind_back : (kind : OrderKind) → kind_numbered (kind_number kind) ≡ kind
kind_back Create = refl
kind_back Update = refl
kind_back Delete = refl
kind_back Bind = refl
kind_back Unbind = refl

pub state_back : (state : OrderState) → state_numbered (state_number state) ≡ state
state_back Running = refl
state_back Succeeded = refl
state_back Failed = refl

-- a row is decoded to the entry that it shows, without its context
told_back : (entry : Entry) → entry_decoded (entry_row entry) ≡ (entry.0, bare_order entry.1)
told_back entry = rw (kind_back entry.1.kind, state_back entry.1.outcome.state) refl

some_standing : (phase : InstancePhase) (attributes : Attributes) → standing_decoded (instance_phase_number phase) attributes ≡ Some (record { phase = phase; attributes = attributes })
some_standing Creating attributes = refl
some_standing Ready attributes = refl
some_standing instance.Failed attributes = refl
some_standing Updating attributes = refl
some_standing Deleting attributes = refl

standing_back : (standing : Option Standing) → standing_decoded (standing_number standing) (bare_attributes (attributes_shown standing)) ≡ option_map bare_standing standing
standing_back None = refl
standing_back (Some standing) = some_standing standing.phase (bare_attributes standing.attributes)

busy_back : (busy : Bool) → (busy_number busy == 1) ≡ busy
busy_back true = refl
busy_back false = refl

-- a row is decoded to the instance that it shows, without its context
instance_back : (entry : InstanceEntry) → instance_decoded (instance_row entry) ≡ (entry.0, bare_row entry.1)
instance_back entry = rw (standing_back entry.1.standing, busy_back entry.1.busy) refl

pub binding_phase_back : (phase : BindingPhase) → binding_phase_numbered (binding_phase_number phase) ≡ phase
binding_phase_back Binding = refl
binding_phase_back Bound = refl
binding_phase_back binding.Failed = refl
binding_phase_back Unbinding = refl

-- a row is decoded to the binding that it shows
pub binding_back : (entry : BindingEntry) → binding_decoded (binding_row entry) ≡ entry
binding_back entry = rw (binding_phase_back entry.phase) refl

-- each is what its row is decoded to
abbrev AreTold : {E : Type 0} → (E → Row) → (Row → E) → List E → Type 0
AreTold shown told = AllByRecursion (λ e. told (shown e) ≡ e)

all_told : {E : Type 0} (shown : E → Row) (told : Row → E) (es : List E) → AreTold shown told es → map told (map shown es) ≡ es
all_told shown told [] own = refl
all_told shown told (e ∷ es) own = ap₂ (λ first later. first ∷ later) own.0 (all_told shown told es own.1)

-- a row of a bare entry is decoded to it
pub entry_told_back : (entry : Entry) → bare_order entry.1 ≡ entry.1 → entry_decoded (entry_row entry) ≡ entry
entry_told_back entry bare = told_back entry ∙ ap (λ order. (entry.0, order)) bare

pub row_told_back : (entry : InstanceEntry) → bare_row entry.1 ≡ entry.1 → instance_decoded (instance_row entry) ≡ entry
row_told_back entry bare = instance_back entry ∙ ap (λ row. (entry.0, row)) bare

all_as : {E : Type 0} (P Q : E → Type 0) → ((e : E) → P e → Q e) → (es : List E) → AllByRecursion P es → AllByRecursion Q es
all_as P Q f [] own = tt
all_as P Q f (e ∷ es) own = (f e own.0, all_as P Q f es own.1)

bindings_told : (entries : List BindingEntry) → AreTold binding_row binding_decoded entries
bindings_told [] = tt
bindings_told (entry ∷ entries) = (binding_back entry, bindings_told entries)

same_told : {E : Type 0} (shown : E → Row) (told : Row → E) (es others : List E) → AreTold shown told es → AreTold shown told others → map shown es ≡ map shown others → es ≡ others
same_told shown told es others own own_others is = sym (all_told shown told es own) ∙ ap (map told) is ∙ all_told shown told others own_others

-- entries that show the same rows are the same
pub same_bare : (entries others : List Entry) → AreBare entries → AreBare others → map entry_row entries ≡ map entry_row others → entries ≡ others
same_bare entries others bare bare_others = same_told entry_row entry_decoded entries others (all_as _ _ entry_told_back entries bare) (all_as _ _ entry_told_back others bare_others)

pub same_rows : (entries others : List InstanceEntry) → AreBareRows entries → AreBareRows others → map instance_row entries ≡ map instance_row others → entries ≡ others
same_rows entries others bare bare_others = same_told instance_row instance_decoded entries others (all_as _ _ row_told_back entries bare) (all_as _ _ row_told_back others bare_others)

pub same_bindings : (entries others : List BindingEntry) → map binding_row entries ≡ map binding_row others → entries ≡ others
same_bindings entries others = same_told binding_row binding_decoded entries others (bindings_told entries) (bindings_told others)

pub same_versions : (versions others : List ℕ) → map version_row versions ≡ map version_row others → versions ≡ others
same_versions versions others = same_told version_row version_told versions others (versions_told versions) (versions_told others)
  where
    version_told : Row → ℕ
    version_told cells = number_in (column cells 0)

    versions_told : (versions : List ℕ) → AreTold version_row version_told versions
    versions_told [] = tt
    versions_told (version ∷ versions) = (refl, versions_told versions)

module _ {E : Type 0} (cmp : E → E → Ordering) (total : IsTotalOrder cmp) where
  sorted : (es : List E) → IsAscending (λ a b. cmp a b ≡ Less) es → IsSorted cmp es
  sorted [] up k d low high = absurd (omega (arith, high))
  sorted (x ∷ []) up k d low high = absurd (omega (arith, high))
  sorted (x ∷ y ∷ es) up zero d low high = ap is_lt (total.antisymm y x ∙ ap ordering_reverse up.0.0)
  sorted (x ∷ y ∷ es) up (suc k) d low high = rw add-one (rw add-one at (sorted (y ∷ es) up.1 k d (omega arith) (omega (arith, high))))

  sort_is : (cells : Row → Row) (shown : E → Row) (told : Row → E) (rows : List Row) (es : List E) → AreTold shown told es → Stores cells shown cmp rows es → sort_by cmp (map told (map cells rows)) ≡ es
  sort_is cells shown told rows es own h =
      let xs = map told (map cells rows) in
      let same : IsPermutation xs es = subst (IsPermutation xs) (all_told shown told es own) (IsPermutation-map told _ _ h.held.same) in
      let apart = ascending_weaker _ (λ a b. is_eq (cmp a b) ≡ false) (λ a b less. ap is_eq less) es h.rising in
      sym (sorted_is-sort_by cmp total xs es (ascending_permuted (λ a b. is_eq (cmp a b) ≡ false) (untied_back cmp total) es xs (IsPermutation-sym _ _ same) apart) same (sorted es h.rising))

pub entries_are : (db : Trees) (entries : List Entry) → AreBare entries → Stores order_cells entry_row entry_cmp (db 1) entries → entries_in db ≡ entries
entries_are db entries own h = sort_is entry_cmp entry_total order_cells entry_row entry_decoded (db 1) entries (all_as _ _ entry_told_back entries own) h

pub instances_are : (db : Trees) (entries : List InstanceEntry) → AreBareRows entries → Stores instance_cells instance_row instance_cmp (db 3) entries → instances_in db ≡ entries
instances_are db entries own h = sort_is instance_cmp instance_total instance_cells instance_row instance_decoded (db 3) entries (all_as _ _ row_told_back entries own) h

pub bindings_are : (db : Trees) (entries : List BindingEntry) → Stores binding_cells binding_row binding_cmp (db 5) entries → bindings_in db ≡ entries
bindings_are db entries h = sort_is binding_cmp binding_total binding_cells binding_row binding_decoded (db 5) entries (bindings_told entries) h

module _ (version : ℕ) (db : Trees) (entries : List Entry) (instances : List InstanceEntry) (bindings : List BindingEntry) (bare : AreBare entries) (bare_rows : AreBareRows instances) (h : Holds version entries instances bindings db) where
  pub held_again : HoldsEntries version db
  held_again = rw (entries_are db entries bare h.orders, instances_are db instances bare_rows h.instances, bindings_are db bindings h.bindings) h
