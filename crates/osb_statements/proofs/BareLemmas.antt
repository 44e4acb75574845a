-- Entries without a context.
use Rattle.std.proofs.Common.{◌≡◌, ◌==◌, Bool, true, false, cond, Option, None, Some, Ok, List, [], ◌∷◌, ◌++◌, ◌∙◌, ℕ, map, filter, option_map, Ordering, is_gt, refl, sym, ap, ap₂, subst}
use Rattle.std.specs.List.{AllByRecursion}
use Rattle.sqlite.specs.Order.{Row, column}
use Rattle.sqlite.specs.Tree.{Trees}
use Rattle.sqlite_keyed.specs.Lists.{insert_sorted, sort_by, update_where}
use Rattle.osb_orders.specs.declared.order.Attributes.{Attributes}
use Rattle.osb_orders.specs.declared.order.Order.{Order}
use Rattle.osb_orders.specs.declared.order.Outcome.{Outcome}
use Rattle.osb_orders.specs.declared.order.Change.{Change}
use Rattle.osb_orders.specs.declared.order.Change.TheVariants.{Finish}
use Rattle.osb_orders.specs.declared.view.BindingNow.{BindingNow}
use Rattle.osb_orders.specs.Life.{Life}
use Rattle.osb_orders.specs.Changed.{changed, with_outcome}
use Rattle.osb_standing.specs.Rows.{row_of, birth_failed, bindings_of}
use Rattle.osb_standing.specs.Instance.{is_failed_deletion, row_after}
use Rattle.osb_standing.specs.Binding.{edit_of, edited}
use Rattle.osb_standing.specs.Written.{order_written, IsWritten}
use Rattle.osb_standing.specs.declared.row.BindingEdit.{BindingEdit}
use Rattle.osb_standing.proofs.RowLemmas.{row_stands, bindings_stand}
use Rattle.osb_bare.proofs.LifeLemmas.{row_of-bare, row_after-bare, edit_of-bare}
use Rattle.std.specs.FinMap.{get}
use Rattle.osb_orders.specs.declared.view.Standing.{Standing}
use Rattle.osb_orders.specs.Lists.{last_of, last_from}
use Rattle.osb_orders.specs.Lives.{life_of}
use Rattle.osb_standing.specs.declared.row.InstanceRow.{InstanceRow}
use Rattle.osb_audit.specs.Orders.{Entry, entry_cmp, is_of}
use Rattle.osb_audit.specs.Instances.{instance_cmp}
use Rattle.osb_bare.specs.Bare.{bare_attributes, bare_order, bare_life, bare_standing, bare_row}
use Rattle.osb_statements.specs.Columns.{number_in, attributes_decoded}
use Rattle.osb_statements.specs.Instances.{instance_row, instance_row_decoded, instance_decoded, instance_cells, instance_phase_numbered, standing_decoded}
use Rattle.osb_statements.specs.Stored.{AreBare, AreBareRows, entry_decoded, order_cells, entries_in, instances_in, bare_lives_in}
use Rattle.osb_statements.proofs.LivesLemmas.{life_of_lives}

-- ---- lists

module _ {E : Type 0} (P : E → Type 0) where
  pub all_filtered : (p : E → Bool) (es : List E) → AllByRecursion P es → AllByRecursion P (filter p es)
  all_filtered p [] own = tt
  all_filtered p (e ∷ es) own = go (p e) (all_filtered p es own.1)
    where
      go : (b : Bool) → AllByRecursion P (filter p es) → AllByRecursion P (cond b (e ∷ filter p es) (filter p es))
      go true more = (own.0, more)
      go false more = more

  pub all_inserted : (cmp : E → E → Ordering) (e : E) (es : List E) → P e → AllByRecursion P es → AllByRecursion P (insert_sorted cmp e es)
  all_inserted cmp e [] it own = (it, tt)
  all_inserted cmp e (x ∷ xs) it own = go (is_gt (cmp e x)) (all_inserted cmp e xs it own.1)
    where
      go : (b : Bool) → AllByRecursion P (insert_sorted cmp e xs) → AllByRecursion P (cond b (x ∷ insert_sorted cmp e xs) (e ∷ x ∷ xs))
      go true more = (own.0, more)
      go false more = (it, own)

  pub all_updated : (p : E → Bool) (f : E → E) → ((e : E) → P e → P (f e)) → (es : List E) → AllByRecursion P es → AllByRecursion P (update_where p f es)
  all_updated p f keeps [] own = tt
  all_updated p f keeps (e ∷ es) own = (go (p e), all_updated p f keeps es own.1)
    where
      go : (b : Bool) → P (cond b (f e) e)
      go true = keeps e own.0
      go false = own.0

  all_sorted : (cmp : E → E → Ordering) (es : List E) → AllByRecursion P es → AllByRecursion P (sort_by cmp es)
  all_sorted cmp [] own = tt
  all_sorted cmp (e ∷ es) own = all_inserted cmp e (sort_by cmp es) own.0 (all_sorted cmp es own.1)

  all_of : {A : Type 0} (f : A → E) → ((a : A) → P (f a)) → (items : List A) → AllByRecursion P (map f items)
  all_of f each [] = tt
  all_of f each (a ∷ items) = (each a, all_of f each items)

  pub all_pushed : (es : List E) (e : E) → AllByRecursion P es → P e → AllByRecursion P (es ++ e ∷ [])
  all_pushed [] e own it = (it, tt)
  all_pushed (x ∷ es) e own it = (own.0, all_pushed es e own.1 it)

-- ---- what rows tell

standing_bare : (number : ℕ) (attributes : Attributes) → option_map bare_standing (standing_decoded number (bare_attributes attributes)) ≡ standing_decoded number (bare_attributes attributes)
standing_bare number attributes = go (number == 0)
  where
    go : (b : Bool) → option_map bare_standing (cond b None (Some (record { phase = instance_phase_numbered number; attributes = bare_attributes attributes }))) ≡ cond b None (Some (record { phase = instance_phase_numbered number; attributes = bare_attributes attributes }))
    go true = refl
    go false = refl

pub row_told_bare : (cells : Row) → bare_row (instance_row_decoded cells) ≡ instance_row_decoded cells
row_told_bare cells = ap (λ (standing : Option Standing). record (instance_row_decoded cells) { standing = standing }) (standing_bare (number_in (column cells 1)) (attributes_decoded cells))

pub bare_again : (row : InstanceRow) → bare_row (bare_row row) ≡ bare_row row
bare_again row = ap (λ (standing : Option Standing). record row { standing = standing }) (go row.standing)
  where
    go : (standing : Option Standing) → option_map bare_standing (option_map bare_standing standing) ≡ option_map bare_standing standing
    go None = refl
    go (Some standing) = refl

-- the columns don't show a context
pub bare_shown : (id : List ℕ) (row : InstanceRow) → instance_row (id, row) ≡ instance_row (id, bare_row row)
bare_shown id row = go row.standing refl
  where
    go : (standing : Option Standing) → row.standing ≡ standing → instance_row (id, row) ≡ instance_row (id, bare_row row)
    go None is = rw is refl
    go (Some standing) is = rw is refl

-- ---- what is stored

pub stored_bare : (db : Trees) → AreBare (entries_in db)
stored_bare db = all_sorted _ entry_cmp _ (all_of _ entry_decoded (λ _. refl) (map order_cells (db 1)))

pub instances_bare : (db : Trees) → AreBareRows (instances_in db)
instances_bare db = all_sorted _ instance_cmp _ (all_of _ instance_decoded row_told_bare (map instance_cells (db 3)))

-- the order is without a context
abbrev IsBare : Order → Type 0
IsBare order = bare_order order ≡ order

orders_bare : (entries : List Entry) → AreBare entries → AllByRecursion IsBare (map (λ (entry : Entry). entry.1) entries)
orders_bare [] own = tt
orders_bare (entry ∷ entries) own = (own.0, orders_bare entries own.1)

last_bare : (order : Order) (later : List Order) → IsBare order → AllByRecursion IsBare later → IsBare (last_from order later)
last_bare order [] it own = it
last_bare order (next ∷ later) it own = last_bare next later own.0 own.1

stored_orders_bare : (db : Trees) (id : List ℕ) → AllByRecursion IsBare (life_of (bare_lives_in db) id)
stored_orders_bare db id = subst (AllByRecursion IsBare) (sym (life_of_lives id (entries_in db))) (orders_bare _ (all_filtered _ (is_of id) (entries_in db) (stored_bare db)))

-- what ends the last order of a stored life has no context
pub ended_bare : (db : Trees) (id : List ℕ) (number : ℕ) (outcome : Outcome) (order : Order) → order_written (last_of (life_of (bare_lives_in db) id)) (Finish number outcome) ≡ Some order → bare_order order ≡ order
ended_bare db id number outcome order writes = go (life_of (bare_lives_in db) id) (stored_orders_bare db id) writes
  where
    same_some : {a b : Order} → ◌≡◌ {A = Option Order} (Some a) (Some b) → a ≡ b
    same_some is = cc

    go : (life : List Order) → AllByRecursion IsBare life → order_written (last_of life) (Finish number outcome) ≡ Some order → bare_order order ≡ order
    go [] own writes = absurd (cc)
    go (first ∷ later) own writes =
        let is : with_outcome outcome (last_from first later) ≡ order = same_some writes in
        subst IsBare is (ap (with_outcome outcome) (last_bare first later own.0 own.1))

-- ---- what follows an order

life_bare : (life : List Order) → AllByRecursion IsBare life → bare_life life ≡ life
life_bare [] own = refl
life_bare (order ∷ life) own = ap₂ (λ (first : Order) later. first ∷ later) own.0 (life_bare life own.1)

pub stored_life_bare : (db : Trees) (id : List ℕ) → bare_life (life_of (bare_lives_in db) id) ≡ life_of (bare_lives_in db) id
stored_life_bare db id = life_bare _ (stored_orders_bare db id)

-- the row of a bare life follows the order without its context
pub bare_row_follows : (life : Life) (change : Change) (order : Order) (failed : Bool) (old : Option InstanceRow) (row : InstanceRow) → bare_life life ≡ life → IsWritten life change (bare_order order) → old ≡ row_of life → (is_failed_deletion order ≡ true → failed ≡ birth_failed life)
    → row ≡ row_after failed order old → row_of (changed change life) ≡ Some (bare_row row)
bare_row_follows life change order failed old row bare written told same is =
    let own : option_map bare_row old ≡ old = ap (option_map bare_row) told ∙ sym (row_of-bare life) ∙ ap row_of bare ∙ sym told in
    let after : row_after failed (bare_order order) old ≡ bare_row row = ap (row_after failed (bare_order order)) (sym own) ∙ row_after-bare failed order old ∙ ap bare_row (sym is) in
    row_stands life change {order = bare_order order} {old = old} {failed = failed} {E = Unit {0}} written told same (Ok (bare_row row)) (sym after)

-- bindings keep no context
pub bare_edit_follows : (life : Life) (change : Change) (order : Order) (old : Option BindingNow) (edit : BindingEdit) → IsWritten life change (bare_order order) → old ≡ get (bindings_of life) order.binding → edit ≡ edit_of order old
    → bindings_of (changed change life) ≡ edited edit order.binding (bindings_of life)
bare_edit_follows life change order old edit written told is =
    bindings_stand life change {order = bare_order order} {old = old} {E = Unit {0}} written told (Ok edit) (is ∙ sym (edit_of-bare order old))
