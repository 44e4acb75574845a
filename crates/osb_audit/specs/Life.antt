-- What a pass over the orders of one instance has found. For contracts inside the crate.
use Rattle.std.specs.Prelude.{ℕ, ◌≡◌, List, Some, true, map}
use Rattle.std.specs.Ordering.{nat_cmp}
use Rattle.std.specs.Cmp.Lexicographic.{slice_cmp}
use Rattle.std.specs.BTreeMap as tree
use Rattle.std.specs.FinMap.{get, entries}
use Rattle.osb_text.specs.Id.{is_id}
use Rattle.osb_orders.specs.declared.view.BindingNow.{BindingNow}
use Rattle.osb_orders.specs.Life.{Life}
use Rattle.osb_orders.specs.IsLife.{IsLife}
use Rattle.osb_standing.specs.declared.row.InstanceRow.{InstanceRow}
use Rattle.osb_standing.specs.Rows.{Bindings, row_of, birth_failed, bindings_of}
use Rattle.osb_audit.specs.declared.entry.BindingEntry.{BindingEntry}
use Rattle.osb_audit.specs.declared.life.LifeSoFar.{LifeSoFar}
use Rattle.osb_audit.specs.Orders.{Entry}
use Rattle.osb_audit.specs.Bindings.{binding_entry}

-- the orders of entries
abbrev pub orders_in : List Entry → Life
orders_in entries = map (λ (entry : Entry). entry.1) entries

-- the tree answers each look-up as the rows do
abbrev pub LooksUpAs : Bindings → tree.BTreeMap (List ℕ) BindingNow → Type 0
LooksUpAs rows bindings = (id : List ℕ) → tree.get (slice_cmp nat_cmp) bindings id ≡ get rows id

-- the life is well formed, and these are its rows
pub record IsLifeSoFar (life : Life) (found : LifeSoFar) : Type 0 where
  pub is_life : IsLife life
  pub row : found.row ≡ row_of life
  pub birth : found.birth_failed ≡ birth_failed life
  pub bindings : LooksUpAs (bindings_of life) found.bindings

-- an instance of this id that has had these orders has this row, and its bindings have these
pub record IsConsistentAlone (id : List ℕ) (row : InstanceRow) (life : Life)
    (bound : List BindingEntry) : Type 0 where
  pub named : is_id id ≡ true
  pub is_life : IsLife life
  pub row_stands : row_of life ≡ Some row
  pub bound_stand : bound ≡ map (binding_entry id) (entries (bindings_of life))
