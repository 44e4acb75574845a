-- The contexts of lives as the entries of a table: one for each order, and for each instance one with the number 0, which
-- has the current context (this project's own).
use Rattle.std.specs.Prelude.{◌≡◌, ℕ, Bool, ◌&&◌, ◌==◌, List, [], ◌∷◌, map, bytes_eq, Option}
use Rattle.std.specs.List.{flat_map}
use Rattle.std.specs.declared.cmp.Ordering.{Ordering}
use Rattle.std.specs.declared.cmp.Ordering.TheVariants.{Less}
use Rattle.std.specs.Ordering.{nat_cmp, ordering_then}
use Rattle.std.specs.Cmp.Lexicographic.{slice_cmp}
use Rattle.std.specs.FinMap.{entries}
use Rattle.sqlite_trees.specs.Tree.{IsAscending}
use Rattle.osb_orders.specs.declared.order.Order.{Order}
use Rattle.osb_orders.specs.declared.view.Standing.{Standing}
use Rattle.osb_orders.specs.Life.{Life, standing_of}
use Rattle.osb_orders.specs.Lives.{Lives}
use Rattle.osb_bare.specs.Context.{standing_context}
use Rattle.osb_joined.specs.declared.entry.ContextEntry.{ContextEntry}

abbrev pub context_entry : List ℕ → ℕ → List ℕ → ContextEntry
context_entry instance number context =
    record { instance = instance; number = number; context = context }

-- the order of the keys: by the instance, and then by the number
abbrev pub context_cmp : ContextEntry → ContextEntry → Ordering
context_cmp a b = ordering_then (slice_cmp nat_cmp a.instance b.instance) (nat_cmp a.number b.number)

-- the keys rise
abbrev pub AreRising : List ContextEntry → Type 0
AreRising = IsAscending (λ a b. context_cmp a b ≡ Less)

-- the entry has this key
abbrev pub is_context : List ℕ → ℕ → ContextEntry → Bool
is_context instance number entry = bytes_eq entry.instance instance && (entry.number == number)

-- the entry with another context
abbrev pub with_context : List ℕ → ContextEntry → ContextEntry
with_context context entry = record entry { context = context }

-- ---- of lives

abbrev pub context_of_order : List ℕ → Order → ContextEntry
context_of_order id order = context_entry id order.number order.attributes.context

abbrev pub context_of_standing : List ℕ → Option Standing → ContextEntry
context_of_standing id standing = context_entry id 0 (standing_context standing)

-- none where the instance never had an order
abbrev pub contexts_of_instance : List ℕ → Life → List ContextEntry
contexts_of_instance id [] = []
contexts_of_instance id (order ∷ later) =
    context_of_standing id (standing_of (order ∷ later)) ∷ map (context_of_order id) (order ∷ later)

-- those of all instances, in the order of their ids
abbrev pub contexts_of : Lives → List ContextEntry
contexts_of lives =
    flat_map (λ (instance : List ℕ × Life). contexts_of_instance instance.0 instance.1)
    (entries lives)
