-- What trimming leaves of lives. Up to the last succeeded deletion of an instance each order keeps its number, its kind,
-- its binding and its outcome, and loses what was asked for.
use Rattle.std.specs.Prelude.{ℕ, ◌+◌, Bool, List, [], ◌∷◌, map, codes, if◌then◌else◌}
use Rattle.std.specs.List.{list_any}
use Rattle.std.specs.FinMap.{entries, from_sorted}
use Rattle.osb_orders.specs.declared.order.OrderKind.{OrderKind}
use Rattle.osb_orders.specs.declared.order.OrderKind.TheVariants.{Delete}
use Rattle.osb_orders.specs.declared.order.Attributes.{Attributes}
use Rattle.osb_orders.specs.declared.order.Order.{Order}
use Rattle.osb_orders.specs.Orders.{is_about_binding, has_succeeded, empty_object}
use Rattle.osb_orders.specs.Life.{Life}
use Rattle.osb_orders.specs.Lives.{Lives}
use Rattle.osb_machine.specs.Same.{are_same}

-- valid texts that say nothing of what was asked for
abbrev pub erased_attributes : OrderKind → Attributes
erased_attributes kind = record {
  service = codes "-";
  plan = codes "-";
  place = if is_about_binding kind then [] else codes "-";
  spot = if is_about_binding kind then codes "{}" else codes "-";
  parameters = codes "{}";
  maintenance = [];
  context = empty_object;
}

abbrev pub erased : Order → Order
erased order = record order { attributes = erased_attributes order.kind }

-- an order is erased if it is a succeeded deletion, or one comes after it
abbrev pub trimmed : Life → Life
trimmed [] = []
trimmed (order ∷ later) =
    (if list_any (has_succeeded Delete) (order ∷ later) then erased order else order)
    ∷ trimmed later

-- an instance's id with its life
abbrev pub trimmed_instance : (List ℕ × Life) → (List ℕ × Life)
trimmed_instance instance = (instance.0, trimmed instance.1)

-- each life trimmed
abbrev pub trimmed_lives : Lives → Lives
trimmed_lives lives = from_sorted (map trimmed_instance (entries lives))

-- nothing that was asked for is left of the order
abbrev pub is_erased : Order → Bool
is_erased order = are_same order.attributes (erased_attributes order.kind)

-- how many orders have other attributes in the one life than in the other
abbrev pub changed_count : Life → Life → ℕ
changed_count (one ∷ before) (other ∷ after) =
    (if are_same one.attributes other.attributes then 0 else 1) + changed_count before after
changed_count _ _ = 0

-- how many orders trimming changes
abbrev pub trimmed_count : Life → ℕ
trimmed_count life = changed_count life (trimmed life)
