-- Lists that rise strictly.
use Rattle.std.proofs.Common.{◌≡◌, ◌+◌, Bool, true, false, List, [], ◌∷◌, Ordering, Less, Equal, Greater, is_lt, refl, ◌∙◌, ap, arith}
use Rattle.std.specs.Prelude.{◌↔◌}
use Rattle.std.specs.List.{IsAllAdjacentAnswer}
use Rattle.std.specs.List.Sorted.{IsStrictlySortedBy}
use Rattle.std.specs.Cmp.{IsTotalOrder}
use Rattle.std.specs.Cmp.Lexicographic.{nat_list_cmp_total}
use Rattle.std.proofs.lemmas.Cmp.{nat_cmp_total, on_total, then_total}
use Rattle.std.proofs.lemmas.Map.Keys.{Less-from_sorted, sorted_from_all_adjacent}
use Rattle.osb_audit.specs.declared.entry.BindingEntry.{BindingEntry}
use Rattle.osb_audit.specs.Orders.{Entry, entry_cmp}
use Rattle.osb_audit.specs.Instances.{InstanceEntry, instance_cmp}
use Rattle.osb_audit.specs.Bindings.{binding_cmp}

pub entries_total : IsTotalOrder entry_cmp
entries_total = then_total (on_total (λ (entry : Entry). entry.0) nat_list_cmp_total) (on_total (λ (entry : Entry). entry.1.number) nat_cmp_total)

pub instances_total : IsTotalOrder instance_cmp
instances_total = on_total (λ (entry : InstanceEntry). entry.0) nat_list_cmp_total

pub bindings_total : IsTotalOrder binding_cmp
bindings_total = then_total (on_total (λ (entry : BindingEntry). entry.instance) nat_list_cmp_total) (on_total (λ (entry : BindingEntry). entry.binding) nat_list_cmp_total)

less : (o : Ordering) → true ≡ is_lt o → o ≡ Less
less Less e = refl
less Equal e = cc
less Greater e = cc

not_less : (o : Ordering) → false ≡ is_lt o → o ≡ Less → ⊥
not_less o e f = let g : false ≡ true = e ∙ ap is_lt f in cc

module _ {X : Type 0} {cmp : X → X → Ordering} (total : IsTotalOrder cmp) where
  rises : (xs : List X) (r : Bool) → IsAllAdjacentAnswer (λ x y b. b ≡ is_lt (cmp x y)) xs r → r ≡ true → IsStrictlySortedBy cmp xs
  unfolding IsStrictlySortedBy
  rises [] r h e = tt
  rises (x ∷ xs) true h e = sorted_from_all_adjacent total (x ∷ xs) x (λ k below. less _ (h k x below))
  rises (x ∷ xs) false h e = cc

  risen : (xs : List X) (r : Bool) → IsAllAdjacentAnswer (λ x y b. b ≡ is_lt (cmp x y)) xs r → IsStrictlySortedBy cmp xs → r ≡ true
  risen xs true h sorted = refl
  risen [] false h sorted = absurd (omega (arith, h.1))
  risen (x ∷ xs) false h sorted = absurd (not_less _ (h.2 x) (Less-from_sorted cmp (x ∷ xs) h.0 (h.0 + 1) x sorted (omega arith) h.1))

  -- what `is_sorted_by` answers
  pub rising : (xs : List X) (r : Bool) → IsAllAdjacentAnswer (λ x y b. b ≡ is_lt (cmp x y)) xs r → (r ≡ true) ↔ IsStrictlySortedBy cmp xs
  rising xs r h = (rises xs r h, risen xs r h)
