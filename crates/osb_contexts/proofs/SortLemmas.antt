-- The entries of the tree are those that it holds.
use Rattle.std.proofs.Common.{◌≡◌, zero, suc, add-one, List, [], ◌∷◌, map, false, Ordering, Less, is_eq, is_lt, refl, sym, ap, subst, ◌∙◌, arith, IsPermutation, IsSorted}
use Rattle.std.specs.Ordering.{ordering_reverse}
use Rattle.std.specs.Cmp.{IsTotalOrder}
use Rattle.std.proofs.lemmas.Cmp.{nat_list_cmp_total, nat_cmp_total, on_total, then_total}
use Rattle.std.proofs.lemmas.List.Sorted.{IsPermutation-map, IsPermutation-refl, IsPermutation-sym}
use Rattle.sqlite.specs.Order.{Row}
use Rattle.sqlite.specs.Tree.{Trees}
use Rattle.sqlite_trees.specs.Tree.{IsAscending}
use Rattle.sqlite_keyed.specs.Lists.{sort_by}
use Rattle.sqlite_keyed.proofs.ListLemmas.{map_back, ascending_weaker}
use Rattle.sqlite_keyed.proofs.SortLemmas.{sorted_is-sort_by}
use Rattle.osb_rows.specs.Rows.{Stores}
use Rattle.osb_joined.specs.declared.entry.ContextEntry.{ContextEntry}
use Rattle.osb_joined.specs.Contexts.{context_cmp}
use Rattle.osb_contexts.specs.Contexts.{context_row, context_decoded, context_cells, contexts_in, HoldsContexts}
use Rattle.osb_rows.proofs.RowLemmas.{ascending_permuted, untied_back}

pub context_total : IsTotalOrder context_cmp
context_total = then_total (on_total (λ (entry : ContextEntry). entry.instance) nat_list_cmp_total) (on_total (λ (entry : ContextEntry). entry.number) nat_cmp_total)

-- a row is decoded to the context that it shows
pub context_back : (e : ContextEntry) → context_decoded (context_row e) ≡ e
context_back e = refl

module _ {E : Type 0} (cmp : E → E → Ordering) (total : IsTotalOrder cmp) where
  sorted : (es : List E) → IsAscending (λ a b. cmp a b ≡ Less) es → IsSorted cmp es
  sorted [] up k d low high = absurd (omega (arith, high))
  sorted (x ∷ []) up k d low high = absurd (omega (arith, high))
  sorted (x ∷ y ∷ es) up zero d low high = ap is_lt (total.antisymm y x ∙ ap ordering_reverse up.0.0)
  sorted (x ∷ y ∷ es) up (suc k) d low high = rw add-one (rw add-one at (sorted (y ∷ es) up.1 k d (omega arith) (omega (arith, high))))

  pub sort_is : (cells : Row → Row) (shown : E → Row) (told : Row → E) → ((e : E) → told (shown e) ≡ e) → (rows : List Row) (es : List E) → Stores cells shown cmp rows es → sort_by cmp (map told (map cells rows)) ≡ es
  sort_is cells shown told back rows es h =
      let xs = map told (map cells rows) in
      let same : IsPermutation xs es = subst (IsPermutation xs) (map_back shown told back es) (IsPermutation-map told _ _ h.held.same) in
      let apart = ascending_weaker _ (λ a b. is_eq (cmp a b) ≡ false) (λ a b less. ap is_eq less) es h.rising in
      sym (sorted_is-sort_by cmp total xs es (ascending_permuted (λ a b. is_eq (cmp a b) ≡ false) (untied_back cmp total) es xs (IsPermutation-sym _ _ same) apart) same (sorted es h.rising))

pub contexts_are : (db : Trees) (entries : List ContextEntry) → HoldsContexts entries db → contexts_in db ≡ entries
contexts_are db entries h = sort_is context_cmp context_total context_cells context_row context_decoded context_back (db 7) entries h

pub held_again : (db : Trees) (entries : List ContextEntry) → HoldsContexts entries db → HoldsContexts (contexts_in db) db
held_again db entries h = subst (λ es. HoldsContexts es db) (sym (contexts_are db entries h)) h

-- a table without rows
pub none_stored : {E : Type 0} (cells : Row → Row) (shown : E → Row) (cmp : E → E → Ordering) (rows : List Row) → rows ≡ [] → Stores cells shown cmp rows []
none_stored cells shown cmp rows is = subst (λ r. Stores cells shown cmp r []) (sym is) (record { held = record { apart = tt; keyed = tt; same = IsPermutation-refl [] }; rising = tt; texts = tt })
