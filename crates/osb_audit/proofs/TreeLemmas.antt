-- The tree of an instance's bindings, and the rows that it holds.
use Rattle.std.proofs.Common.{◌≡◌, ◌==◌, ℕ, Bool, true, false, cond, ◌&&◌, T, List, [], ◌∷◌, length, map, arith, Some, None, Ordering, Less, is_lt, refl, sym, ◌∙◌, ap, subst}
use Rattle.std.specs.Prelude.{◌↔◌}
use Rattle.std.proofs.lemmas.List.{nil_from_length}
use Rattle.std.specs.Ordering.{nat_cmp, eq_by_cmp}
use Rattle.std.specs.Cmp.{eq_by_cmp_equiv}
use Rattle.std.specs.Cmp.Lexicographic.{slice_cmp, nat_list_cmp_total}
use Rattle.std.specs.List.{AllByRecursion}
use Rattle.std.specs.List.Sorted.{IsStrictlySortedBy}
use Rattle.std.specs.Map.{lookup, keys_of}
use Rattle.std.specs.BTreeMap as tree
use Rattle.std.specs.FinMap.{find, is_sorted, insert, remove, empty, entries, entries_sorted, get-entries, get-empty, get-insert, get-remove, slice_cmp-IsAntisymmetric, nat_cmp-IsAntisymmetric}
use Rattle.std.specs.FinMap.Entries.{below_all, same_entries}
use Rattle.osb_orders.specs.declared.view.BindingNow.{BindingNow}
use Rattle.osb_standing.specs.Rows.{Bindings}
use Rattle.osb_audit.specs.Life.{LooksUpAs}

abbrev by_bytes : List ℕ → List ℕ → Ordering
by_bytes = slice_cmp nat_cmp

abbrev Tree : Type 0
Tree = tree.BTreeMap (List ℕ) BindingNow

back : (a b : List ℕ) → eq_by_cmp by_bytes a b ≡ eq_by_cmp by_bytes b a
back = (eq_by_cmp_equiv nat_list_cmp_total).symm

module _ (rows : Bindings) (old new : Tree) (id : List ℕ) (held : LooksUpAs rows old) where
  pub holds_put : (key : List ℕ) (binding : BindingNow) → key ≡ id → ((q : List ℕ) → tree.get by_bytes new q ≡ cond (eq_by_cmp by_bytes key q) (Some binding) (tree.get by_bytes old q)) → LooksUpAs (insert rows id binding) new
  holds_put key binding same does q = does q ∙ (λ i. cond ((ap (λ (k : List ℕ). eq_by_cmp by_bytes k q) same ∙ back id q) i) (Some binding) (held q i)) ∙ sym (get-insert nat_list_cmp_total rows id binding q)

  pub holds_removed : ((q : List ℕ) → tree.get by_bytes new q ≡ cond (eq_by_cmp by_bytes id q) None (tree.get by_bytes old q)) → LooksUpAs (remove rows id) new
  holds_removed does q = does q ∙ (λ i. cond (back id q i) None (held q i)) ∙ sym (get-remove nat_list_cmp_total rows id q)

pub holds_none : (new : Tree) → new.entries ≡ [] → LooksUpAs empty new
holds_none new none q = ap (lookup (tree.is_at (by_bytes q))) none ∙ sym (get-empty by_bytes q)

-- ---- the entries

found : (q : List ℕ) (es : List (List ℕ × BindingNow)) → find by_bytes q es ≡ lookup (tree.is_at (by_bytes q)) es
found q [] = refl
found q (e ∷ es) = ap (cond (eq_by_cmp by_bytes q e.0) (Some e.1)) (found q es)

both : (a b : Bool) → T a → T b → T (a && b)
both true b p q = q
both false b p q = p

below : (id : List ℕ) (es : List (List ℕ × BindingNow)) → AllByRecursion (λ key. by_bytes id key ≡ Less) (keys_of es) → T (below_all by_bytes id es)
below id [] h = tt
below id (e ∷ es) h = both _ _ (subst (λ (o : Ordering). T (is_lt o)) (sym h.0) tt) (below id es h.1)

sorted : (es : List (List ℕ × BindingNow)) → IsStrictlySortedBy by_bytes (keys_of es) → T (is_sorted by_bytes es)
unfolding IsStrictlySortedBy
sorted [] h = tt
sorted (e ∷ es) h = both _ _ (below e.0 es h.0) (sorted es h.1)

-- the tree's entries are those of the rows
pub entries_held : (rows : Bindings) (bindings : Tree) → LooksUpAs rows bindings → IsStrictlySortedBy by_bytes (keys_of bindings.entries) → bindings.entries ≡ entries rows
entries_held rows bindings held h =
    sym (same_entries by_bytes nat_list_cmp_total (slice_cmp-IsAntisymmetric nat_cmp-IsAntisymmetric) (entries rows) bindings.entries (entries_sorted rows) (sorted bindings.entries h) (λ q.
    sym (get-entries rows q) ∙ sym (held q) ∙ sym (found q bindings.entries)))

-- ---- one list beside another

pub zero_is : (n : ℕ) → (n == 0) ≡ true → n ≡ 0
zero_is n e = grind arith

module _ {A B : Type 0} (f : A → B) (left : List B) (items : List A) where
  pub none_left : (item : A) (rest : List A) → length left ≡ 0 → items ≡ item ∷ rest → left ≡ map f items → ⊥
  none_left item rest none is same = let e : 0 ≡ length (map f (item ∷ rest)) = sym none ∙ ap length same ∙ ap (λ (xs : List A). length (map f xs)) is in omega arith

  pub other_first : (first : B) (more : List B) (item : A) (rest : List A) → left ≡ first ∷ more → items ≡ item ∷ rest → (first ≡ f item → ⊥) → left ≡ map f items → ⊥
  other_first first more item rest has is other same =
      let e : first ∷ more ≡ f item ∷ map f rest = sym has ∙ same ∙ ap (map f) is in
      other cc

  pub both_end : (r : Bool) → r ≡ (length left == 0) → items ≡ [] → (r ≡ true) ↔ (left ≡ map f items)
  both_end r told is = (λ e. nil_from_length left (zero_is (length left) (sym told ∙ e)) ∙ sym (ap (map f) is), λ same. told ∙ ap (λ (xs : List B). length xs == 0) (same ∙ ap (map f) is))

pub through : {A B C : Type 0} → (A ↔ B) → (B ↔ C) → (A ↔ C)
through f g = (λ a. g.0 (f.0 a), λ c. f.1 (g.1 c))

pub refused : {A : Type 0} (answer : Bool) → answer ≡ false → (A → ⊥) → (answer ≡ true) ↔ A
refused answer is h = (λ e. let f : false ≡ true = sym is ∙ e in cc, λ a. absurd (h a))
