-- Sets of pairs, and the list of a set.
use Rattle.std.proofs.Common.{◌≡◌, ℕ, ◌+◌, ◌<◌, Bool, true, false, cond, ◌||◌, List, [], ◌∷◌, ◌++◌, length, take, get_or, Ordering, Less, Equal, Greater, is_eq, refl, sym, ◌∙◌, ap, subst}
use Rattle.std.specs.List.{AllByRecursion, list_any, flat_map}
use Rattle.std.specs.List.Sorted.{IsStrictlySortedBy}
use Rattle.std.specs.Ordering.{nat_cmp, ordering_reverse, match_ordering, eq_by_cmp}
use Rattle.std.specs.Cmp.{IsTotalOrder, alike_right, eq_by_cmp_equiv}
use Rattle.std.specs.Cmp.Lexicographic.{slice_cmp, nat_list_cmp_total}
use Rattle.std.specs.BTreeSet.{BTreeSet, insert_key, contains}
use Rattle.std.proofs.lemmas.Cmp.{on_total, then_total}
use Rattle.std.proofs.lemmas.List.{take_more}
use Rattle.std.proofs.lemmas.List.Folds.{list_any-append}
use Rattle.std.proofs.lemmas.Map.Lookups.{CmpEqualImpliesEq, exact_bytes, exact_pairs, btree_set_from_contains}
use Rattle.osb_audit.specs.Plans.{Pair, pair_cmp, in_order}
use Rattle.osb_audit.specs.Gathered.{Adds}

pairs_total : IsTotalOrder pair_cmp
pairs_total = then_total (on_total (λ (pair : Pair). pair.0) nat_list_cmp_total) (on_total (λ (pair : Pair). pair.1) nat_list_cmp_total)

pairs_exact : CmpEqualImpliesEq pair_cmp
pairs_exact = exact_pairs (slice_cmp nat_cmp) (slice_cmp nat_cmp) exact_bytes exact_bytes

-- ---- what a set has

pub adds_one : (pair key : Pair) (old new : BTreeSet Pair) → key ≡ pair → ((q : Pair) → contains pair_cmp new q ≡ cond (is_eq (pair_cmp key q)) true (contains pair_cmp old q)) → Adds (pair ∷ []) old new
adds_one pair key old new same does q =
    does q
    ∙ ap (λ b. cond b true (contains pair_cmp old q)) (ap (λ (key : Pair). eq_by_cmp pair_cmp key q) same ∙ (eq_by_cmp_equiv pairs_total).symm pair q)
    ∙ either (eq_by_cmp pair_cmp q pair) (contains pair_cmp old q)
  where
    either : (a b : Bool) → cond a true b ≡ ((a || false) || b)
    either true b = refl
    either false b = refl

pub adds_then : (first second : List Pair) (old between new : BTreeSet Pair) → Adds first old between → Adds second between new → Adds (first ++ second) old new
adds_then first second old between new does then q =
    then q
    ∙ ap (λ b. list_any (eq_by_cmp pair_cmp q) second || b) (does q)
    ∙ swapped (list_any (eq_by_cmp pair_cmp q) second) (list_any (eq_by_cmp pair_cmp q) first) (contains pair_cmp old q)
    ∙ ap (λ b. b || contains pair_cmp old q) (sym (list_any-append (eq_by_cmp pair_cmp q) first second))
  where
    swapped : (a b c : Bool) → (a || (b || c)) ≡ ((b || a) || c)
    swapped true true c = refl
    swapped true false c = refl
    swapped false true c = refl
    swapped false false c = refl

append_nil : {A : Type 0} (xs : List A) → xs ++ [] ≡ xs
append_nil [] = refl
append_nil (x ∷ xs) = ap (λ ys. x ∷ ys) (append_nil xs)

mapped_push : {A : Type 0} (f : A → List Pair) (xs : List A) (x : A) → flat_map f (xs ++ x ∷ []) ≡ flat_map f xs ++ f x
mapped_push f [] x = append_nil (f x)
mapped_push f (y ∷ xs) x = ap (λ ps. f y ++ ps) (mapped_push f xs x) ∙ sym (joined (f y) (flat_map f xs) (f x))
  where
    joined : (a b c : List Pair) → (a ++ b) ++ c ≡ a ++ (b ++ c)
    joined [] b c = refl
    joined (p ∷ a) b c = ap (λ ps. p ∷ ps) (joined a b c)

-- one item more
pub adds_more : {A : Type 0} (f : A → List Pair) (xs : List A) (i : ℕ) (x : A) (start old new : BTreeSet Pair) → i < length xs → x ≡ get_or xs i x → Adds (flat_map f (take i xs)) start old → Adds (f x) old new → Adds (flat_map f (take (i + 1) xs)) start new
adds_more f xs i x start old new below is so_far does =
    subst (λ (pairs : List Pair). Adds pairs start new) (sym (ap (flat_map f) (take_more xs i x below ∙ ap (λ y. take i xs ++ y ∷ []) (sym is)) ∙ mapped_push f (take i xs) x))
    (adds_then (flat_map f (take i xs)) (f x) start old new so_far does)

-- ---- in order

below_insert : (x k : Pair) (ks : List Pair) → pair_cmp x k ≡ Less → AllByRecursion (λ y. pair_cmp x y ≡ Less) ks → AllByRecursion (λ y. pair_cmp x y ≡ Less) (insert_key pair_cmp ks k)
below_insert x k [] below h = (below, tt)
below_insert x k (y ∷ ks) below h = go (pair_cmp k y) (below_insert x k ks below h.1)
  where
    go : (o : Ordering) → AllByRecursion (λ y. pair_cmp x y ≡ Less) (insert_key pair_cmp ks k) → AllByRecursion (λ y. pair_cmp x y ≡ Less) (match_ordering o (k ∷ y ∷ ks) (y ∷ ks) (y ∷ insert_key pair_cmp ks k))
    go Less more = (below, h)
    go Equal more = h
    go Greater more = (h.0, more)

all_below : (k y : Pair) (ks : List Pair) → pair_cmp k y ≡ Less → AllByRecursion (λ z. pair_cmp y z ≡ Less) ks → AllByRecursion (λ z. pair_cmp k z ≡ Less) ks
all_below k y [] below h = tt
all_below k y (z ∷ ks) below h = (pairs_total.trans k y z below h.0, all_below k y ks below h.1)

insert_rises : (k : Pair) (ks : List Pair) → IsStrictlySortedBy pair_cmp ks → IsStrictlySortedBy pair_cmp (insert_key pair_cmp ks k)
unfolding IsStrictlySortedBy
insert_rises k [] h = (tt, tt)
insert_rises k (y ∷ ks) h = go (pair_cmp k y) refl (insert_rises k ks h.1)
  where
    go : (o : Ordering) → pair_cmp k y ≡ o → IsStrictlySortedBy pair_cmp (insert_key pair_cmp ks k) → IsStrictlySortedBy pair_cmp (match_ordering o (k ∷ y ∷ ks) (y ∷ ks) (y ∷ insert_key pair_cmp ks k))
    go Less e more = ((e, all_below k y ks e h.0), h)
    go Equal e more = h
    go Greater e more = (below_insert y k ks (pairs_total.antisymm y k ∙ ap ordering_reverse e) h.0, more)

insert_has : (q k : Pair) (ks : List Pair) → list_any (eq_by_cmp pair_cmp q) (insert_key pair_cmp ks k) ≡ (eq_by_cmp pair_cmp q k || list_any (eq_by_cmp pair_cmp q) ks)
insert_has q k [] = refl
insert_has q k (y ∷ ks) = go (pair_cmp k y) refl (insert_has q k ks)
  where
    has : List Pair → Bool
    has ks = list_any (eq_by_cmp pair_cmp q) ks

    twice : (a c : Bool) → (a || c) ≡ (a || (a || c))
    twice true c = refl
    twice false c = refl

    later : (a b c : Bool) → (a || (b || c)) ≡ (b || (a || c))
    later true true c = refl
    later true false c = refl
    later false b c = refl

    go : (o : Ordering) → pair_cmp k y ≡ o → list_any (eq_by_cmp pair_cmp q) (insert_key pair_cmp ks k) ≡ (eq_by_cmp pair_cmp q k || list_any (eq_by_cmp pair_cmp q) ks)
        → list_any (eq_by_cmp pair_cmp q) (match_ordering o (k ∷ y ∷ ks) (y ∷ ks) (y ∷ insert_key pair_cmp ks k)) ≡ (eq_by_cmp pair_cmp q k || (eq_by_cmp pair_cmp q y || list_any (eq_by_cmp pair_cmp q) ks))
    go Less e more = refl
    go Equal e more = twice (eq_by_cmp pair_cmp q y) (list_any (eq_by_cmp pair_cmp q) ks) ∙ ap (λ b. b || (eq_by_cmp pair_cmp q y || list_any (eq_by_cmp pair_cmp q) ks)) (sym (ap is_eq (alike_right pairs_total k y q e)))
    go Greater e more = ap (λ b. eq_by_cmp pair_cmp q y || b) more ∙ later (eq_by_cmp pair_cmp q y) (eq_by_cmp pair_cmp q k) (list_any (eq_by_cmp pair_cmp q) ks)

order_rises : (pairs : List Pair) → IsStrictlySortedBy pair_cmp (in_order pairs)
unfolding IsStrictlySortedBy
order_rises [] = tt
order_rises (pair ∷ pairs) = insert_rises pair (in_order pairs) (order_rises pairs)

order_has : (q : Pair) (pairs : List Pair) → list_any (eq_by_cmp pair_cmp q) (in_order pairs) ≡ list_any (eq_by_cmp pair_cmp q) pairs
order_has q [] = refl
order_has q (pair ∷ pairs) = insert_has q pair (in_order pairs) ∙ ap (λ b. eq_by_cmp pair_cmp q pair || b) (order_has q pairs)

-- a set that has these pairs is the list of them
pub listed_in_order : (plans : BTreeSet Pair) (pairs : List Pair) → IsStrictlySortedBy pair_cmp plans.keys → ((q : Pair) → contains pair_cmp plans q ≡ list_any (eq_by_cmp pair_cmp q) pairs) → plans.keys ≡ in_order pairs
listed_in_order plans pairs rises has = btree_set_from_contains pairs_total plans (record { keys = in_order pairs }) rises (order_rises pairs) (λ q. has q ∙ sym (order_has q pairs)) pairs_exact
