-- The front of a list that has one key, and what follows.
use Rattle.std.proofs.Common.{◌≡◌, ℕ, ◌+◌, suc, Bool, true, false, cond, List, [], ◌∷◌, ◌++◌, filter, take, drop, bytes_eq, Ordering, Less, Equal, Greater, is_gt, true≢false, refl, sym, ◌∙◌, ap, subst, arith}
use Rattle.std.specs.Ordering.{nat_cmp, ordering_then}
use Rattle.std.specs.Cmp.{tied_itself}
use Rattle.std.specs.Cmp.Lexicographic.{slice_cmp, nat_list_cmp_total}
use Rattle.std.specs.List.{AllByRecursion, prefix_len}
use Rattle.std.specs.List.Sorted.{IsStrictlySortedBy}
use Rattle.std.specs.FinMap.{slice_cmp-IsAntisymmetric, nat_cmp-IsAntisymmetric}
use Rattle.std.proofs.lemmas.Slice.Eq.{bytes_eq-Decides}
use Rattle.osb_audit.specs.Runs.{run, past}

pub same_text : (a b : List ℕ) → bytes_eq a b ≡ true → a ≡ b
same_text a b e = (bytes_eq-Decides a b).0 e

pub text_itself : (a : List ℕ) → bytes_eq a a ≡ true
text_itself a = (bytes_eq-Decides a a).1 refl

abbrev pub by_bytes : List ℕ → List ℕ → Ordering
by_bytes = slice_cmp nat_cmp

-- ---- texts in order

tied : (a b : List ℕ) → by_bytes a b ≡ Equal → a ≡ b
tied = slice_cmp-IsAntisymmetric nat_cmp-IsAntisymmetric

-- the first isn't above the second
abbrev pub UpTo : List ℕ → List ℕ → Type 0
UpTo a b = is_gt (by_bytes a b) ≡ false

pub not_itself : (a b : List ℕ) → by_bytes a b ≡ Less → bytes_eq b a ≡ false
not_itself a b below = go (bytes_eq b a) refl
  where
    go : (c : Bool) → bytes_eq b a ≡ c → c ≡ false
    go false e = refl
    go true e =
        let less : by_bytes a a ≡ Less = subst (λ (c : List ℕ). by_bytes a c ≡ Less) (same_text b a e) below in
        let equal : by_bytes a a ≡ Equal = tied_itself nat_list_cmp_total a in
        let both : Less ≡ Equal = sym less ∙ equal in
        cc

pub further : (a b c : List ℕ) → by_bytes a b ≡ Less → UpTo b c → by_bytes a c ≡ Less
further a b c below up = go (by_bytes b c) refl up
  where
    go : (o : Ordering) → by_bytes b c ≡ o → is_gt o ≡ false → by_bytes a c ≡ Less
    go Less e h = nat_list_cmp_total.trans a b c below e
    go Equal e h = subst (λ (c : List ℕ). by_bytes a c ≡ Less) (tied b c e) below
    go Greater e h = cc

pub strictly : (a b : List ℕ) → UpTo a b → bytes_eq b a ≡ false → by_bytes a b ≡ Less
strictly a b up other = go (by_bytes a b) refl up
  where
    go : (o : Ordering) → by_bytes a b ≡ o → is_gt o ≡ false → o ≡ Less
    go Less e h = refl
    go Equal e h = absurd (true≢false (sym (subst (λ (c : List ℕ). bytes_eq c a ≡ true) (tied a b e) (text_itself a)) ∙ other))
    go Greater e h = cc

pub first_up : (o p : Ordering) → ordering_then o p ≡ Less → is_gt o ≡ false
first_up Less p e = refl
first_up Equal p e = refl
first_up Greater p e = cc

-- ---- runs

module _ {X : Type 0} (p : X → Bool) where
  one_more : (n : ℕ) → 1 + n ≡ suc n
  one_more n = omega arith

  pub run_taken : (xs : List X) → take (prefix_len p xs) xs ≡ run p xs
  run_taken [] = refl
  run_taken (x ∷ xs) = go (p x) (run_taken xs)
    where
      go : (b : Bool) → take (prefix_len p xs) xs ≡ run p xs → take (cond b (1 + prefix_len p xs) 0) (x ∷ xs) ≡ cond b (x ∷ run p xs) []
      go true more = ap (λ n. take n (x ∷ xs)) (one_more (prefix_len p xs)) ∙ ap (λ ys. x ∷ ys) more
      go false more = refl

  pub past_dropped : (xs : List X) → drop (prefix_len p xs) xs ≡ past p xs
  past_dropped [] = refl
  past_dropped (x ∷ xs) = go (p x) (past_dropped xs)
    where
      go : (b : Bool) → drop (prefix_len p xs) xs ≡ past p xs → drop (cond b (1 + prefix_len p xs) 0) (x ∷ xs) ≡ cond b (past p xs) (x ∷ xs)
      go true more = ap (λ n. drop n (x ∷ xs)) (one_more (prefix_len p xs)) ∙ more
      go false more = refl

  pub past_rises : (cmp : X → X → Ordering) (xs : List X) → IsStrictlySortedBy cmp xs → IsStrictlySortedBy cmp (past p xs)
  unfolding IsStrictlySortedBy
  past_rises cmp [] h = tt
  past_rises cmp (x ∷ xs) h = go (p x) (past_rises cmp xs h.1)
    where
      go : (b : Bool) → IsStrictlySortedBy cmp (past p xs) → IsStrictlySortedBy cmp (cond b (past p xs) (x ∷ xs))
      go true more = more
      go false more = h

module _ {X : Type 0} (key : X → List ℕ) (id : List ℕ) where
  abbrev has : List ℕ → X → Bool
  has id x = bytes_eq (key x) id

  -- what follows the run has all items of other keys
  pub others_past : (q : List ℕ) → bytes_eq id q ≡ false → (xs : List X) → filter (has q) (past (has id) xs) ≡ filter (has q) xs
  others_past q other [] = refl
  others_past q other (x ∷ xs) = go (has id x) refl (others_past q other xs)
    where
      go : (b : Bool) → has id x ≡ b → filter (has q) (past (has id) xs) ≡ filter (has q) xs → filter (has q) (cond b (past (has id) xs) (x ∷ xs)) ≡ filter (has q) (x ∷ xs)
      go true e more = more ∙ sym (ap (λ b. cond b (x ∷ filter (has q) xs) (filter (has q) xs)) (ap (λ (k : List ℕ). bytes_eq k q) (same_text (key x) id e) ∙ other))
      go false e more = refl

  -- the items of the key are the run, and those that follow it
  pub run_first : (xs : List X) → filter (has id) xs ≡ run (has id) xs ++ filter (has id) (past (has id) xs)
  run_first [] = refl
  run_first (x ∷ xs) = go (has id x) refl (run_first xs)
    where
      go : (b : Bool) → has id x ≡ b → filter (has id) xs ≡ run (has id) xs ++ filter (has id) (past (has id) xs) → cond b (x ∷ filter (has id) xs) (filter (has id) xs) ≡ cond b (x ∷ run (has id) xs) [] ++ filter (has id) (cond b (past (has id) xs) (x ∷ xs))
      go true e more = ap (λ ys. x ∷ ys) more
      go false e more = sym (ap (λ b. cond b (x ∷ filter (has id) xs) (filter (has id) xs)) e)

  -- no later key is below the first
  abbrev pub Climbs : List X → Type 0
  Climbs [] = Unit {0}
  Climbs (x ∷ xs) = AllByRecursion (λ y. UpTo (key x) (key y)) xs × Climbs xs

  -- the first key isn't below this one
  abbrev pub Begins : List X → Type 0
  Begins [] = Unit {0}
  Begins (x ∷ xs) = UpTo id (key x)

  none_above : (k : List ℕ) → by_bytes id k ≡ Less → (xs : List X) → AllByRecursion (λ y. UpTo k (key y)) xs → filter (has id) xs ≡ []
  none_above k below [] h = refl
  none_above k below (x ∷ xs) h = ap (λ b. cond b (x ∷ filter (has id) xs) (filter (has id) xs)) (not_itself id (key x) (further id k (key x) below h.0)) ∙ none_above k below xs h.1

  begins_later : (x : X) → has id x ≡ true → (xs : List X) → AllByRecursion (λ y. UpTo (key x) (key y)) xs → Begins xs
  begins_later x e [] h = tt
  begins_later x e (y ∷ xs) h = subst (λ (k : List ℕ). UpTo k (key y)) (same_text (key x) id e) h.0

  -- where keys climb from this one, none of it follows the run
  pub none_past : (xs : List X) → Climbs xs → Begins xs → filter (has id) (past (has id) xs) ≡ []
  none_past [] h begins = refl
  none_past (x ∷ xs) h begins = go (has id x) refl (none_past xs)
    where
      go : (b : Bool) → has id x ≡ b → (Climbs xs → Begins xs → filter (has id) (past (has id) xs) ≡ []) → filter (has id) (cond b (past (has id) xs) (x ∷ xs)) ≡ []
      go true e more = more h.1 (begins_later x e xs h.0)
      go false e more = ap (λ b. cond b (x ∷ filter (has id) xs) (filter (has id) xs)) e ∙ none_above (key x) (strictly id (key x) begins e) xs h.0

pub climbs : {X : Type 0} (key : X → List ℕ) (id : List ℕ) (cmp : X → X → Ordering) → ((x y : X) → cmp x y ≡ Less → UpTo (key x) (key y)) → (xs : List X) → IsStrictlySortedBy cmp xs → Climbs key id xs
unfolding IsStrictlySortedBy
climbs key id cmp up [] h = tt
climbs {X = X} key id cmp up (x ∷ xs) h = (all xs h.0, climbs key id cmp up xs h.1)
  where
    all : (ys : List X) → AllByRecursion (λ y. cmp x y ≡ Less) ys → AllByRecursion (λ y. UpTo (key x) (key y)) ys
    all [] h = tt
    all (y ∷ ys) h = (up x y h.0, all ys h.1)
