-- Lists that rise, and what tests see of them.
use Rattle.std.proofs.Common.{◌≡◌, List, [], ◌∷◌, ◌++◌, filter, Bool, true, false, cond, true≢false, Ordering, Less, Equal, Greater, is_eq, is_gt, refl, sym, ap, subst, ◌∙◌}
use Rattle.std.specs.List.{AllByRecursion}
use Rattle.std.specs.List.Sorted.{IsStrictlySortedBy}
use Rattle.std.specs.Ordering.{ordering_reverse}
use Rattle.std.specs.Cmp.{IsTotalOrder, tied_itself}
use Rattle.sqlite_trees.specs.Tree.{IsAscending}
use Rattle.sqlite_keyed.specs.Lists.{insert_sorted, update_where}
use Rattle.sqlite_keyed.proofs.ListLemmas.{all_kept, all_weaker, all-filter}

pub same_head : {E : Type 0} {x y : E} {xs ys : List E} → ◌≡◌ {A = List E} (x ∷ xs) (y ∷ ys) → x ≡ y
same_head {x = x} is = ap (λ items. head_or x items) is
  where
    head_or : {E : Type 0} → E → List E → E
    head_or given [] = given
    head_or given (x ∷ xs) = x

pub same_tail : {E : Type 0} {x y : E} {xs ys : List E} → ◌≡◌ {A = List E} (x ∷ xs) (y ∷ ys) → xs ≡ ys
same_tail is = ap rest is
  where
    rest : {E : Type 0} → List E → List E
    rest [] = []
    rest (x ∷ xs) = xs

pub filter_hit : {E : Type 0} (p : E → Bool) (x : E) (xs : List E) → p x ≡ true → filter p (x ∷ xs) ≡ x ∷ filter p xs
filter_hit p x xs is = ap (λ b. cond b (x ∷ filter p xs) (filter p xs)) is

pub filter_miss : {E : Type 0} (p : E → Bool) (x : E) (xs : List E) → p x ≡ false → filter p (x ∷ xs) ≡ filter p xs
filter_miss p x xs is = ap (λ b. cond b (x ∷ filter p xs) (filter p xs)) is

pub passes_none : {E : Type 0} (p : E → Bool) (es : List E) → filter p es ≡ [] → AllByRecursion (λ e. p e ≡ false) es
passes_none p [] none = tt
passes_none {E} p (e ∷ es) none = go (p e) refl (passes_none p es) none
  where
    go : (b : Bool) → p e ≡ b → (filter p es ≡ [] → AllByRecursion (λ e. p e ≡ false) es) → cond b (e ∷ filter p es) (filter p es) ≡ [] → AllByRecursion (λ e. p e ≡ false) (e ∷ es)
    go true is more none = cc
    go false is more none = (is, more none)

pub all_pass : {E : Type 0} (p : E → Bool) (es : List E) → AllByRecursion (λ e. p e ≡ true) (filter p es)
all_pass p [] = tt
all_pass p (e ∷ es) = go (p e) refl (all_pass p es)
  where
    go : (b : Bool) → p e ≡ b → AllByRecursion (λ e. p e ≡ true) (filter p es) → AllByRecursion (λ e. p e ≡ true) (cond b (e ∷ filter p es) (filter p es))
    go true is more = (is, more)
    go false is more = more

filter_swap_at : {E : Type 0} (a b : Bool) (x : E) (xs ys : List E) (p q : E → Bool) → p x ≡ a → q x ≡ b → filter p xs ≡ filter q ys → filter p (cond b (x ∷ xs) xs) ≡ filter q (cond a (x ∷ ys) ys)
filter_swap_at true true x xs ys p q p_is q_is same = filter_hit p x xs p_is ∙ ap (λ zs. x ∷ zs) same ∙ sym (filter_hit q x ys q_is)
filter_swap_at true false x xs ys p q p_is q_is same = same ∙ sym (filter_miss q x ys q_is)
filter_swap_at false true x xs ys p q p_is q_is same = filter_miss p x xs p_is ∙ same
filter_swap_at false false x xs ys p q p_is q_is same = same

pub filter_swap : {E : Type 0} (p q : E → Bool) (xs : List E) → filter p (filter q xs) ≡ filter q (filter p xs)
filter_swap p q [] = refl
filter_swap p q (x ∷ xs) = filter_swap_at (p x) (q x) x (filter q xs) (filter p xs) p q refl refl (filter_swap p q xs)

-- ---- an item put in

module _ {E : Type 0} (cmp : E → E → Ordering) where
  -- one that fails a test isn't seen by it
  pub insert_other : (p : E → Bool) (e : E) (es : List E) → p e ≡ false → filter p (insert_sorted cmp e es) ≡ filter p es
  insert_other p e [] fails = filter_miss p e [] fails
  insert_other p e (x ∷ xs) fails = go (is_gt (cmp e x)) (insert_other p e xs fails)
    where
      go : (b : Bool) → filter p (insert_sorted cmp e xs) ≡ filter p xs → filter p (cond b (x ∷ insert_sorted cmp e xs) (e ∷ x ∷ xs)) ≡ filter p (x ∷ xs)
      go true more = ap (λ ys. cond (p x) (x ∷ ys) ys) more
      go false more = filter_miss p e (x ∷ xs) fails

  -- above all, it comes last
  pub insert_last : (e : E) (es : List E) → AllByRecursion (λ x. cmp e x ≡ Greater) es → insert_sorted cmp e es ≡ es ++ e ∷ []
  insert_last e [] below = refl
  insert_last e (x ∷ xs) below = ap (λ o. cond (is_gt o) (x ∷ insert_sorted cmp e xs) (e ∷ x ∷ xs)) below.0 ∙ ap (λ ys. x ∷ ys) (insert_last e xs below.1)

  -- below all, it comes first
  pub insert_first : (e : E) (es : List E) → AllByRecursion (λ x. cmp e x ≡ Less) es → insert_sorted cmp e es ≡ e ∷ es
  insert_first e [] above = refl
  insert_first e (x ∷ xs) above = ap (λ o. cond (is_gt o) (x ∷ insert_sorted cmp e xs) (e ∷ x ∷ xs)) above.0

  abbrev pub Rises : List E → Type 0
  Rises = IsAscending (λ a b. cmp a b ≡ Less)

  module _ (total : IsTotalOrder cmp) where
    -- among those that pass a test it goes to the same place
    pub insert_passes : (p : E → Bool) (e : E) (es : List E) → p e ≡ true → Rises es → filter p (insert_sorted cmp e es) ≡ insert_sorted cmp e (filter p es)
    insert_passes p e [] hit up = filter_hit p e [] hit
    insert_passes p e (x ∷ xs) hit up = go (cmp e x) (p x) refl refl (insert_passes p e xs hit up.1)
      where
        first : AllByRecursion (λ y. cmp e y ≡ Less) xs → filter p (e ∷ xs) ≡ insert_sorted cmp e (filter p xs)
        first above = filter_hit p e xs hit ∙ sym (insert_first e (filter p xs) (all-filter (λ y. cmp e y ≡ Less) p xs above))

        go : (o : Ordering) (b : Bool) → cmp e x ≡ o → p x ≡ b → filter p (insert_sorted cmp e xs) ≡ insert_sorted cmp e (filter p xs)
            → filter p (cond (is_gt o) (x ∷ insert_sorted cmp e xs) (e ∷ x ∷ xs)) ≡ insert_sorted cmp e (cond b (x ∷ filter p xs) (filter p xs))
        go Greater true o is more = filter_hit p x (insert_sorted cmp e xs) is ∙ ap (λ ys. x ∷ ys) more ∙ sym (ap (λ o. cond (is_gt o) (x ∷ insert_sorted cmp e (filter p xs)) (e ∷ x ∷ filter p xs)) o)
        go Greater false o is more = filter_miss p x (insert_sorted cmp e xs) is ∙ more
        go Less true o is more = filter_hit p e (x ∷ xs) hit ∙ ap (λ ys. e ∷ ys) (filter_hit p x xs is) ∙ sym (ap (λ o. cond (is_gt o) (x ∷ insert_sorted cmp e (filter p xs)) (e ∷ x ∷ filter p xs)) o)
        go Less false o is more = filter_hit p e (x ∷ xs) hit ∙ ap (λ ys. e ∷ ys) (filter_miss p x xs is) ∙ sym (filter_hit p e xs hit) ∙ first (all_weaker (λ y. cmp x y ≡ Less) (λ y. cmp e y ≡ Less) (λ y. total.trans e x y o) xs up.0)
        go Equal true o is more = filter_hit p e (x ∷ xs) hit ∙ ap (λ ys. e ∷ ys) (filter_hit p x xs is) ∙ sym (ap (λ o. cond (is_gt o) (x ∷ insert_sorted cmp e (filter p xs)) (e ∷ x ∷ filter p xs)) o)
        go Equal false o is more = filter_hit p e (x ∷ xs) hit ∙ ap (λ ys. e ∷ ys) (filter_miss p x xs is) ∙ sym (filter_hit p e xs hit) ∙ first (all_weaker (λ y. cmp x y ≡ Less) (λ y. cmp e y ≡ Less) (λ y above. total.congr e x y o ∙ above) xs up.0)

    all-insert : (P : E → Type 0) (e : E) (es : List E) → P e → AllByRecursion P es → AllByRecursion P (insert_sorted cmp e es)
    all-insert P e [] h all = (h, tt)
    all-insert P e (x ∷ xs) h all = elim (is_gt (cmp e x)) as (λ b. AllByRecursion P (cond b (x ∷ insert_sorted cmp e xs) (e ∷ x ∷ xs))) [ true ↦ (all.0, all-insert P e xs h all.1) | false ↦ (h, all) ]

    -- with a new key it leaves a list that rises
    pub insert_rises : (e : E) (es : List E) → AllByRecursion (λ x. is_eq (cmp e x) ≡ false) es → Rises es → Rises (insert_sorted cmp e es)
    insert_rises e [] fresh up = (tt, tt)
    insert_rises e (x ∷ xs) fresh up = go (cmp e x) refl (insert_rises e xs fresh.1 up.1)
      where
        go : (o : Ordering) → cmp e x ≡ o → Rises (insert_sorted cmp e xs) → Rises (cond (is_gt o) (x ∷ insert_sorted cmp e xs) (e ∷ x ∷ xs))
        go Less is more = ((is, all_weaker (λ y. cmp x y ≡ Less) (λ y. cmp e y ≡ Less) (λ y. total.trans e x y is) xs up.0), up)
        go Equal is more = absurd (true≢false (ap is_eq (sym is) ∙ fresh.0))
        go Greater is more = (all-insert (λ y. cmp x y ≡ Less) e xs (total.antisymm x e ∙ ap ordering_reverse is) up.0, more)

-- ---- items changed

module _ {E : Type 0} (hit : E → Bool) (change : E → E) where
  -- a test that the change passes by sees the same items, changed
  pub filter_update : (p : E → Bool) → ((e : E) → p (change e) ≡ p e) → (es : List E) → filter p (update_where hit change es) ≡ update_where hit change (filter p es)
  filter_update p keeps [] = refl
  filter_update p keeps (x ∷ xs) = go (hit x) (p x) refl refl (filter_update p keeps xs)
    where
      go : (b c : Bool) → hit x ≡ b → p x ≡ c → filter p (update_where hit change xs) ≡ update_where hit change (filter p xs)
          → filter p (cond b (change x) x ∷ update_where hit change xs) ≡ update_where hit change (cond c (x ∷ filter p xs) (filter p xs))
      go true true h is more = filter_hit p (change x) (update_where hit change xs) (keeps x ∙ is) ∙ (λ i. cond (sym h i) (change x) x ∷ more i)
      go true false h is more = filter_miss p (change x) (update_where hit change xs) (keeps x ∙ is) ∙ more
      go false true h is more = filter_hit p x (update_where hit change xs) is ∙ (λ i. cond (sym h i) (change x) x ∷ more i)
      go false false h is more = filter_miss p x (update_where hit change xs) is ∙ more

  -- where none is hit, nothing changes
  pub update_none : (es : List E) → AllByRecursion (λ e. hit e ≡ false) es → update_where hit change es ≡ es
  update_none [] none = refl
  update_none (e ∷ es) none = λ i. cond (none.0 i) (change e) e ∷ update_none es none.1 i

  -- and where the one that is hit is what the change makes of it, neither
  pub update_same : (e : E) (es : List E) → filter hit es ≡ e ∷ [] → change e ≡ e → update_where hit change es ≡ es
  update_same e es one same = go es (all_kept (λ x. change x ≡ x) hit es (subst (AllByRecursion (λ x. change x ≡ x)) (sym one) (same, tt)))
    where
      at : (x : E) (b : Bool) → hit x ≡ b → (hit x ≡ true → change x ≡ x) → cond b (change x) x ≡ x
      at x true is stays = stays is
      at x false is stays = refl

      go : (es : List E) → AllByRecursion (λ x. hit x ≡ true → change x ≡ x) es → update_where hit change es ≡ es
      go [] h = refl
      go (x ∷ xs) h = λ i. at x (hit x) refl h.0 i ∷ go xs h.1 i

-- ---- the two ways to say that a list rises

module _ {E : Type 0} (cmp : E → E → Ordering) where
  pub ascending : (xs : List E) → IsStrictlySortedBy cmp xs → Rises cmp xs
  unfolding IsStrictlySortedBy
  ascending [] h = tt
  ascending (x ∷ xs) h = (h.0, ascending xs h.1)

  pub sorted_by : (xs : List E) → Rises cmp xs → IsStrictlySortedBy cmp xs
  unfolding IsStrictlySortedBy
  sorted_by [] h = tt
  sorted_by (x ∷ xs) h = (h.0, sorted_by xs h.1)

-- ---- lists that rise are the same where tests see the same

module _ {I E : Type 0} (cmp : E → E → Ordering) (total : IsTotalOrder cmp) (test : I → E → Bool) (of : E → I) (hits : (e : E) → test (of e) e ≡ true) where
  -- an item isn't among those above it
  not_above : (x : E) (xs ys : List E) (p : E → Bool) → AllByRecursion (λ y. cmp x y ≡ Less) ys → x ∷ xs ≡ filter p ys → ⊥
  not_above x xs ys p above is =
      let less : cmp x x ≡ Less = (subst (AllByRecursion (λ y. cmp x y ≡ Less)) (sym is) (all-filter _ p ys above)).0 in
      let both : Less ≡ Equal = sym less ∙ tied_itself total x in
      cc

  abbrev AreSame : List E → List E → Type 0
  AreSame xs ys = (i : I) → filter (test i) xs ≡ filter (test i) ys

  seen : (x : E) (xs ys : List E) → AreSame (x ∷ xs) ys → x ∷ filter (test (of x)) xs ≡ filter (test (of x)) ys
  seen x xs ys same = sym (filter_hit (test (of x)) x xs (hits x)) ∙ same (of x)

  heads : (x y : E) (xs ys : List E) → Rises cmp (x ∷ xs) → Rises cmp (y ∷ ys) → AreSame (x ∷ xs) (y ∷ ys) → x ≡ y
  heads x y xs ys up_x up_y same = go (cmp x y) (test (of x) y) refl refl
    where
      go : (o : Ordering) (b : Bool) → cmp x y ≡ o → test (of x) y ≡ b → x ≡ y
      go Less b is t = absurd (not_above x (filter (test (of x)) xs) (y ∷ ys) (test (of x)) (is, all_weaker (λ z. cmp y z ≡ Less) (λ z. cmp x z ≡ Less) (λ z. total.trans x y z is) ys up_y.0) (seen x xs (y ∷ ys) same))
      go Greater b is t =
          let below : cmp y x ≡ Less = total.antisymm y x ∙ ap ordering_reverse is in
          absurd (not_above y (filter (test (of y)) ys) (x ∷ xs) (test (of y)) (below, all_weaker (λ z. cmp x z ≡ Less) (λ z. cmp y z ≡ Less) (λ z. total.trans y x z below) xs up_x.0) (seen y ys (x ∷ xs) (λ i. sym (same i))))
      go Equal true is t = same_head (seen x xs (y ∷ ys) same ∙ filter_hit (test (of x)) y ys t)
      go Equal false is t = absurd (not_above x (filter (test (of x)) xs) ys (test (of x)) (all_weaker (λ z. cmp y z ≡ Less) (λ z. cmp x z ≡ Less) (λ z above. total.congr x y z is ∙ above) ys up_y.0) (seen x xs (y ∷ ys) same ∙ filter_miss (test (of x)) y ys t))

  tails : (x : E) (xs ys : List E) → AreSame (x ∷ xs) (x ∷ ys) → AreSame xs ys
  tails x xs ys same = λ i. go (test i x) (same i)
    where
      go : {us vs : List E} (b : Bool) → cond b (x ∷ us) us ≡ cond b (x ∷ vs) vs → us ≡ vs
      go true is = same_tail is
      go false is = is

  pub same_rising : (xs ys : List E) → Rises cmp xs → Rises cmp ys → AreSame xs ys → xs ≡ ys
  same_rising [] [] up_x up_y same = refl
  same_rising [] (y ∷ ys) up_x up_y same = absurd (not_above y _ [] (test (of y)) tt (seen y ys [] (λ i. sym (same i))))
  same_rising (x ∷ xs) [] up_x up_y same = absurd (not_above x _ [] (test (of x)) tt (seen x xs [] same))
  same_rising (x ∷ xs) (y ∷ ys) up_x up_y same =
      let head : x ≡ y = heads x y xs ys up_x up_y same in
      let rest : xs ≡ ys = same_rising xs ys up_x.1 up_y.1 (tails x xs ys (subst (λ z. AreSame (x ∷ xs) (z ∷ ys)) (sym head) same)) in
      λ i. head i ∷ rest i
