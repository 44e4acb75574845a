-- A list from its end to its front.
use Rattle.std.proofs.Common.{◌≡◌, List, [], ◌∷◌, ◌++◌, map, filter, Bool, true, false, cond, Ordering, Less, Some, option_map, slice_get, refl, sym, ap, ◌∙◌, IsPermutation}
use Rattle.std.specs.Prelude.{unwrap_or}
use Rattle.std.specs.List.{AllByRecursion}
use Rattle.std.proofs.lemmas.List.Sorted.{IsPermutation-refl, IsPermutation-trans, IsPermutation-cons, IsPermutation-append_comm, IsPermutation-map}
use Rattle.std.proofs.lemmas.List.{append-nil}
use Rattle.std.specs.Ordering.{flip_args}
use Rattle.sqlite.specs.Order.{Row}
use Rattle.sqlite_trees.specs.Tree.{IsAscending}
use Rattle.sqlite_keyed.proofs.ListLemmas.{ascending-append}
use Rattle.osb_orders.specs.Lists.{last_of, last_from}
use Rattle.osb_rows.specs.Rows.{Stores}

abbrev pub back : {A : Type 0} → List A → List A
back [] = []
back (x ∷ xs) = back xs ++ x ∷ []

all_push : {A : Type 0} (P : A → Type 0) (xs : List A) (x : A) → AllByRecursion P xs → P x → AllByRecursion P (xs ++ x ∷ [])
all_push P [] x all h = (h, tt)
all_push P (y ∷ ys) x all h = (all.0, all_push P ys x all.1 h)

pub all_back : {A : Type 0} (P : A → Type 0) (xs : List A) → AllByRecursion P xs → AllByRecursion P (back xs)
all_back P [] all = tt
all_back P (x ∷ xs) all = all_push P (back xs) x (all_back P xs all.1) all.0

all_single : {A : Type 0} (R : A → A → Type 0) (x : A) (xs : List A) → AllByRecursion (λ y. R y x) xs → AllByRecursion (λ y. AllByRecursion (R y) (x ∷ [])) xs
all_single R x [] all = tt
all_single R x (y ∷ ys) all = ((all.0, tt), all_single R x ys all.1)

rises_back : {A : Type 0} (R : A → A → Type 0) (xs : List A) → IsAscending R xs → IsAscending (λ a b. R b a) (back xs)
rises_back R [] up = tt
rises_back R (x ∷ xs) up = ascending-append (λ a b. R b a) (back xs) (x ∷ []) (rises_back R xs up.1) (tt, tt) (all_single (λ a b. R b a) x (back xs) (all_back (R x) xs up.0))

same_back : {A : Type 0} (xs : List A) → IsPermutation xs (back xs)
same_back [] = IsPermutation-refl _
same_back (x ∷ xs) = IsPermutation-trans _ _ _ (IsPermutation-cons x _ _ (same_back xs)) (IsPermutation-append_comm (x ∷ []) (back xs))

-- the records in the order of falling keys
pub stores_back : {E : Type 0} (cells : Row → Row) (shown : E → Row) (cmp : E → E → Ordering) (rows : List Row) (es : List E) → Stores cells shown cmp rows es → Stores cells shown (flip_args cmp) rows (back es)
stores_back cells shown cmp rows es h = record {
  held = record { apart = h.held.apart; keyed = h.held.keyed; same = IsPermutation-trans _ _ _ h.held.same (IsPermutation-map shown _ _ (same_back es)) };
  rising = rises_back (λ a b. cmp a b ≡ Less) es h.rising;
  texts = all_back _ es h.texts;
}

filter_push : {A : Type 0} (p : A → Bool) (xs : List A) (x : A) → filter p (xs ++ x ∷ []) ≡ filter p xs ++ cond (p x) (x ∷ []) []
filter_push p [] x = refl
filter_push p (y ∷ ys) x = elim (p y) as (λ b. cond b (y ∷ filter p (ys ++ x ∷ [])) (filter p (ys ++ x ∷ [])) ≡ cond b (y ∷ filter p ys) (filter p ys) ++ cond (p x) (x ∷ []) []) [ true ↦ ap (λ l. y ∷ l) (filter_push p ys x) | false ↦ filter_push p ys x ]

pub filter_back : {A : Type 0} (p : A → Bool) (xs : List A) → filter p (back xs) ≡ back (filter p xs)
filter_back p [] = refl
filter_back p (x ∷ xs) = filter_push p (back xs) x ∙ ap (λ l. l ++ cond (p x) (x ∷ []) []) (filter_back p xs) ∙ go (p x)
  where
    go : (b : Bool) → back (filter p xs) ++ cond b (x ∷ []) [] ≡ back (cond b (x ∷ filter p xs) (filter p xs))
    go true = refl
    go false = append-nil (back (filter p xs))

first_push : {A : Type 0} (xs : List A) (x : A) → slice_get (xs ++ x ∷ []) 0 ≡ Some (unwrap_or (slice_get xs 0) x)
first_push [] x = refl
first_push (y ∷ ys) x = refl

pub last_more : {A : Type 0} (x : A) (xs : List A) → last_of (x ∷ xs) ≡ Some (unwrap_or (last_of xs) x)
last_more x [] = refl
last_more x (y ∷ ys) = refl

-- the first from the end is the last
pub first_back : {A : Type 0} (xs : List A) → slice_get (back xs) 0 ≡ last_of xs
first_back [] = refl
first_back (x ∷ xs) = first_push (back xs) x ∙ ap (λ found. Some (unwrap_or found x)) (first_back xs) ∙ sym (last_more x xs)

pub last_map : {A B : Type 0} (f : A → B) (xs : List A) → last_of (map f xs) ≡ option_map f (last_of xs)
last_map f [] = refl
last_map {A} f (x ∷ xs) = ap Some (go x xs)
  where
    go : (given : A) (items : List A) → last_from (f given) (map f items) ≡ f (last_from given items)
    go given [] = refl
    go given (item ∷ items) = go item items
