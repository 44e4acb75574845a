-- Lists whose items are changed, read in the words by which lives are.
use Rattle.std.proofs.Common.{◌≡◌, Bool, true, false, cond, ◌||◌, List, [], ◌∷◌, map, filter, find, Option, None, Some, option_map, refl, ◌∙◌, ap}
use Rattle.std.specs.Prelude.{filter_map}
use Rattle.std.specs.List.{list_any, cons_option}
use Rattle.std.specs.Option.{option_map_or}
use Rattle.osb_orders.specs.Lists.{or_else, from_last, last_from, last_where, last_of}
use Rattle.osb_orders.specs.IsLife.{is_empty}
use Rattle.osb_orders.proofs.GrowLemmas.{unless}

module _ {A B : Type 0} (f : A → B) where
  pub map_or-map : {C : Type 0} (read : B → C) (item : Option A) (other : C) → option_map_or read (option_map f item) other ≡ option_map_or (λ x. read (f x)) item other
  map_or-map read None other = refl
  map_or-map read (Some x) other = refl

  pub cond-some : (b : Bool) (x : A) (other : Option A) → cond b (Some (f x)) (option_map f other) ≡ option_map f (cond b (Some x) other)
  cond-some true x other = refl
  cond-some false x other = refl

  cond-map : (b : Bool) (xs ys : List A) → cond b (map f xs) (map f ys) ≡ map f (cond b xs ys)
  cond-map true xs ys = refl
  cond-map false xs ys = refl

  or_else-map : (xs ys : List A) → or_else (map f xs) (map f ys) ≡ map f (or_else xs ys)
  or_else-map [] ys = refl
  or_else-map (x ∷ xs) ys = refl

  last_from-map : (given : A) (xs : List A) → last_from (f given) (map f xs) ≡ f (last_from given xs)
  last_from-map given [] = refl
  last_from-map given (x ∷ xs) = last_from-map x xs

  pub last_of-map : (xs : List A) → last_of (map f xs) ≡ option_map f (last_of xs)
  last_of-map [] = refl
  last_of-map (x ∷ xs) = ap Some (last_from-map x xs)

  pub is_empty-map : (xs : List A) → is_empty (map f xs) ≡ is_empty xs
  is_empty-map [] = refl
  is_empty-map (x ∷ xs) = refl

  module _ (passes : B → Bool) where
    abbrev passed : A → Bool
    passed x = passes (f x)

    pub filter-map : (xs : List A) → filter passes (map f xs) ≡ map f (filter passed xs)
    filter-map [] = refl
    filter-map (x ∷ xs) = ap (λ ys. cond (passed x) (f x ∷ ys) ys) (filter-map xs) ∙ cond-map (passed x) (x ∷ filter passed xs) (filter passed xs)

    pub find-map : (xs : List A) → find passes (map f xs) ≡ option_map f (find passed xs)
    find-map [] = refl
    find-map (x ∷ xs) = ap (cond (passed x) (Some (f x))) (find-map xs) ∙ cond-some (passed x) x (find passed xs)

    pub any-map : (xs : List A) → list_any passes (map f xs) ≡ list_any passed xs
    any-map [] = refl
    any-map (x ∷ xs) = ap (λ b. passed x || b) (any-map xs)

    pub unless-map : (xs : List A) → unless passes (map f xs) ≡ map f (unless passed xs)
    unless-map xs = ap (λ removed. cond removed [] (map f xs)) (any-map xs) ∙ cond-map (list_any passed xs) [] xs

    pub from_last-map : (xs : List A) → from_last passes (map f xs) ≡ map f (from_last passed xs)
    from_last-map [] = refl
    from_last-map (x ∷ xs) =
        (λ i. or_else (from_last-map xs i) (cond-map (passed x) (x ∷ xs) [] i)) ∙ or_else-map (from_last passed xs) (cond (passed x) (x ∷ xs) [])

    pub last_where-map : (given : A) (xs : List A) → last_where passes (f given) (map f xs) ≡ f (last_where passed given xs)
    last_where-map given xs = ap (last_from (f given)) (filter-map xs) ∙ last_from-map given (filter passed xs)

cons_option-map : {A B : Type 0} (f : A → B) (item : Option A) (items : List A) → cons_option (option_map f item) (map f items) ≡ map f (cons_option item items)
cons_option-map f None items = refl
cons_option-map f (Some x) items = refl

-- what is found of each changed item is what is found of the item, changed
pub filter_map-map : {A B C D : Type 0} (f : A → B) (g : C → D) (finds : A → Option C) (seeks : B → Option D) → ((x : A) → seeks (f x) ≡ option_map g (finds x)) → (xs : List A) → filter_map seeks (map f xs) ≡ map g (filter_map finds xs)
filter_map-map f g finds seeks same [] = refl
filter_map-map f g finds seeks same (x ∷ xs) = (λ i. cons_option (same x i) (filter_map-map f g finds seeks same xs i)) ∙ cons_option-map g (finds x) (filter_map finds xs)
