-- One more at the end of a list, in the words by which a life is read; and one order more at the end of a life.
use Rattle.std.proofs.Common.{append-nil, append_assoc, ◌≡◌, Bool, true, false, cond, ◌&&◌, ◌||◌, ◌==◌, List, [], ◌∷◌, ◌++◌, filter, Some, refl, ◌∙◌, ap, subst}
use Rattle.std.specs.Prelude.{if◌then◌else◌}
use Rattle.std.specs.List.{list_any}
use Rattle.std.proofs.Math.Bool.{or-false, or-true}
use Rattle.std.proofs.lemmas.List.Elements.{filter-append}
use Rattle.std.proofs.lemmas.List.Folds.{list_any-append}
use Rattle.osb_orders.specs.declared.order.Order.{Order}
use Rattle.osb_orders.specs.declared.order.OrderKind.{OrderKind}
use Rattle.osb_orders.specs.declared.order.OrderKind.TheVariants.{Create, Update, Delete, Bind, Unbind}
use Rattle.osb_orders.specs.declared.order.OrderState.TheVariants.{Succeeded}
use Rattle.osb_orders.specs.Lists.{or_else, from_last, last_from, last_where, last_of}
use Rattle.osb_orders.specs.Orders.{is_a, is_now, has_succeeded, kind_number}
use Rattle.osb_orders.specs.Life.{Life, since_birth}
use Rattle.osb_orders.specs.IsLife.{IsNext, IsLifeAfter}

-- ---- cases

-- by a test, with what it says
pub choose : {A : Type 0} (P : A → Type 0) (b : Bool) (x y : A) → (b ≡ true → P x) → (b ≡ false → P y) → P (cond b x y)
choose P true x y on_true on_false = on_true refl
choose P false x y on_true on_false = on_false refl

-- ---- lists

module _ {A : Type 0} where
  -- one more, where there is any
  abbrev pub grow : List A → A → List A
  grow [] y = []
  grow (x ∷ xs) y = (x ∷ xs) ++ y ∷ []

  -- all, unless one of them is a removal
  abbrev pub unless : (A → Bool) → List A → List A
  unless removes xs = if list_any removes xs then [] else xs

  pub last_from-push : (given : A) (xs : List A) (y : A) → last_from given (xs ++ y ∷ []) ≡ y
  last_from-push given [] y = refl
  last_from-push given (x ∷ xs) y = last_from-push x xs y

  pub last_of-push : (xs : List A) (y : A) → last_of (xs ++ y ∷ []) ≡ Some y
  last_of-push [] y = refl
  last_of-push (x ∷ xs) y = ap Some (last_from-push x xs y)

  module _ (passes : A → Bool) where
    filter-push : (xs : List A) (y : A) → filter passes (xs ++ y ∷ []) ≡ filter passes xs ++ cond (passes y) (y ∷ []) []
    filter-push xs y = filter-append passes xs (y ∷ [])

    any-push : (xs : List A) (y : A) → list_any passes (xs ++ y ∷ []) ≡ (list_any passes xs || passes y)
    any-push xs y = list_any-append passes xs (y ∷ []) ∙ ap (λ last. list_any passes xs || last) (or-false (passes y))

    pub filter-miss : (xs : List A) (y : A) → passes y ≡ false → filter passes (xs ++ y ∷ []) ≡ filter passes xs
    filter-miss xs y misses = filter-push xs y ∙ rw misses (append-nil (filter passes xs))

    pub last_where-hit : (given : A) (xs : List A) (y : A) → passes y ≡ true → last_where passes given (xs ++ y ∷ []) ≡ y
    last_where-hit given xs y hits = ap (last_from given) (filter-push xs y ∙ ap (λ hit. filter passes xs ++ cond hit (y ∷ []) []) hits) ∙ last_from-push given (filter passes xs) y

    pub last_where-miss : (given : A) (xs : List A) (y : A) → passes y ≡ false → last_where passes given (xs ++ y ∷ []) ≡ last_where passes given xs
    last_where-miss given xs y misses = ap (last_from given) (filter-miss xs y misses)

  -- the last that passes is the new one, or the one that was
  from_last-push : (passes : A → Bool) (xs : List A) (y : A) → from_last passes (xs ++ y ∷ []) ≡ cond (passes y) (y ∷ []) (grow (from_last passes xs) y)
  from_last-push passes [] y = refl
  from_last-push passes (x ∷ xs) y = ap (λ later. or_else later (cond (passes x) (x ∷ (xs ++ y ∷ [])) [])) (from_last-push passes xs y) ∙ behind (passes y) (from_last passes xs) (passes x)
    where
      behind : (hit : Bool) (later : List A) (first : Bool) → or_else (cond hit (y ∷ []) (grow later y)) (cond first (x ∷ (xs ++ y ∷ [])) []) ≡ cond hit (y ∷ []) (grow (or_else later (cond first (x ∷ xs) [])) y)
      behind true later first = refl
      behind false [] true = refl
      behind false [] false = refl
      behind false (z ∷ zs) first = refl

  pub from_last-hit : (passes : A → Bool) (xs : List A) (y : A) → passes y ≡ true → from_last passes (xs ++ y ∷ []) ≡ y ∷ []
  from_last-hit passes xs y hits = from_last-push passes xs y ∙ rw hits refl

  pub from_last-miss : (passes : A → Bool) (xs : List A) (y : A) → passes y ≡ false → from_last passes (xs ++ y ∷ []) ≡ grow (from_last passes xs) y
  from_last-miss passes xs y misses = from_last-push passes xs y ∙ rw misses refl

  pub unless-hit : (removes : A → Bool) (xs : List A) (y : A) → removes y ≡ true → unless removes (grow xs y) ≡ []
  unless-hit removes [] y hits = refl
  unless-hit removes (x ∷ xs) y hits = rw (any-push removes (x ∷ xs) y, hits, or-true (list_any removes (x ∷ xs))) refl

  pub unless-miss : (removes : A → Bool) (xs : List A) (y : A) → removes y ≡ false → unless removes (grow xs y) ≡ grow (unless removes xs) y
  unless-miss removes [] y misses = refl
  unless-miss removes (x ∷ xs) y misses = rw (any-push removes (x ∷ xs) y, misses, or-false (list_any removes (x ∷ xs))) (kept (list_any removes (x ∷ xs)))
    where
      kept : (removed : Bool) → cond removed [] (grow (x ∷ xs) y) ≡ grow (cond removed [] (x ∷ xs)) y
      kept true = refl
      kept false = refl

-- ---- lives

module _ (life : Life) (o : Order) where
  -- a Create is a birth
  pub since_birth-create : is_a Create o ≡ true → since_birth (life ++ o ∷ []) ≡ o ∷ []
  since_birth-create create = ap (unless (has_succeeded Delete)) (from_last-hit (is_a Create) life o create) ∙ ap (λ deleted. cond (deleted || false) [] (o ∷ [])) (no_delete o.kind (is_now Succeeded o) create)
    where
      no_delete : (kind : OrderKind) (succeeded : Bool) → (kind_number kind == 1) ≡ true → (kind_number kind == 3 && succeeded) ≡ false
      no_delete Create succeeded create = refl
      no_delete Update succeeded create = cc
      no_delete Delete succeeded create = cc
      no_delete Bind succeeded create = cc
      no_delete Unbind succeeded create = cc

  -- any other order comes after it
  pub since_birth-later : is_a Create o ≡ false → has_succeeded Delete o ≡ false → since_birth (life ++ o ∷ []) ≡ grow (since_birth life) o
  since_birth-later other kept = ap (unless (has_succeeded Delete)) (from_last-miss (is_a Create) life o other) ∙ unless-miss (has_succeeded Delete) (from_last (is_a Create) life) o kept

  -- with a succeeded Delete the instance is absent
  pub since_birth-deleted : is_a Create o ≡ false → has_succeeded Delete o ≡ true → since_birth (life ++ o ∷ []) ≡ []
  since_birth-deleted other deleted = ap (unless (has_succeeded Delete)) (from_last-miss (is_a Create) life o other) ∙ unless-hit (has_succeeded Delete) (from_last (is_a Create) life) o deleted

-- the last order of a life, and what stands before it
pub record EndsWith (life : Life) : Type 0 where
  pub front : Life
  pub order : Order
  pub parts : life ≡ front ++ order ∷ []
  pub next : IsNext front order

pub ends : (before later : Life) (o : Order) → IsLifeAfter before (o ∷ later) → EndsWith (before ++ o ∷ later)
ends before [] o h = record { front = before; order = o; parts = refl; next = h.0 }
ends before (p ∷ later) o h = subst EndsWith (append_assoc before (o ∷ []) (p ∷ later)) (ends (before ++ o ∷ []) later p h.1)
