-- The last of a list, found from the back.
use Rattle.std.proofs.Common.{◌≡◌, ℕ, zero, suc, ◌<◌, Bool, true, cond, List, [], ◌∷◌, ◌++◌, length, drop, get_or, refl, sym, ◌∙◌, ap, arith}
use Rattle.osb_orders.specs.declared.order.Order.{Order}
use Rattle.osb_orders.specs.declared.order.Outcome.{Outcome}
use Rattle.osb_orders.specs.Lists.{or_else, from_last}
use Rattle.osb_orders.specs.Changed.{with_outcome, with_last_ended}

-- what is left of a list before its end isn't empty
or_else-drop : {A : Type 0} (xs : List A) (i : ℕ) (ys : List A) → i < length xs → or_else (drop i xs) ys ≡ drop i xs
or_else-drop [] i ys h = absurd (omega arith)
or_else-drop (x ∷ xs) zero ys h = refl
or_else-drop (x ∷ xs) (suc i) ys h = or_else-drop xs i ys (omega arith)

-- the item passes, and none after it does
pub from_last-at : {A : Type 0} (p : A → Bool) (xs : List A) (i : ℕ) (d : A) → i < length xs → p (get_or xs i d) ≡ true → from_last p (drop (suc i) xs) ≡ [] → drop i xs ≡ from_last p xs
from_last-at p [] i d h hit rest = absurd (omega arith)
from_last-at p (x ∷ xs) zero d h hit rest = rw rest (rw hit refl)
from_last-at p (x ∷ xs) (suc i) d h hit rest =
    let found : drop i xs ≡ from_last p xs = from_last-at p xs i d (omega arith) hit rest in
    sym (or_else-drop xs i (cond (p x) (x ∷ xs) []) (omega arith)) ∙ ap (λ later. or_else later (cond (p x) (x ∷ xs) [])) found

pub ended_push : (outcome : Outcome) (orders : List Order) (order : Order) → with_last_ended outcome (orders ++ order ∷ []) ≡ orders ++ with_outcome outcome order ∷ []
ended_push outcome [] order = refl
ended_push outcome (first ∷ []) order = refl
ended_push outcome (first ∷ next ∷ later) order = ap (λ os. first ∷ os) (ended_push outcome (next ∷ later) order)

-- the last order out, and in again with the outcome
pub ended_last : (outcome : Outcome) (old rest new : List Order) (order : Order) → old ≡ rest ++ order ∷ [] → new ≡ rest ++ with_outcome outcome order ∷ [] → new ≡ with_last_ended outcome old
ended_last outcome old rest new order taken given = given ∙ sym (ended_push outcome rest order) ∙ ap (with_last_ended outcome) (sym taken)
