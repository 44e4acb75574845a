-- The first of what stands from the last that passes on.
use Rattle.std.proofs.Common.{◌≡◌, Bool, true, false, cond, [], ◌∷◌, filter, Option, None, Some, refl}
use Rattle.osb_orders.specs.declared.order.Order.{Order}
use Rattle.osb_orders.specs.Lists.{or_else, from_last, last_of}
use Rattle.osb_orders.specs.Life.{Life}

-- the first of the orders, where there is one
abbrev pub first_of : Life → Option Order
first_of [] = None
first_of (o ∷ os) = Some o

first_more : (found kept : Life) (b : Bool) (x : Order) (xs : Life) → first_of found ≡ last_of kept → first_of (or_else found (cond b (x ∷ xs) [])) ≡ last_of (cond b (x ∷ kept) kept)
first_more [] [] true x xs e = refl
first_more [] [] false x xs e = refl
first_more [] (y ∷ ys) b x xs e = cc
first_more (y ∷ ys) [] b x xs e = cc
first_more (y ∷ ys) (z ∷ zs) true x xs e = e
first_more (y ∷ ys) (z ∷ zs) false x xs e = e

-- the last that passes, found in either way
pub first_from_last : (p : Order → Bool) (xs : Life) → first_of (from_last p xs) ≡ last_of (filter p xs)
first_from_last p [] = refl
first_from_last p (x ∷ xs) = first_more (from_last p xs) (filter p xs) (p x) x xs (first_from_last p xs)
