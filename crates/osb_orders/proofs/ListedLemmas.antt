-- The listing of a map, entry by entry.
use Rattle.std.proofs.Common.{◌≡◌, ℕ, Bool, true, false, cond, List, [], ◌∷◌, ◌++◌, map, filter, refl, sym, ◌∙◌, ap, append_assoc}
use Rattle.std.specs.Prelude.{filter_map}
use Rattle.std.specs.Global.{Vec}
use Rattle.osb_orders.specs.declared.order.Order.{Order}
use Rattle.osb_orders.specs.Lists.{last_from}
use Rattle.osb_orders.specs.Life.{Life}
use Rattle.osb_orders.specs.Listing.{with_last, is_listed}
use Rattle.osb_orders.specs.Plain.{life_in}

abbrev listed : List ℕ → List (List ℕ × Life) → List (List ℕ × Order)
listed after es = filter (is_listed after) (filter_map with_last es)

kept_or_not : (b : Bool) (pair : List ℕ × Order) (more : List (List ℕ × Order)) → cond b (pair ∷ more) more ≡ cond b (pair ∷ []) [] ++ more
kept_or_not true pair more = refl
kept_or_not false pair more = refl

listed_more : (after id : List ℕ) (life : Life) (es : List (List ℕ × Life)) → listed after ((id, life) ∷ es) ≡ listed after ((id, life) ∷ []) ++ listed after es
listed_more after id [] es = refl
listed_more after id (o ∷ os) es = kept_or_not (is_listed after (id, last_from o os)) (id, last_from o os) (listed after es)

-- the pairs of one entry more
pub listed_step : (after : List ℕ) (old new whole : List (List ℕ × Order)) (id : List ℕ) (life : Vec Order) (left rest : List (List ℕ × Vec Order)) → left ≡ (id, life) ∷ rest → new ≡ old ++ listed after ((id, life.items) ∷ []) → old ++ listed after (map life_in left) ≡ whole → new ++ listed after (map life_in rest) ≡ whole
listed_step after old new whole id life left rest is grows h =
    ap (λ pairs. pairs ++ listed after (map life_in rest)) grows
    ∙ append_assoc old (listed after ((id, life.items) ∷ [])) (listed after (map life_in rest))
    ∙ ap (λ pairs. old ++ pairs) (sym (listed_more after id life.items (map life_in rest)))
    ∙ ap (λ es. old ++ listed after (map life_in es)) (sym is)
    ∙ h

append-nil : {A : Type 0} (xs : List A) → xs ++ [] ≡ xs
append-nil [] = refl
append-nil (x ∷ xs) = ap (λ ys. x ∷ ys) (append-nil xs)

pub listed_all : (after : List ℕ) (pairs whole : List (List ℕ × Order)) (left : List (List ℕ × Vec Order)) → left ≡ [] → pairs ++ listed after (map life_in left) ≡ whole → pairs ≡ whole
listed_all after pairs whole left is h = sym (append-nil pairs) ∙ ap (λ es. pairs ++ listed after (map life_in es)) (sym is) ∙ h
