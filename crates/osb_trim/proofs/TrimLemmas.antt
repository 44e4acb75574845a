-- What the code erases: the orders up to a place, behind which no deletion succeeded.
use Rattle.std.proofs.Common.{◌≡◌, ℕ, zero, suc, ◌+◌, ◌<◌, true, false, cond, ◌||◌, [], ◌∷◌, ◌++◌, map, length, take, drop, get_or, set, refl, ◌∙◌, ap, arith}
use Rattle.std.proofs.Math.Bool.{or-true}
use Rattle.osb_orders.specs.declared.order.Attributes.{Attributes}
use Rattle.osb_orders.specs.declared.order.Order.{Order}
use Rattle.osb_orders.specs.Life.{Life}
use Rattle.osb_trim.specs.Trimmed.{erased_attributes, erased, trimmed}
use Rattle.osb_trim.proofs.LifeLemmas.{is_deletion, deletes, others_stay}

-- the first orders erased
abbrev pub erased_up_to : ℕ → Life → Life
erased_up_to n life = map erased (take n life) ++ drop n life

-- ---- the last deletion

deletes-at : (life : Life) (place : ℕ) (d : Order) → place < length life → is_deletion (get_or life place d) ≡ true → deletes life ≡ true
deletes-at [] place d h hit = absurd (omega arith)
deletes-at (order ∷ life) zero d h hit = ap (λ b. b || deletes life) hit
deletes-at (order ∷ life) (suc place) d h hit = ap (λ b. is_deletion order || b) (deletes-at life place d (omega arith) hit) ∙ or-true (is_deletion order)

trimmed-at : (life : Life) (place : ℕ) (d : Order) → place < length life → is_deletion (get_or life place d) ≡ true → deletes (drop (suc place) life) ≡ false → trimmed life ≡ erased_up_to (suc place) life
trimmed-at [] place d h hit rest = absurd (omega arith)
trimmed-at (order ∷ life) zero d h hit rest = λ i. cond (deletes-at (order ∷ life) zero d h hit i) (erased order) order ∷ others_stay life rest i
trimmed-at (order ∷ life) (suc place) d h hit rest = λ i. cond (deletes-at (order ∷ life) (suc place) d h hit i) (erased order) order ∷ trimmed-at life place d (omega arith) hit rest i

-- the order is a deletion, and none behind it is
pub trimmed-behind : (life : Life) (place : ℕ) (d : Order) → place < length life → is_deletion (get_or life place d) ≡ true → deletes (drop (suc place) life) ≡ false → trimmed life ≡ erased_up_to (place + 1) life
trimmed-behind life place d h hit rest =
    let next : suc place ≡ place + 1 = omega arith in
    trimmed-at life place d h hit rest ∙ ap (λ n. erased_up_to n life) next

-- ---- one order erased in its place

order-at : (life : Life) (place : ℕ) (d : Order) → place < length life → get_or (erased_up_to place life) place d ≡ get_or life place d
order-at [] place d h = absurd (omega arith)
order-at (order ∷ life) zero d h = refl
order-at (order ∷ life) (suc place) d h = order-at life place d (omega arith)

erased-at : (life : Life) (place : ℕ) (d : Order) → place < length life → set (erased_up_to place life) place (erased (get_or (erased_up_to place life) place d)) ≡ erased_up_to (suc place) life
erased-at [] place d h = absurd (omega arith)
erased-at (order ∷ life) zero d h = refl
erased-at (order ∷ life) (suc place) d h = ap (λ (rest : Life). erased order ∷ rest) (erased-at life place d (omega arith))

-- the order that has the place is erased
pub erased_in_place : (life now : Life) (place : ℕ) (order : Order) (attributes : Attributes) → place < length life → now ≡ erased_up_to place life → order ≡ get_or now place order → attributes ≡ erased_attributes order.kind → set now place (record order { attributes = attributes }) ≡ erased_up_to (place + 1) life
erased_in_place life now place order attributes h so_far there is =
    let next : suc place ≡ place + 1 = omega arith in
    let here : order ≡ get_or (erased_up_to place life) place order = there ∙ ap (λ (l : Life). get_or l place order) so_far in
    ap (λ (a : Attributes). set now place (record order { attributes = a })) is
    ∙ ap (λ (l : Life). set l place (erased order)) so_far
    ∙ ap (λ (o : Order). set (erased_up_to place life) place (erased o)) here
    ∙ erased-at life place order h
    ∙ ap (λ n. erased_up_to n life) next
