-- A life in two parts: up to its last succeeded deletion, and behind that.
use Rattle.std.proofs.Common.{◌≡◌, Bool, true, false, cond, ◌||◌, [], ◌∷◌, ◌++◌, map, refl, sym, ◌∙◌, ap, subst, append_assoc, ◌⊎◌, inl, inr}
use Rattle.std.proofs.Math.Bool.{or-true}
use Rattle.std.proofs.lemmas.Bool.{true≢false}
use Rattle.std.proofs.lemmas.List.{map-append}
use Rattle.osb_orders.specs.declared.order.Order.{Order}
use Rattle.osb_orders.specs.Life.{Life}
use Rattle.osb_orders.specs.IsLife.{ends_running}
use Rattle.osb_laws.proofs.LifeLemmas.{ends_running-push}
use Rattle.osb_trim.specs.Trimmed.{erased, trimmed}
use Rattle.osb_trim.proofs.LifeLemmas.{is_deletion, deletes, others_stay, deleted_are_erased}
use Rattle.osb_trim.proofs.ViewLemmas.{not_running}

-- ---- no orders, or orders of which the last is a succeeded deletion

pub record EndsWithDeletion (front : Life) : Type 0 where
  pub before : Life
  pub deletion : Order
  pub is : front ≡ before ++ deletion ∷ []
  pub gone : is_deletion deletion ≡ true

abbrev pub IsClosed : Life → Type 0
IsClosed front = (front ≡ []) ⊎ EndsWithDeletion front

pub closed-erased : (front : Life) → IsClosed front → IsClosed (map erased front)
closed-erased front (inl none) = inl (ap (map erased) none)
closed-erased front (inr e) = inr (record {
  before = map erased e.before;
  deletion = erased e.deletion;
  is = ap (map erased) e.is ∙ map-append erased e.before (e.deletion ∷ []);
  gone = e.gone;
})

-- they are erased, whatever follows
pub trimmed-closed : (front rest : Life) → IsClosed front → trimmed (front ++ rest) ≡ map erased front ++ trimmed rest
trimmed-closed front rest (inl none) = subst (λ (f : Life). trimmed (f ++ rest) ≡ map erased f ++ trimmed rest) (sym none) refl
trimmed-closed front rest (inr e) =
    subst (λ (f : Life). trimmed (f ++ rest) ≡ map erased f ++ trimmed rest) (sym e.is)
    (ap trimmed (append_assoc e.before (e.deletion ∷ []) rest) ∙ deleted_are_erased e.before rest e.deletion e.gone)

pub closed_ended : (front : Life) → IsClosed front → ends_running front ≡ false
closed_ended front (inl none) = ap ends_running none
closed_ended front (inr e) = ap ends_running e.is ∙ ends_running-push e.before e.deletion ∙ not_running e.deletion e.gone

-- ---- the two parts of a life

pub record Parts (life : Life) : Type 0 where
  pub front : Life
  pub rest : Life
  pub whole : life ≡ front ++ rest
  pub trims : trimmed life ≡ map erased front ++ rest
  pub closed : IsClosed front
  pub behind : deletes rest ≡ false

with_order : (order : Order) (front rest : Life) → deletes (front ++ rest) ≡ true → deletes rest ≡ false → IsClosed front → IsClosed (order ∷ front)
with_order order front rest some none (inl e) = absurd (true≢false (sym some ∙ ap (λ (f : Life). deletes (f ++ rest)) e ∙ none))
with_order order front rest some none (inr e) = inr (record {
  before = order ∷ e.before;
  deletion = e.deletion;
  is = ap (λ (l : Life). order ∷ l) e.is;
  gone = e.gone;
})

pub parts_of : (life : Life) → Parts life
parts_of [] = record { front = []; rest = []; whole = refl; trims = refl; closed = inl refl; behind = refl }
parts_of (order ∷ life) = by (deletes life) refl (is_deletion order) refl (parts_of life)
  where
    by : (later : Bool) → deletes life ≡ later → (here : Bool) → is_deletion order ≡ here → Parts life → Parts (order ∷ life)
    by true some here is more = record {
      front = order ∷ more.front;
      rest = more.rest;
      whole = ap (λ (l : Life). order ∷ l) more.whole;
      trims = λ i. cond ((ap (λ b. is_deletion order || b) some ∙ or-true (is_deletion order)) i) (erased order) order ∷ more.trims i;
      closed = with_order order more.front more.rest (ap deletes (sym more.whole) ∙ some) more.behind more.closed;
      behind = more.behind;
    }
    by false none true gone more = record {
      front = order ∷ [];
      rest = life;
      whole = refl;
      trims = λ i. cond (gone i || deletes life) (erased order) order ∷ others_stay life none i;
      closed = inr (record { before = []; deletion = order; is = refl; gone = gone });
      behind = none;
    }
    by false none false kept more =
        let none_at_all : deletes (order ∷ life) ≡ false = λ i. kept i || none i in
        record {
          front = [];
          rest = order ∷ life;
          whole = refl;
          trims = others_stay (order ∷ life) none_at_all;
          closed = inl refl;
          behind = none_at_all;
        }
