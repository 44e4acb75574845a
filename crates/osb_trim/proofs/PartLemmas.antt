-- A well-formed life in two parts: the orders before the present birth, which are erased, and those since.
use Rattle.std.proofs.Common.{append-nil, ◌≡◌, Bool, true, false, [], ◌∷◌, ◌++◌, map, refl, sym, ◌∙◌, ap, ap₂, subst, append_assoc}
use Rattle.std.proofs.lemmas.List.{map-append}
use Rattle.std.proofs.lemmas.Bool.{true≢false}
use Rattle.osb_orders.specs.declared.order.OrderKind.TheVariants.{Create}
use Rattle.osb_orders.specs.declared.order.Order.{Order}
use Rattle.osb_orders.specs.Orders.{is_a}
use Rattle.osb_orders.specs.Life.{Life, since_birth}
use Rattle.osb_orders.specs.IsLife.{is_empty, IsNext, IsLifeAfter}
use Rattle.osb_orders.proofs.GrowLemmas.{grow, since_birth-create, since_birth-later, since_birth-deleted}
use Rattle.osb_trim.specs.Trimmed.{erased, trimmed}
use Rattle.osb_trim.specs.Erased.{IsErasedBeforeBirth}
use Rattle.osb_trim.proofs.LifeLemmas.{is_deletion, not_creation, trimmed-gone, trimmed-push}

nothing : (life : Life) → is_empty life ≡ true → life ≡ []
nothing [] e = refl
nothing (order ∷ life) e = cc

grown : (life : Life) (order : Order) → is_empty life ≡ false → grow life order ≡ life ++ order ∷ []
grown [] order e = cc
grown (first ∷ life) order e = refl

-- where the instance is absent, all orders are erased
all_erased : (life : Life) → IsErasedBeforeBirth life → since_birth life ≡ [] → trimmed life ≡ map erased life
all_erased life was absent =
    let whole : life ≡ was.before = was.parts ∙ ap (λ (since : Life). was.before ++ since) absent ∙ append-nil was.before in
    was.erases ∙ ap (λ (since : Life). map erased was.before ++ since) absent ∙ append-nil (map erased was.before) ∙ ap (map erased) (sym whole)

module _ (life : Life) (order : Order) (was : IsErasedBeforeBirth life) (next : IsNext life order) where
  created : is_a Create order ≡ true → is_deletion order ≡ false → IsErasedBeforeBirth (life ++ order ∷ [])
  created create kept =
      let absent : since_birth life ≡ [] = nothing (since_birth life) (sym next.creates ∙ create) in
      let birth = since_birth-create life order create in
      record {
        before = life;
        parts = ap (λ (since : Life). life ++ since) (sym birth);
        erases = trimmed-push life order kept ∙ ap₂ (λ (front since : Life). front ++ since) (all_erased life was absent) (sym birth);
      }

  deleted : is_a Create order ≡ false → is_deletion order ≡ true → IsErasedBeforeBirth (life ++ order ∷ [])
  deleted other gone =
      let all : Life = life ++ order ∷ [] in
      let absent = since_birth-deleted life order other gone in
      record {
        before = all;
        parts = sym (append-nil all) ∙ ap (λ (since : Life). all ++ since) (sym absent);
        erases =
            trimmed-gone life order gone ∙ sym (map-append erased life (order ∷ []))
            ∙ sym (append-nil (map erased all)) ∙ ap (λ (since : Life). map erased all ++ since) (sym absent);
      }

  added : is_a Create order ≡ false → is_deletion order ≡ false → IsErasedBeforeBirth (life ++ order ∷ [])
  added other kept =
      let since = since_birth life in
      let present : since_birth (life ++ order ∷ []) ≡ since ++ order ∷ [] = since_birth-later life order other kept ∙ grown since order (sym next.creates ∙ other) in
      record {
        before = was.before;
        parts = ap (λ (l : Life). l ++ order ∷ []) was.parts ∙ append_assoc was.before since (order ∷ []) ∙ ap (λ (l : Life). was.before ++ l) (sym present);
        erases =
            trimmed-push life order kept ∙ ap (λ (l : Life). l ++ order ∷ []) was.erases
            ∙ append_assoc (map erased was.before) since (order ∷ []) ∙ ap (λ (l : Life). map erased was.before ++ l) (sym present);
      }

  one_more : IsErasedBeforeBirth (life ++ order ∷ [])
  one_more = by (is_a Create order) refl (is_deletion order) refl
    where
      by : (create : Bool) → is_a Create order ≡ create → (gone : Bool) → is_deletion order ≡ gone → IsErasedBeforeBirth (life ++ order ∷ [])
      by true create true gone = absurd (true≢false (sym create ∙ not_creation order gone))
      by true create false kept = created create kept
      by false other true gone = deleted other gone
      by false other false kept = added other kept

parts_after : (before later : Life) → IsErasedBeforeBirth before → IsLifeAfter before later → IsErasedBeforeBirth (before ++ later)
parts_after before [] was h = subst IsErasedBeforeBirth (sym (append-nil before)) was
parts_after before (order ∷ later) was h = subst IsErasedBeforeBirth (append_assoc before (order ∷ []) later) (parts_after (before ++ order ∷ []) later (one_more before order was h.0) h.1)

pub born_are_kept : (life : Life) → IsLifeAfter [] life → IsErasedBeforeBirth life
born_are_kept life h = parts_after [] life (record { before = []; parts = refl; erases = refl }) h
