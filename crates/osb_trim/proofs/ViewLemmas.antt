-- What is seen of trimmed lives: the last order, the listing, and how an instance and its bindings are.
use Rattle.std.proofs.Common.{◌≡◌, ℕ, Bool, true, false, cond, ◌&&◌, ◌==◌, List, [], ◌∷◌, ◌++◌, map, filter, length, Option, None, Some, refl, sym, ◌∙◌, ap, subst, ◌⊎◌, inl, inr}
use Rattle.std.specs.Prelude.{filter_map, take, option_map, option_and_then, is_some}
use Rattle.std.specs.List.{list_any, cons_option}
use Rattle.std.specs.Ordering.{nat_cmp, is_gt}
use Rattle.std.specs.Cmp.Lexicographic.{slice_cmp}
use Rattle.std.specs.FinMap.{entries}
use Rattle.osb_orders.specs.declared.order.OrderState.{OrderState}
use Rattle.osb_orders.specs.declared.order.OrderState.TheVariants.{Running, Succeeded, Failed}
use Rattle.osb_orders.specs.declared.order.OrderKind.TheVariants.{Delete}
use Rattle.osb_orders.specs.declared.order.Order.{Order}
use Rattle.osb_orders.specs.declared.view.BindingNow.{BindingNow}
use Rattle.osb_orders.specs.Lists.{last_of}
use Rattle.osb_orders.specs.Orders.{state_number, is_a, is_now}
use Rattle.osb_orders.specs.Life.{Life, since_birth, standing_since}
use Rattle.osb_orders.specs.Bindings.{since_bind, binding_since, binding_of, has_bindings}
use Rattle.osb_orders.specs.Lives.{Lives}
use Rattle.osb_orders.specs.Listing.{with_last, is_listed, listing}
use Rattle.osb_orders.specs.ViewData.{ViewData}
use Rattle.osb_orders.proofs.GrowLemmas.{last_of-push, since_birth-deleted}
use Rattle.osb_bare.proofs.ListLemmas.{any-map}
use Rattle.osb_trim.specs.Trimmed.{erased, trimmed, trimmed_instance, trimmed_lives}
use Rattle.osb_trim.proofs.LifeLemmas.{is_deletion, not_creation, trimmed-gone, trimmed-push, erased-trimmed, same_read, length-erased, birth-trimmed}
use Rattle.osb_trim.proofs.LivesLemmas.{entries-trimmed}

-- ---- the last order

-- the orders before the last, and the last
pub record Ends (life : Life) : Type 0 where
  pub front : Life
  pub last : Order
  pub parts : life ≡ front ++ last ∷ []

pub ends_of : (order : Order) (later : Life) → Ends (order ∷ later)
ends_of order [] = record { front = []; last = order; parts = refl }
ends_of order (next ∷ later) =
    let more = ends_of next later in
    record { front = order ∷ more.front; last = more.last; parts = ap (λ (rest : Life). order ∷ rest) more.parts }

-- the last order is a succeeded deletion, so the instance is absent
pub record IsGone (life : Life) : Type 0 where
  pub order : Order
  pub last : last_of life ≡ Some order
  pub left : last_of (trimmed life) ≡ Some (erased order)
  pub deletion : is_deletion order ≡ true
  pub absent : since_birth life ≡ []

-- otherwise it stays
abbrev pub LastOrGone : Life → Type 0
LastOrGone life = (last_of (trimmed life) ≡ last_of life) ⊎ IsGone life

pub last_or_gone : (life : Life) → LastOrGone life
last_or_gone [] = inl refl
last_or_gone (order ∷ later) =
    let e = ends_of order later in
    subst LastOrGone (sym e.parts) (by e.front e.last (is_deletion e.last) refl)
  where
    by : (front : Life) (last : Order) (gone : Bool) → is_deletion last ≡ gone → LastOrGone (front ++ last ∷ [])
    by front last false kept = inl (ap last_of (trimmed-push front last kept) ∙ last_of-push (trimmed front) last ∙ sym (last_of-push front last))
    by front last true gone = inr (record {
      order = last;
      last = last_of-push front last;
      left = ap last_of (trimmed-gone front last gone) ∙ last_of-push (map erased front) (erased last);
      deletion = gone;
      absent = since_birth-deleted front last (not_creation last gone) gone;
    })

-- ---- the listing: an order that runs isn't a succeeded deletion

pub not_running : (order : Order) → is_deletion order ≡ true → is_now Running order ≡ false
not_running order e = by (is_a Delete order) order.outcome.state e
  where
    by : (deletes : Bool) (state : OrderState) → (deletes && (state_number state == state_number Succeeded)) ≡ true → (state_number state == state_number Running) ≡ false
    by deletes Succeeded e = refl
    by deletes Failed e = refl
    by true Running e = cc
    by false Running e = cc

module _ (after : List ℕ) where
  abbrev Pairs : Type 0
  Pairs = List (List ℕ × Order)

  abbrev listed : Pairs → Pairs
  listed pairs = filter (is_listed after) pairs

  one_more : (pair : Option (List ℕ × Order)) (pairs others : Pairs) → listed pairs ≡ listed others → listed (cons_option pair pairs) ≡ listed (cons_option pair others)
  one_more None pairs others same = same
  one_more (Some pair) pairs others same = ap (λ (rest : Pairs). cond (is_listed after pair) (pair ∷ rest) rest) same

  left_out : (id : List ℕ) (order : Order) (pairs : Pairs) → is_now Running order ≡ false → listed ((id, order) ∷ pairs) ≡ listed pairs
  left_out id order pairs e = ap (λ b. cond (b && is_gt (slice_cmp nat_cmp id after)) ((id, order) ∷ listed pairs) (listed pairs)) e

  one-trimmed : (id : List ℕ) (life : Life) (pairs others : Pairs) → LastOrGone life → listed pairs ≡ listed others → listed (cons_option (with_last (id, trimmed life)) pairs) ≡ listed (cons_option (with_last (id, life)) others)
  one-trimmed id life pairs others (inl same) more =
      ap (λ (last : Option Order). listed (cons_option (option_map (λ order. (id, order)) last) pairs)) same ∙ one_more (with_last (id, life)) pairs others more
  one-trimmed id life pairs others (inr gone) more =
      let ends = not_running gone.order gone.deletion in
      ap (λ (last : Option Order). listed (cons_option (option_map (λ order. (id, order)) last) pairs)) gone.left
      ∙ left_out id (erased gone.order) pairs ends ∙ more ∙ sym (left_out id gone.order others ends)
      ∙ ap (λ (last : Option Order). listed (cons_option (option_map (λ order. (id, order)) last) others)) (sym gone.last)

  listed-trimmed : (es : List (List ℕ × Life)) → listed (filter_map with_last (map trimmed_instance es)) ≡ listed (filter_map with_last es)
  listed-trimmed [] = refl
  listed-trimmed (e ∷ es) = one-trimmed e.0 e.1 (filter_map with_last (map trimmed_instance es)) (filter_map with_last es) (last_or_gone e.1) (listed-trimmed es)

pub listing-trimmed : (lives : Lives) (after : List ℕ) (limit : ℕ) → listing (trimmed_lives lives) after limit ≡ listing lives after limit
listing-trimmed lives after limit = ap (take limit) (ap (λ es. filter (is_listed after) (filter_map with_last es)) (entries-trimmed lives) ∙ listed-trimmed after (entries lives))

-- ---- how an instance and its bindings are

pub binding_of-trimmed : (id : List ℕ) (life : Life) → binding_of id (trimmed life) ≡ binding_of id life
binding_of-trimmed id life = ap (λ (since : Life). binding_since id (since_bind id since)) (birth-trimmed life)

has_bindings-trimmed : (life : Life) → has_bindings (trimmed life) ≡ has_bindings life
has_bindings-trimmed life =
    ap (λ (found : List ℕ → Option BindingNow). list_any (λ order. is_some (found order.binding)) (trimmed life)) (λ i id. binding_of-trimmed id life i)
    ∙ same_read (λ (orders : Life). list_any (λ order. is_some (binding_of order.binding life)) orders) (any-map erased (λ order. is_some (binding_of order.binding life))) (trimmed life) life (erased-trimmed life)

-- the facts for an ask that polls and reports nothing, with the orders since the birth and the last order given
abbrev pub facts_of : Life → Life → Option Order → Option (List ℕ) → ViewData
facts_of since life last binding = record {
  standing = standing_since since;
  last = last;
  binding = option_and_then (λ id. binding_since id (since_bind id since)) binding;
  named = None;
  subject_last = None;
  count = length life;
  bound = has_bindings life;
  listing = [];
}

pub facts-trimmed : (life : Life) (last : Option Order) (binding : Option (List ℕ)) → facts_of (since_birth (trimmed life)) (trimmed life) last binding ≡ facts_of (since_birth life) life last binding
facts-trimmed life last binding = λ i. record (facts_of (birth-trimmed life i) life last binding) {
  count = same_read length length-erased (trimmed life) life (erased-trimmed life) i;
  bound = has_bindings-trimmed life i;
}
