-- The last order about a subject is the latest of the last ones of its kinds.
use Rattle.std.proofs.Common.{◌≡◌, ℕ, ◌+◌, ◌<◌, ◌==◌, List, [], ◌∷◌, filter, bytes_eq, Bool, true, false, not, cond, ◌&&◌, ◌||◌, Some, None, Option, refl, sym, ap, ◌∙◌, arith}
use Rattle.std.specs.Prelude.{unwrap_or, nat_lt, IfSome}
use Rattle.std.specs.List.{AllByRecursion}
use Rattle.std.specs.FinMap.{get}
use Rattle.std.proofs.lemmas.Bool.Decides.{nat_tests}
use Rattle.osb_orders.specs.declared.order.OrderKind.{OrderKind}
use Rattle.osb_orders.specs.declared.order.OrderKind.TheVariants.{Create, Update, Delete, Bind, Unbind}
use Rattle.osb_orders.specs.declared.order.Order.{Order}
use Rattle.osb_orders.specs.Lists.{last_of}
use Rattle.osb_orders.specs.Orders.{kind_number, is_about_binding, is_a, is_of_instance, is_of_binding}
use Rattle.osb_orders.specs.Life.{Life}
use Rattle.osb_orders.specs.Lives.{Lives, life_of}
use Rattle.osb_orders.specs.IsLife.{AreValidTexts, HasValidTexts, IsInstance, IsLives}
use Rattle.osb_statements.specs.Asked.{is_kind_of, is_kept, later_of}
use Rattle.osb_statements.proofs.BackLemmas.{last_more}
use Rattle.osb_statements.proofs.LivesLemmas.{IsNumberedFrom, numbered}
use Rattle.osb_statements.proofs.NamedLemmas.{above}

-- ---- the later of two

-- an order in front is the last where none passes behind it
abbrev in_front : Bool → Order → Option Order → Option Order
in_front true order last = Some (unwrap_or last order)
in_front false order last = last

front_last : (p : Order → Bool) (order : Order) (later : Life) → last_of (filter p (order ∷ later)) ≡ in_front (p order) order (last_of (filter p later))
front_last p order later = go (p order)
  where
    go : (b : Bool) → last_of (cond b (order ∷ filter p later) (filter p later)) ≡ in_front b order (last_of (filter p later))
    go true = last_more order (filter p later)
    go false = refl

last_all : (P : Order → Type 0) (p : Order → Bool) (life : Life) → AllByRecursion P life → IfSome (last_of (filter p life)) P
last_all P p [] all = tt
last_all P p (order ∷ later) all = rw (front_last p order later) (go (p order) (last_of (filter p later)) (last_all P p later all.1))
  where
    go : (b : Bool) (last : Option Order) → IfSome last P → IfSome (in_front b order last) P
    go true None h = all.0
    go true (Some other) h = h
    go false last h = h

higher : (m n : ℕ) → m < n → nat_lt m n ≡ true
higher m n h = grind (arith, nat_tests)

not_higher : (m n : ℕ) → m < n → nat_lt n m ≡ false
not_higher m n h = grind (arith, nat_tests)

itself : (n : ℕ) → nat_lt n n ≡ false
itself n = grind (arith, nat_tests)

one_of_both : (order x y : Order) (last : Option Order) (b : Bool) → cond b (Some y) (Some x) ≡ last → cond b (Some y) (Some x) ≡ Some (unwrap_or last order)
one_of_both order x y last true is = ap (λ found. Some (unwrap_or found order)) is
one_of_both order x y last false is = ap (λ found. Some (unwrap_or found order)) is

later_front : (order : Order) (a b last : Option Order) → IfSome a (λ other. order.number < other.number) → IfSome b (λ other. order.number < other.number) → later_of a b ≡ last
    → (p q : Bool) → later_of (in_front p order a) (in_front q order b) ≡ in_front (p || q) order last
later_front order None None last above_a above_b is true true = rw (itself order.number, sym is) refl
later_front order None (Some y) last above_a above_b is true true = rw (higher order.number y.number above_b, sym is) refl
later_front order (Some x) None last above_a above_b is true true = rw (not_higher order.number x.number above_a, sym is) refl
later_front order (Some x) (Some y) last above_a above_b is true true = one_of_both order x y last (nat_lt x.number y.number) is
later_front order None None last above_a above_b is true false = rw (sym is) refl
later_front order None (Some y) last above_a above_b is true false = rw (higher order.number y.number above_b, sym is) refl
later_front order (Some x) None last above_a above_b is true false = rw (sym is) refl
later_front order (Some x) (Some y) last above_a above_b is true false = one_of_both order x y last (nat_lt x.number y.number) is
later_front order None None last above_a above_b is false true = rw (sym is) refl
later_front order None (Some y) last above_a above_b is false true = rw (sym is) refl
later_front order (Some x) None last above_a above_b is false true = rw (not_higher order.number x.number above_a, sym is) refl
later_front order (Some x) (Some y) last above_a above_b is false true = one_of_both order x y last (nat_lt x.number y.number) is
later_front order a b last above_a above_b is false false = is

later_last : (p q : Order → Bool) (n : ℕ) (life : Life) → IsNumberedFrom n life → later_of (last_of (filter p life)) (last_of (filter q life)) ≡ last_of (filter (λ order. p order || q order) life)
later_last p q n [] h = refl
later_last p q n (order ∷ later) h =
    let beyond : AllByRecursion (λ (other : Order). order.number < other.number) later = rw (h.0) (above (n + 1) later h.1) in
    rw (front_last p order later, front_last q order later, front_last (λ o. p o || q o) order later)
    (later_front order (last_of (filter p later)) (last_of (filter q later)) _ (last_all _ p later beyond) (last_all _ q later beyond) (later_last p q (n + 1) later h.1) (p order) (q order))

-- ---- tests that agree

filter_agree : (p q : Order → Bool) (life : Life) → AllByRecursion (λ order. p order ≡ q order) life → filter p life ≡ filter q life
filter_agree p q [] same = refl
filter_agree p q (order ∷ later) same = rw (same.0, filter_agree p q later same.1) refl

all_agree : (p q : Order → Bool) (life : Life) → ((order : Order) → HasValidTexts order → p order ≡ q order) → AllByRecursion HasValidTexts life → AllByRecursion (λ order. p order ≡ q order) life
all_agree p q [] agree valid_texts = tt
all_agree p q (order ∷ later) agree valid_texts = (agree order valid_texts.0, all_agree p q later agree valid_texts.1)

valid_texts : (lives : Lives) (id : List ℕ) → IsLives lives → AllByRecursion HasValidTexts (life_of lives id)
valid_texts lives id whole = go (get lives id) refl (whole id)
  where
    go : (found : Option Life) → get lives id ≡ found → IfSome found (IsInstance id) → AllByRecursion HasValidTexts (life_of lives id)
    go None is h = rw is tt
    go (Some life) is h = rw is h.life.texts

nowhere : (b : Bool) → (b && false) ≡ false
nowhere true = refl
nowhere false = refl

creation : (order : Order) → HasValidTexts order → is_kind_of [] Create order ≡ is_a Create order
creation order w = go order.kind w.texts
  where
    go : (kind : OrderKind) → AreValidTexts (is_about_binding kind) order.binding order.attributes → (bytes_eq order.binding [] && (kind_number kind == 1)) ≡ (kind_number kind == 1)
    go Create h = rw (h.0) refl
    go Update h = nowhere _
    go Delete h = nowhere _
    go Bind h = nowhere _
    go Unbind h = nowhere _

-- an order of this kind and with no binding
abbrev is_bare : Order → OrderKind → ℕ → Bool
is_bare order kind number = bytes_eq order.binding [] && (kind_number kind == number)

about_instance : (order : Order) → HasValidTexts order → (is_kept order || is_kind_of [] Delete order) ≡ is_of_instance order
about_instance order w = go order.kind w.texts
  where
    go : (kind : OrderKind) → AreValidTexts (is_about_binding kind) order.binding order.attributes → ((is_bare order kind 1 || is_bare order kind 2) || is_bare order kind 3) ≡ not (is_about_binding kind)
    go Create h = rw (h.0) refl
    go Update h = rw (h.0) refl
    go Delete h = rw (h.0) refl
    go Bind h = rw (nowhere (bytes_eq order.binding [])) refl
    go Unbind h = rw (nowhere (bytes_eq order.binding [])) refl

about_binding : (binding : List ℕ) (order : Order) → (is_kind_of binding Bind order || is_kind_of binding Unbind order) ≡ is_of_binding binding order
about_binding binding order = go order.kind (bytes_eq order.binding binding)
  where
    go : (kind : OrderKind) (b : Bool) → ((b && (kind_number kind == 4)) || (b && (kind_number kind == 5))) ≡ (is_about_binding kind && b)
    go Create true = refl
    go Create false = refl
    go Update true = refl
    go Update false = refl
    go Delete true = refl
    go Delete false = refl
    go Bind true = refl
    go Bind false = refl
    go Unbind true = refl
    go Unbind false = refl

-- ---- lives

module _ (lives : Lives) (id : List ℕ) (whole : IsLives lives) where
  abbrev life : Life
  life = life_of lives id

  pub creation_last : last_of (filter (is_kind_of [] Create) life) ≡ last_of (filter (is_a Create) life)
  creation_last = ap last_of (filter_agree _ _ life (all_agree _ _ life creation (valid_texts lives id whole)))

  pub kept_last : later_of (last_of (filter (is_kind_of [] Create) life)) (last_of (filter (is_kind_of [] Update) life)) ≡ last_of (filter is_kept life)
  kept_last = later_last (is_kind_of [] Create) (is_kind_of [] Update) 0 life (numbered lives id whole)

  pub instance_last : later_of (last_of (filter is_kept life)) (last_of (filter (is_kind_of [] Delete) life)) ≡ last_of (filter is_of_instance life)
  instance_last = later_last is_kept (is_kind_of [] Delete) 0 life (numbered lives id whole) ∙ ap last_of (filter_agree _ _ life (all_agree _ _ life about_instance (valid_texts lives id whole)))

  pub binding_last : (binding : List ℕ) → later_of (last_of (filter (is_kind_of binding Bind) life)) (last_of (filter (is_kind_of binding Unbind) life)) ≡ last_of (filter (is_of_binding binding) life)
  binding_last binding = later_last (is_kind_of binding Bind) (is_kind_of binding Unbind) 0 life (numbered lives id whole) ∙ ap last_of (filter_agree _ _ life (all_agree _ _ life (λ order _. about_binding binding order) (valid_texts lives id whole)))

-- the later one of two that were read one after the other
pub then_last : (p q : Order → Bool) (first last : Option Order) (before after : Life) → first ≡ last_of (filter p before) → after ≡ before → last ≡ later_of first (last_of (filter q after)) → last ≡ later_of (last_of (filter p before)) (last_of (filter q before))
then_last p q first last before after is same found =
    found ∙ ap (λ o. later_of o (last_of (filter q after))) is ∙ ap (λ life. later_of (last_of (filter p before)) (last_of (filter q life))) same
