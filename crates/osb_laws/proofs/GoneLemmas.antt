-- A poll that names no operation and is answered 410 is about what isn't there.
use Rattle.std.proofs.Common.{◌≡◌, ◌⊎◌, inl, inr, Bool, true, not, ◌==◌, ◌&&◌, ◌||◌, cond, ℕ, List, [], ◌∷◌, filter, Option, None, Some, refl, sym, ap, subst, ◌∙◌}
use Rattle.std.specs.List.{list_any}
use Rattle.std.proofs.lemmas.Bool.{and_parts}
use Rattle.std.proofs.lemmas.Option.{same_Some}
use Rattle.std.proofs.Math.Bool.{or-true}
use Rattle.osb_catalog.specs.Rules.{Rules}
use Rattle.osb_asks.specs.declared.ask.InstanceOp.{InstanceOp}
use Rattle.osb_asks.specs.declared.ask.BindingOp.{BindingOp}
use Rattle.osb_asks.specs.declared.ask.Ask.TheVariants as the
use Rattle.osb_orders.specs.declared.order.OrderKind.{OrderKind}
use Rattle.osb_orders.specs.declared.order.OrderKind.TheVariants as kind
use Rattle.osb_orders.specs.declared.order.Order.{Order}
use Rattle.osb_orders.specs.Lists.{or_else, from_last, last_of}
use Rattle.osb_orders.specs.Orders.{kind_number, is_a, has_succeeded, is_about_binding, is_of_instance, is_of_binding}
use Rattle.osb_orders.specs.Life.{Life, since_birth}
use Rattle.osb_orders.specs.Bindings.{binding_of, binding_since}
use Rattle.osb_orders.specs.Lives.{Lives, life_of}
use Rattle.osb_orders.specs.IsLife.{is_empty, is_absent}
use Rattle.osb_machine.specs.Machine.{answer_to}
use Rattle.osb_replies.specs.declared.status.Status.{Status}
use Rattle.osb_replies.specs.declared.status.Status.TheVariants as status
use Rattle.osb_orders.proofs.GrowLemmas.{choose}
use Rattle.osb_laws.specs.Statuses.{polled_of, PollSays}
use Rattle.osb_laws.proofs.StatusLemmas.{polls_say, binding_polls_say}

-- the last that passes is one of them
last_any : (p r : Order → Bool) (orders : Life) (o : Order) → last_of (filter p orders) ≡ Some o → (p o ≡ true → r o ≡ true) → list_any r orders ≡ true
last_any p r [] o is holds = cc
last_any p r (x ∷ xs) o is holds = by (filter p xs) refl (λ e. last_any p r xs o e holds)
  where
    later : list_any r xs ≡ true → list_any r (x ∷ xs) ≡ true
    later e = ap (λ b. r x || b) e ∙ or-true (r x)

    only : last_of (cond (p x) (x ∷ []) []) ≡ Some o → list_any r (x ∷ xs) ≡ true
    only is =
        choose (λ (l : Life). last_of l ≡ Some o → list_any r (x ∷ xs) ≡ true) (p x) (x ∷ []) []
        (λ e is. let it = same_Some x o is in ap (λ b. b || list_any r xs) (ap r it ∙ holds (sym (ap p it) ∙ e)))
        (λ _ is. cc) is

    some : (y : Order) (ys : Life) → (last_of (y ∷ ys) ≡ Some o → list_any r xs ≡ true) → last_of (cond (p x) (x ∷ y ∷ ys) (y ∷ ys)) ≡ Some o → list_any r (x ∷ xs) ≡ true
    some y ys more is =
        choose (λ (l : Life). last_of l ≡ Some o → list_any r (x ∷ xs) ≡ true) (p x) (x ∷ y ∷ ys) (y ∷ ys)
        (λ _ is. later (more is)) (λ _ is. later (more is)) is

    by : (ys : Life) → filter p xs ≡ ys → (last_of (filter p xs) ≡ Some o → list_any r xs ≡ true) → list_any r (x ∷ xs) ≡ true
    by [] e more = only (ap (λ (l : Life). last_of (cond (p x) (x ∷ l) l)) (sym e) ∙ is)
    by (y ∷ ys) e more = some y ys (λ at. more (ap (λ (l : Life). last_of l) e ∙ at)) (ap (λ (l : Life). last_of (cond (p x) (x ∷ l) l)) (sym e) ∙ is)

-- What stands from the last that passes on has the same last of those that another test passes, or none of these

abbrev Same : (Order → Bool) → Life → Life → Type 0
Same p part orders = (filter p part ≡ []) ⊎ (last_of (filter p part) ≡ last_of (filter p orders))

none_last : (orders : Life) → last_of orders ≡ None → orders ≡ []
none_last [] e = refl
none_last (o ∷ os) e = cc

one_before : (p : Order → Bool) (part : Life) (x : Order) (xs : Life) → Same p part xs → Same p part (x ∷ xs)
one_before p part x xs (inl none) = inl none
one_before p part x xs (inr same) = by (filter p xs) refl
  where
    by : (ys : Life) → filter p xs ≡ ys → Same p part (x ∷ xs)
    by [] e = inl (none_last (filter p part) (same ∙ ap (λ (l : Life). last_of l) e))
    by (y ∷ ys) e = inr (
        same ∙ ap (λ (l : Life). last_of l) e
        ∙ choose (λ (l : Life). last_of (y ∷ ys) ≡ last_of l) (p x) (x ∷ y ∷ ys) (y ∷ ys) (λ _. refl) (λ _. refl)
        ∙ ap (λ (l : Life). last_of (cond (p x) (x ∷ l) l)) (sym e))

from_same : (p q : Order → Bool) (orders : Life) → Same p (from_last q orders) orders
from_same p q [] = inl refl
from_same p q (x ∷ xs) = by (from_last q xs) (from_same p q xs)
  where
    by : (later : Life) → Same p later xs → Same p (or_else later (cond (q x) (x ∷ xs) [])) (x ∷ xs)
    by [] same = choose (λ (l : Life). Same p l (x ∷ xs)) (q x) (x ∷ xs) [] (λ _. inr refl) (λ _. inl refl)
    by (y ∷ ys) same = one_before p (y ∷ ys) x xs same

-- its first passes
abbrev BeginsWith : (Order → Bool) → Life → Type 0
BeginsWith q [] = Unit {0}
BeginsWith q (x ∷ xs) = q x ≡ true

begins : (q : Order → Bool) (orders : Life) → BeginsWith q (from_last q orders)
begins q [] = tt
begins q (x ∷ xs) = by (from_last q xs) (begins q xs)
  where
    by : (later : Life) → BeginsWith q later → BeginsWith q (or_else later (cond (q x) (x ∷ xs) []))
    by [] h = choose (BeginsWith q) (q x) (x ∷ xs) [] (λ e. e) (λ _. tt)
    by (y ∷ ys) h = h

module _ (p q r : Order → Bool) (own : (o : Order) → q o ≡ true → p o ≡ true) where
  none_left : (part : Life) → BeginsWith q part → filter p part ≡ [] → part ≡ []
  none_left [] h e = refl
  none_left (x ∷ xs) h e = let some : x ∷ filter p xs ≡ [] = ap (λ b. cond b (x ∷ filter p xs) (filter p xs)) (sym (own x h)) ∙ e in cc

  removed : (orders : Life) (o : Order) → (filter p orders ≡ []) ⊎ (last_of (filter p orders) ≡ Some o) → (p o ≡ true → r o ≡ true) → cond (list_any r (from_last q orders)) [] (from_last q orders) ≡ []
  removed orders o at holds = by (from_same p q orders) at
    where
      empty : from_last q orders ≡ [] → cond (list_any r (from_last q orders)) [] (from_last q orders) ≡ []
      empty e = ap (λ (l : Life). cond (list_any r l) [] l) e

      by : Same p (from_last q orders) orders → (filter p orders ≡ []) ⊎ (last_of (filter p orders) ≡ Some o) → cond (list_any r (from_last q orders)) [] (from_last q orders) ≡ []
      by (inl none) at = empty (none_left (from_last q orders) (begins q orders) none)
      by (inr same) (inl none) = empty (none_left (from_last q orders) (begins q orders) (none_last (filter p (from_last q orders)) (same ∙ ap (λ (l : Life). last_of l) none)))
      by (inr same) (inr is) = ap (λ b. cond b [] (from_last q orders)) (last_any p r (from_last q orders) o (same ∙ is) holds)

create_of_instance : (o : Order) → is_a kind.Create o ≡ true → is_of_instance o ≡ true
create_of_instance o is = by o.kind is
  where
    by : (k : OrderKind) → (kind_number k == 1) ≡ true → not (is_about_binding k) ≡ true
    by kind.Create e = refl
    by kind.Update e = cc
    by kind.Delete e = cc
    by kind.Bind e = cc
    by kind.Unbind e = cc

pub gone_is_absent : (rules : Rules) (lives : Lives) (ask : InstanceOp) → ask.operation ≡ None → (answer_to rules lives (the.InstanceOp ask)).status ≡ status.Gone → is_absent (life_of lives ask.instance) ≡ true
gone_is_absent rules lives ask unnamed gone =
    let orders = filter is_of_instance (life_of lives ask.instance) in
    let decision = answer_to rules lives (the.InstanceOp ask) in
    let says : PollSays kind.Delete ask.operation orders status.Gone decision.body = subst (λ (s : Status). PollSays kind.Delete ask.operation orders s decision.body) gone (polls_say rules lives ask) in
    let last = subst (λ (operation : Option (List ℕ)). polled_of operation orders ≡ Some says.0) unnamed says.1 in
    ap (λ (l : Life). is_empty l) (removed is_of_instance (is_a kind.Create) (has_succeeded kind.Delete) create_of_instance (life_of lives ask.instance) says.0 (inr last) (λ _. says.2))

pub gone_binding_is_absent : (rules : Rules) (lives : Lives) (ask : BindingOp) → ask.operation ≡ None → (answer_to rules lives (the.BindingOp ask)).status ≡ status.Gone → binding_of ask.binding (life_of lives ask.instance) ≡ None
gone_binding_is_absent rules lives ask unnamed gone =
    let life = life_of lives ask.instance in
    let of_it = is_of_binding ask.binding in
    let decision = answer_to rules lives (the.BindingOp ask) in
    let says : PollSays kind.Unbind ask.operation (filter of_it life) status.Gone decision.body = subst (λ (s : Status). PollSays kind.Unbind ask.operation (filter of_it life) s decision.body) gone (binding_polls_say rules lives ask) in
    let last = subst (λ (operation : Option (List ℕ)). polled_of operation (filter of_it life) ≡ Some says.0) unnamed says.1 in
    ap (binding_since ask.binding) (removed of_it (λ o. is_a kind.Bind o && of_it o) (λ o. has_succeeded kind.Unbind o && of_it o)
    (λ o is. (and_parts (is_a kind.Bind o) (of_it o) is).1) (since_birth life) says.0 (here life says.0 last) (λ its. and_both (has_succeeded kind.Unbind says.0) (of_it says.0) says.2 its))
  where
    and_both : (a b : Bool) → a ≡ true → b ≡ true → (a && b) ≡ true
    and_both a b e f = ap (λ x. x && b) e ∙ f

    here : (life : Life) (o : Order) → last_of (filter (is_of_binding ask.binding) life) ≡ Some o → (filter (is_of_binding ask.binding) (since_birth life) ≡ []) ⊎ (last_of (filter (is_of_binding ask.binding) (since_birth life)) ≡ Some o)
    here life o last =
        let of_it = is_of_binding ask.binding in
        let part = from_last (is_a kind.Create) life in
        choose (λ (l : Life). (filter of_it l ≡ []) ⊎ (last_of (filter of_it l) ≡ Some o)) (list_any (has_succeeded kind.Delete) part) [] part (λ _. inl refl) (λ _. at (from_same of_it (is_a kind.Create) life) last)
      where
        at : Same (is_of_binding ask.binding) (from_last (is_a kind.Create) life) life → last_of (filter (is_of_binding ask.binding) life) ≡ Some o → (filter (is_of_binding ask.binding) (from_last (is_a kind.Create) life) ≡ []) ⊎ (last_of (filter (is_of_binding ask.binding) (from_last (is_a kind.Create) life)) ≡ Some o)
        at (inl none) last = inl none
        at (inr same) last = inr (same ∙ last)
