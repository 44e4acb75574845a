-- The context that stands after an order was written.
use Rattle.std.proofs.Common.{◌≡◌, Bool, true, false, ◌&&◌, ◌==◌, [], ◌∷◌, ◌++◌, Option, None, Some, refl, sym, ◌∙◌, ap, subst}
use Rattle.std.specs.Prelude.{is_some, option_map, unwrap_or}
use Rattle.std.proofs.lemmas.Option.{same_Some}
use Rattle.osb_orders.specs.declared.order.OrderKind.{OrderKind}
use Rattle.osb_orders.specs.declared.order.OrderKind.TheVariants.{Update, Delete}
use Rattle.osb_orders.specs.declared.order.OrderState.{OrderState}
use Rattle.osb_orders.specs.declared.order.OrderState.TheVariants.{Running, Succeeded}
use Rattle.osb_orders.specs.declared.order.Attributes.{Attributes}
use Rattle.osb_orders.specs.declared.order.Outcome.{Outcome}
use Rattle.osb_orders.specs.declared.order.Order.{Order}
use Rattle.osb_orders.specs.declared.order.Change.{Change}
use Rattle.osb_orders.specs.declared.order.Change.TheVariants.{Nothing, Append, Finish}
use Rattle.osb_orders.specs.declared.view.Standing.{Standing}
use Rattle.osb_orders.specs.Lists.{last_of}
use Rattle.osb_orders.specs.Orders.{kind_number, is_a, is_now}
use Rattle.osb_orders.specs.Life.{Life, since_birth, standing_since, standing_of}
use Rattle.osb_orders.specs.Changed.{with_outcome, changed}
use Rattle.osb_orders.specs.IsLife.{is_empty, is_absent, IsNext}
use Rattle.osb_orders.proofs.GrowLemmas.{grow, last_of-push, since_birth-later, EndsWith, ends}
use Rattle.osb_standing.specs.Rows.{birth_failed}
use Rattle.osb_standing.specs.Written.{IsWritten}
use Rattle.osb_standing.specs.Instance.{standing_over}
use Rattle.osb_standing.proofs.ChangeLemmas.{follows}
use Rattle.osb_bare.specs.Context.{standing_context, context_over, context_edit}

-- ---- an Update is of an instance that is there

not_create : (k : OrderKind) → (kind_number k == 2) ≡ true → (kind_number k == 1) ≡ false
not_create Update is = refl
not_create _ is = cc

not_deleted : (k : OrderKind) (succeeded : Bool) → (kind_number k == 2) ≡ true → (kind_number k == 3 && succeeded) ≡ false
not_deleted Update succeeded is = refl
not_deleted _ succeeded is = cc

there_since : (since : Life) → is_empty since ≡ false → is_some (standing_since since) ≡ true
there_since [] is = cc
there_since (birth ∷ later) is = refl

is_empty-grow : (since : Life) (order : Order) → is_empty (grow since order) ≡ is_empty since
is_empty-grow [] order = refl
is_empty-grow (first ∷ later) order = refl

-- before it
there_before : (front : Life) (order : Order) → IsNext front order → is_a Update order ≡ true → is_absent front ≡ false
there_before front order next is = sym next.creates ∙ not_create order.kind is

-- and after it
there_after : (front : Life) (order : Order) → IsNext front order → is_a Update order ≡ true → is_absent (front ++ order ∷ []) ≡ false
there_after front order next is =
    ap is_empty (since_birth-later front order (not_create order.kind is) (not_deleted order.kind (is_now Succeeded order) is))
    ∙ is_empty-grow (since_birth front) order
    ∙ there_before front order next is

ended_there : (front : Life) (ran : Order) (outcome : Outcome) (order : Order) → IsNext front ran → is_a Update order ≡ true → option_map (with_outcome outcome) (last_of (front ++ ran ∷ [])) ≡ Some order → is_absent (front ++ ran ∷ []) ≡ false
ended_there front ran outcome order next is writes =
    let same : with_outcome outcome ran ≡ order = same_Some (with_outcome outcome ran) order (ap (option_map (with_outcome outcome)) (sym (last_of-push front ran)) ∙ writes) in
    there_after front ran next (ap (is_a Update) same ∙ is)

updates_there : (life : Life) (change : Change) (order : Order) → IsWritten life change order → is_a Update order ≡ true → is_absent life ≡ false
updates_there life Nothing order w is = let none : None ≡ Some order = w.writes in cc
updates_there life (Append o) order w is = there_before life o w.allowed.next (ap (is_a Update) (same_Some o order w.writes) ∙ is)
updates_there [] (Finish number outcome) order w is = let none : None ≡ Some order = w.writes in cc
updates_there (x ∷ later) (Finish number outcome) order w is =
    let e : EndsWith (x ∷ later) = ends [] later x w.is_life.orders in
    subst (λ (life : Life). option_map (with_outcome outcome) (last_of life) ≡ Some order → is_absent life ≡ false) (sym e.parts) (ended_there e.front e.order outcome order e.next is) w.writes

-- ---- the two tables, that of what stands and that of its context

context_after : (old : Option Standing) (k : OrderKind) (s : OrderState) (failed : Bool) (given : Attributes) → ((kind_number k == 2) ≡ true → is_some old ≡ true) →
    standing_context (standing_over k s failed given old) ≡ unwrap_or (context_over k s given.context) (standing_context old)
context_after None Update Succeeded failed given there = let is : false ≡ true = there refl in cc
context_after None Delete Running failed given there = refl
context_after (Some x) Update Running failed given there = refl
context_after (Some x) Delete Running failed given there = refl
context_after _ _ _ _ _ _ = refl

pub context_stands : (life : Life) (change : Change) (order : Order) → IsWritten life change order → standing_context (standing_of (changed change life)) ≡ unwrap_or (context_edit order) (standing_context (standing_of life))
context_stands life change order w =
    ap standing_context (follows life change order w).standing
    ∙ context_after (standing_of life) order.kind order.outcome.state (birth_failed life) order.attributes (λ is. there_since (since_birth life) (updates_there life change order w is))
