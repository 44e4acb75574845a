-- What a change makes of a life, by the order that it writes.
use Rattle.std.proofs.Common.{◌≡◌, ℕ, Bool, true, false, ◌==◌, List, [], ◌∷◌, ◌++◌, Option, None, Some, refl, sym, ◌∙◌, ap, subst}
use Rattle.std.specs.Prelude.{bytes_eq, option_map}
use Rattle.std.specs.Option.{option_map_or}
use Rattle.std.proofs.lemmas.Option.{same_Some}
use Rattle.osb_orders.specs.declared.order.OrderKind.{OrderKind}
use Rattle.osb_orders.specs.declared.order.OrderKind.TheVariants.{Update, Delete, Bind, Unbind}
use Rattle.osb_orders.specs.declared.order.OrderState.{OrderState}
use Rattle.osb_orders.specs.declared.order.OrderState.TheVariants.{Running, Failed}
use Rattle.osb_orders.specs.declared.order.Attributes.{Attributes}
use Rattle.osb_orders.specs.declared.order.Order.{Order}
use Rattle.osb_orders.specs.declared.order.Outcome.{Outcome}
use Rattle.osb_orders.specs.declared.order.Change.{Change}
use Rattle.osb_orders.specs.declared.order.Change.TheVariants.{Nothing, Append, Finish}
use Rattle.osb_orders.specs.declared.view.BindingNow.{BindingNow}
use Rattle.osb_orders.specs.declared.view.Standing.{Standing}
use Rattle.osb_orders.specs.Lists.{last_of}
use Rattle.osb_orders.specs.Orders.{kind_number, state_number, is_now}
use Rattle.osb_orders.specs.Life.{Life, standing_of}
use Rattle.osb_orders.specs.Bindings.{binding_of}
use Rattle.osb_orders.specs.Changed.{with_outcome, with_last_ended, changed}
use Rattle.osb_orders.specs.IsLife.{ends_running, IsNext}
use Rattle.osb_orders.proofs.LastLemmas.{ended_push}
use Rattle.osb_orders.proofs.GrowLemmas.{last_of-push, EndsWith, ends}
use Rattle.osb_standing.specs.Rows.{birth_failed}
use Rattle.osb_standing.specs.Written.{IsWritten}
use Rattle.osb_standing.specs.Instance.{standing_over, standing_after}
use Rattle.osb_standing.proofs.PushLemmas.{birth_failed-push, standing_push, binding_over, binding_push}

-- all that the rows need to know of a life, its changed life and the order that is written
pub record Follows (life new : Life) (order : Order) : Type 0 where
  pub standing : standing_of new ≡ standing_after (birth_failed life) order (standing_of life)
  pub last : last_of new ≡ Some order
  pub binding : (id : List ℕ) → binding_of id new ≡ binding_over order.kind (bytes_eq order.binding id) order.outcome.state order (binding_of id life)

-- An order that ends does what it would have done at once

standing_again : (old : Option Standing) (k : OrderKind) (s : OrderState) (failed now : Bool) (given : Attributes) → ((kind_number k == 1) ≡ false → now ≡ failed) →
    standing_over k s failed given old ≡ standing_over k s now given (standing_over k Running failed given old)
standing_again (Some x) Delete Failed failed now given same = ap (λ failed. standing_over Delete Failed failed given (Some x)) (sym (same refl))
standing_again (Some x) Update Running failed now given same = refl
standing_again None Update Running failed now given same = refl
standing_again None Delete Running failed now given same = refl
standing_again _ _ _ _ _ _ _ = refl

binding_again : (k : OrderKind) (named : Bool) (old : Option BindingNow) (s : OrderState) (ran o : Order) → binding_over k named s o old ≡ binding_over k named s o (binding_over k named Running ran old)
binding_again Bind true old s ran o = refl
binding_again Unbind true None Running ran o = refl
binding_again Unbind true (Some x) Running ran o = refl
binding_again Unbind false None Running ran o = refl
binding_again Unbind false (Some x) Running ran o = refl
binding_again _ _ _ _ _ _ = refl

ended : (front : Life) (ran : Order) (outcome : Outcome) → IsNext front ran → ran.outcome.state ≡ Running → Follows (front ++ ran ∷ []) (front ++ with_outcome outcome ran ∷ []) (with_outcome outcome ran)
ended front ran outcome next runs =
    let order : Order = with_outcome outcome ran in
    let life : Life = front ++ ran ∷ [] in
    record {
      standing = standing_push front order
          ∙ standing_again (standing_of front) ran.kind outcome.state (birth_failed front) (birth_failed life) ran.attributes (birth_failed-push front ran)
          ∙ (λ i. standing_after (birth_failed life) order (standing_over ran.kind (sym runs i) (birth_failed front) ran.attributes (standing_of front)))
          ∙ ap (standing_after (birth_failed life) order) (sym (standing_push front ran));
      last = last_of-push front order;
      binding = λ id.
          let over : OrderState → Order → Option BindingNow → Option BindingNow = binding_over ran.kind (bytes_eq ran.binding id) in
          binding_push id front order (record { number = next.number; ended = next.ended; creates = next.creates })
          ∙ binding_again ran.kind (bytes_eq ran.binding id) (binding_of id front) outcome.state ran order
          ∙ (λ i. over outcome.state order (over (sym runs i) ran (binding_of id front)))
          ∙ ap (over outcome.state order) (sym (binding_push id front ran next));
    }

running_is : (s : OrderState) → (state_number s == 0) ≡ true → s ≡ Running
running_is Running is = refl
running_is _ is = cc

finished : (front : Life) (ran : Order) (outcome : Outcome) (order : Order) → IsNext front ran → ends_running (front ++ ran ∷ []) ≡ true → option_map (with_outcome outcome) (last_of (front ++ ran ∷ [])) ≡ Some order →
    Follows (front ++ ran ∷ []) (with_last_ended outcome (front ++ ran ∷ [])) order
finished front ran outcome order next running writes =
    let last : last_of (front ++ ran ∷ []) ≡ Some ran = last_of-push front ran in
    let runs : ran.outcome.state ≡ Running = running_is ran.outcome.state (ap (λ found. option_map_or (is_now Running) found false) (sym last) ∙ running) in
    let is : with_outcome outcome ran ≡ order = same_Some (with_outcome outcome ran) order (ap (option_map (with_outcome outcome)) (sym last) ∙ writes) in
    rw (ended_push outcome front ran) (subst (Follows (front ++ ran ∷ []) (front ++ with_outcome outcome ran ∷ [])) is (ended front ran outcome next runs))

pub follows : (life : Life) (change : Change) (order : Order) → IsWritten life change order → Follows life (changed change life) order
follows life Nothing order w = let none : None ≡ Some order = w.writes in cc
follows life (Append o) order w = subst (Follows life (life ++ o ∷ [])) (same_Some o order w.writes) (record { standing = standing_push life o; last = last_of-push life o; binding = λ id. binding_push id life o w.allowed.next })
follows [] (Finish number outcome) order w = let none : None ≡ Some order = w.writes in cc
follows (x ∷ later) (Finish number outcome) order w =
    let e : EndsWith (x ∷ later) = ends [] later x w.is_life.orders in
    subst (λ (life : Life). ends_running life ≡ true → option_map (with_outcome outcome) (last_of life) ≡ Some order → Follows life (with_last_ended outcome life) order) (sym e.parts) (finished e.front e.order outcome order e.next) w.allowed.runs w.writes
