-- That bare lives are well formed.
use Rattle.std.proofs.Common.{◌≡◌, ◌≢◌, ℕ, ◌+◌, ◌<◌, ◌≤◌, Bool, true, false, List, [], ◌∷◌, ◌++◌, length, Option, None, Some, sym, ◌∙◌, ap, subst}
use Rattle.std.specs.Prelude.{IfSome, option_map}
use Rattle.std.specs.List.{AllByRecursion}
use Rattle.std.proofs.lemmas.List.{length-map, map-append}
use Rattle.osb_text.proofs.ReadableLemmas.{empty_object as empty_is_object}
use Rattle.osb_orders.specs.declared.order.Attributes.{Attributes}
use Rattle.osb_orders.specs.declared.order.Order.{Order}
use Rattle.osb_orders.specs.declared.order.Change.{Change}
use Rattle.osb_orders.specs.declared.order.Change.TheVariants.{Nothing, Append, Finish}
use Rattle.osb_orders.specs.Orders.{is_about_binding}
use Rattle.osb_orders.specs.Life.{Life}
use Rattle.osb_orders.specs.IsLife.{AreValidTexts, HasValidTexts, IsNext, IsLifeAfter, IsLife, IsInstance}
use Rattle.osb_orders.specs.Allowed.{IsAllowed}
use Rattle.osb_bare.specs.Bare.{bare_attributes, bare_order, bare_life, bare_change}
use Rattle.osb_bare.proofs.LifeLemmas.{ends_running-bare, is_absent-bare}

-- ---- bare lives are well formed

texts-bare : (about : Bool) (binding : List ℕ) (a : Attributes) → AreValidTexts about binding a → AreValidTexts about binding (bare_attributes a)
texts-bare false binding a h = (h.0, record { service = h.1.service; plan = h.1.plan; organization = h.1.organization; space = h.1.space; parameters = h.1.parameters; context = empty_is_object })
texts-bare true binding a h = (h.0, record { service = h.1.service; plan = h.1.plan; app_guid = h.1.app_guid; bind_resource = h.1.bind_resource; parameters = h.1.parameters; context = empty_is_object })

valid_texts-bare : (order : Order) → HasValidTexts order → HasValidTexts (bare_order order)
valid_texts-bare order h = record { texts = texts-bare (is_about_binding order.kind) order.binding order.attributes h.texts; credentials = h.credentials }

all_valid_texts-bare : (life : Life) → AllByRecursion HasValidTexts life → AllByRecursion HasValidTexts (bare_life life)
all_valid_texts-bare [] h = tt
all_valid_texts-bare (order ∷ later) h = (valid_texts-bare order h.0, all_valid_texts-bare later h.1)

length-bare : (life : Life) → length (bare_life life) ≡ length life
length-bare life = length-map life bare_order

next-bare : (before : Life) (order : Order) → IsNext before order → IsNext (bare_life before) (bare_order order)
next-bare before order h = record {
  number = h.number ∙ ap (λ n. n + 1) (sym (length-bare before));
  ended = ends_running-bare before ∙ h.ended;
  creates = h.creates ∙ sym (is_absent-bare before);
}

life_after-bare : (before later : Life) → IsLifeAfter before later → IsLifeAfter (bare_life before) (bare_life later)
life_after-bare before [] h = tt
life_after-bare before (order ∷ later) h =
    (next-bare before order h.0, subst (λ (life : Life). IsLifeAfter life (bare_life later)) (map-append bare_order before (order ∷ [])) (life_after-bare (before ++ order ∷ []) later h.1))

pub is_life-bare : (life : Life) → IsLife life → IsLife (bare_life life)
is_life-bare life h = record {
  count = subst (λ n. n ≤ 1000000) (sym (length-bare life)) h.count;
  orders = life_after-bare [] life h.orders;
  texts = all_valid_texts-bare life h.texts;
}

pub allowed-bare : (life : Life) (change : Change) → IsAllowed life change → IsAllowed (bare_life life) (bare_change change)
allowed-bare life Nothing h = tt
allowed-bare life (Append order) h = record {
  room = subst (λ n. n < 1000000) (sym (length-bare life)) h.room;
  next = next-bare life order h.next;
  texts = valid_texts-bare order h.texts;
}
allowed-bare life (Finish number outcome) h = record {
  runs = ends_running-bare life ∙ h.runs;
  last = h.last ∙ sym (length-bare life);
  ends = h.ends;
  credentials = h.credentials;
}

opened-bare : (life : Life) → life ≢ [] → bare_life life ≢ []
opened-bare [] h = h
opened-bare (order ∷ later) h = λ is. cc

pub instance-bare : (id : List ℕ) (found : Option Life) → IfSome found (IsInstance id) → IfSome (option_map bare_life found) (IsInstance id)
instance-bare id None h = h
instance-bare id (Some life) h = record { id = h.id; opened = opened-bare life h.opened; life = is_life-bare life h.life }
