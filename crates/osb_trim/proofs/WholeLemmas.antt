-- That a trimmed life is well formed.
use Rattle.std.proofs.Common.{◌≡◌, ℕ, ◌+◌, ◌≤◌, Bool, true, false, cond, List, [], ◌∷◌, ◌++◌, map, length, codes, Option, None, Some, refl, sym, ◌∙◌, ap, ap₂, subst}
use Rattle.std.specs.Prelude.{◌≢◌, IfSome, option_map}
use Rattle.std.specs.List.{AllByRecursion}
use Rattle.std.proofs.lemmas.List.{map-append}
use Rattle.std.specs.Str.{is_utf8, chars}
use lib.Utf8.{encode}
use Rattle.osb_text.specs.Id.{is_id}
use Rattle.osb_text.proofs.ReadableLemmas.{empty_object as empty_is_object}
use Rattle.osb_orders.specs.declared.order.OrderKind.TheVariants.{Create}
use Rattle.osb_orders.specs.declared.order.Attributes.{Attributes}
use Rattle.osb_orders.specs.declared.order.Order.{Order}
use Rattle.osb_orders.specs.Orders.{is_a, is_about_binding, empty_object}
use Rattle.osb_orders.specs.Life.{Life}
use Rattle.osb_orders.specs.IsLife.{is_absent, ends_running, IsNext, IsLifeAfter, AreValidTexts, HasValidTexts, IsLife, IsInstance}
use Rattle.osb_orders.proofs.GrowLemmas.{choose}
use Rattle.osb_trim.specs.Trimmed.{erased, trimmed}
use Rattle.osb_trim.proofs.LifeLemmas.{deletes, erased-again, erased-trimmed, same_read, length-erased, runs-erased, absent-erased}

-- ---- orders follow each other as they did

same_next : (before other : Life) (order next : Order) → map erased before ≡ map erased other → erased order ≡ erased next → IsNext before order → IsNext other next
same_next before other order next same one h = record {
  number = ap (λ (o : Order). o.number) (sym one) ∙ h.number ∙ ap (λ n. n + 1) (same_read length length-erased before other same);
  ended = same_read ends_running runs-erased other before (sym same) ∙ h.ended;
  creates = ap (is_a Create) (sym one) ∙ h.creates ∙ same_read is_absent absent-erased before other same;
}

follows : (before other later : Life) → map erased before ≡ map erased other → IsLifeAfter before later → IsLifeAfter other (trimmed later)
follows before other [] same h = tt
follows before other (order ∷ later) same h =
    let gone : Bool = deletes (order ∷ later) in
    let next : Order = cond gone (erased order) order in
    let one : erased order ≡ erased next = sym (erased-again gone order) in
    let more : map erased (before ++ order ∷ []) ≡ map erased (other ++ next ∷ []) =
    map-append erased before (order ∷ []) ∙ ap₂ (λ (front : Life) (last : Order). front ++ last ∷ []) same one ∙ sym (map-append erased other (next ∷ [])) in
    (same_next before other order next same one h.0, follows (before ++ order ∷ []) (other ++ next ∷ []) later more h.1)

pub orders-trimmed : (life : Life) → IsLifeAfter [] life → IsLifeAfter [] (trimmed life)
orders-trimmed life h = follows [] [] life refl h

-- ---- texts

dash : is_id (codes "-") ≡ true
unfolding is_utf8 chars encode
dash = refl

abbrev placeholders : Bool → Attributes
placeholders about = record {
  service = codes "-";
  plan = codes "-";
  place = cond about [] (codes "-");
  spot = cond about (codes "{}") (codes "-");
  parameters = codes "{}";
  maintenance = [];
  context = empty_object;
}

placeholders_valid : (about : Bool) (binding : List ℕ) (attributes : Attributes) → AreValidTexts about binding attributes → AreValidTexts about binding (placeholders about)
placeholders_valid false binding attributes h = (h.0, record { service = dash; plan = dash; organization = dash; space = dash; parameters = empty_is_object; context = empty_is_object })
placeholders_valid true binding attributes h = (h.0, record { service = dash; plan = dash; app_guid = refl; bind_resource = empty_is_object; parameters = empty_is_object; context = empty_is_object })

erased_valid : (order : Order) → HasValidTexts order → HasValidTexts (erased order)
erased_valid order h = record {
  texts = placeholders_valid (is_about_binding order.kind) order.binding order.attributes h.texts;
  credentials = h.credentials;
}

texts-trimmed : (life : Life) → AllByRecursion HasValidTexts life → AllByRecursion HasValidTexts (trimmed life)
texts-trimmed [] h = tt
texts-trimmed (order ∷ life) h = (choose HasValidTexts (deletes (order ∷ life)) (erased order) order (λ _. erased_valid order h.0) (λ _. h.0), texts-trimmed life h.1)

-- ---- lives

pub trimmed_whole : (life : Life) → IsLife life → IsLife (trimmed life)
trimmed_whole life h = record {
  count = subst (λ n. n ≤ 1000000) (same_read length length-erased life (trimmed life) (sym (erased-trimmed life))) h.count;
  orders = orders-trimmed life h.orders;
  texts = texts-trimmed life h.texts;
}

some_order : (life : Life) → life ≢ [] → trimmed life ≢ []
some_order [] opened = opened
some_order (order ∷ life) opened = λ e. cc

pub instance-trimmed : (id : List ℕ) (found : Option Life) → IfSome found (IsInstance id) → IfSome (option_map trimmed found) (IsInstance id)
instance-trimmed id None h = tt
instance-trimmed id (Some life) h = record { id = h.id; opened = some_order life h.opened; life = trimmed_whole life h.life }
