-- One order more at the end of a well-formed life, and what the row says of the next.
use Rattle.std.proofs.Common.{append-nil, append_assoc, length-append, ◌≡◌, ℕ, ◌+◌, ◌<◌, Bool, true, false, cond, List, [], ◌∷◌, ◌++◌, length, take, drop, get_or, filter, not, is_some, is_none, Option, Some, None, refl, sym, ◌∙◌, ap, subst, arith}
use Rattle.std.specs.List.{AllByRecursion}
use Rattle.std.specs.Option.{option_map_or}
use Rattle.std.proofs.lemmas.List.{map-append, take-append-drop, drop_more}
use Rattle.std.proofs.lemmas.List.Elements.{filter-append}
use Rattle.osb_orders.specs.declared.order.OrderKind.TheVariants.{Create}
use Rattle.osb_orders.specs.declared.order.OrderState.TheVariants.{Failed}
use Rattle.osb_orders.specs.declared.order.Order.{Order}
use Rattle.osb_orders.specs.declared.order.Change.TheVariants.{Append}
use Rattle.osb_orders.specs.Lists.{last_of}
use Rattle.osb_orders.specs.Orders.{is_a, is_now}
use Rattle.osb_orders.specs.Life.{Life, since_birth, standing_since}
use Rattle.osb_orders.specs.IsLife.{is_empty, is_absent, ends_running, IsNext, IsLifeAfter, HasValidTexts, IsLife}
use Rattle.osb_orders.specs.Allowed.{IsAppendable}
use Rattle.osb_orders.proofs.GrowLemmas.{last_of-push}
use Rattle.osb_standing.specs.declared.row.InstanceRow.{InstanceRow}
use Rattle.osb_standing.specs.Rows.{row_of, standing_in, birth_failed}
use Rattle.osb_standing.specs.Written.{IsWritten}
use Rattle.osb_standing.proofs.RowLemmas.{standing_is}
use Rattle.osb_audit.specs.Orders.{Entry}
use Rattle.osb_audit.specs.Life.{orders_in}

-- ---- what the row says

abbrev pub busy_in : Option InstanceRow → Bool
busy_in row = option_map_or (λ (row : InstanceRow). row.busy) row false

pub busy_is : (life : Life) → busy_in (row_of life) ≡ ends_running life
busy_is [] = refl
busy_is (order ∷ life) = refl

pub none_is : {A : Type 0} (found : Option A) (absent : Bool) → is_some found ≡ not absent → absent ≡ is_none found
none_is None true e = refl
none_is None false e = cc
none_is (Some x) true e = cc
none_is (Some x) false e = refl

absent_since : (orders : Life) → is_none (standing_since orders) ≡ is_empty orders
absent_since [] = refl
absent_since (order ∷ orders) = refl

pub absent_is : (life : Life) → is_none (standing_in (row_of life)) ≡ is_absent life
absent_is life = ap is_none (standing_is life) ∙ absent_since (since_birth life)

pub birth_failed-create : (before : Life) (order : Order) → is_a Create order ≡ true → is_now Failed order ≡ birth_failed (before ++ order ∷ [])
birth_failed-create before order create = sym (
    ap (λ (births : Life). option_map_or (is_now Failed) (last_of births) false) (filter-append (is_a Create) before (order ∷ []) ∙ ap (λ hit. filter (is_a Create) before ++ cond hit (order ∷ []) []) create)
    ∙ ap (λ last. option_map_or (is_now Failed) last false) (last_of-push (filter (is_a Create) before) order))

-- ---- one order more

after_push : (done later : Life) (order : Order) → IsLifeAfter done later → IsNext (done ++ later) order → IsLifeAfter done (later ++ order ∷ [])
after_push done [] order h next = (subst (λ (life : Life). IsNext life order) (append-nil done) next, tt)
after_push done (first ∷ later) order h next = (h.0, after_push (done ++ first ∷ []) later order h.1 (subst (λ (life : Life). IsNext life order) (sym (append_assoc done (first ∷ []) later)) next))

all_push : (life : Life) (order : Order) → AllByRecursion HasValidTexts life → HasValidTexts order → AllByRecursion HasValidTexts (life ++ order ∷ [])
all_push [] order h valid_texts = (valid_texts, tt)
all_push (first ∷ life) order h valid_texts = (h.0, all_push life order h.1 valid_texts)

pub life_push : (before : Life) (order : Order) → IsLife before → IsAppendable before order → IsLife (before ++ order ∷ [])
life_push before order life next = record {
  count = omega (arith, length-append before (order ∷ []), life.count, next.room);
  orders = after_push [] before order life.orders next.next;
  texts = all_push before order life.texts next.texts;
}

pub written : (before : Life) (order : Order) → IsLife before → IsAppendable before order → IsWritten before (Append order) order
written before order life next = record { is_life = life; allowed = next; writes = refl }

-- ---- one order out of many

next_at : (done before later : Life) (order : Order) → IsLifeAfter done (before ++ order ∷ later) → IsNext (done ++ before) order
next_at done [] later order h = subst (λ (life : Life). IsNext life order) (sym (append-nil done)) h.0
next_at done (first ∷ before) later order h = subst (λ (life : Life). IsNext life order) (append_assoc done (first ∷ []) before) (next_at (done ++ first ∷ []) before later order h.1)

valid_texts_at : (before later : Life) (order : Order) → AllByRecursion HasValidTexts (before ++ order ∷ later) → HasValidTexts order
valid_texts_at [] later order h = h.0
valid_texts_at (first ∷ before) later order h = valid_texts_at before later order h.1

pub appendable_at : (before later : Life) (order : Order) → IsLife (before ++ order ∷ later) → IsAppendable before order
appendable_at before later order life = record {
  room = omega (arith, length-append before (order ∷ later), life.count);
  next = next_at [] before later order life.orders;
  texts = valid_texts_at before later order life.texts;
}

pub orders_split : (entries : List Entry) (i : ℕ) (entry : Entry) → i < length entries → entry ≡ get_or entries i entry → orders_in entries ≡ orders_in (take i entries) ++ entry.1 ∷ orders_in (drop (i + 1) entries)
orders_split entries i entry below is =
    ap orders_in (sym (take-append-drop i entries))
    ∙ map-append (λ (entry : Entry). entry.1) (take i entries) (drop i entries)
    ∙ ap (λ (rest : List Entry). orders_in (take i entries) ++ orders_in rest) (drop_more entries i entry below ∙ ap (λ (entry : Entry). entry ∷ drop (i + 1) entries) (sym is))
