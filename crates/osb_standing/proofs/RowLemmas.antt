-- The rows after a change, from the rows before it and the order that it writes.
use Rattle.std.proofs.Common.{◌≡◌, ℕ, Bool, true, false, cond, ◌&&◌, ◌||◌, ◌==◌, List, [], ◌∷◌, Option, None, Some, refl, sym, ◌∙◌, ap, IfOk}
use Rattle.std.specs.List.{list_any}
use Rattle.std.specs.Prelude.{Result, bytes_eq, option_map}
use Rattle.std.specs.Ordering.{nat_cmp, eq_by_cmp}
use Rattle.std.specs.Cmp.Lexicographic.{slice_cmp, nat_list_cmp_total, nat_list_eq_equiv}
use Rattle.std.specs.FinMap.{get, get-empty, get-insert, get-remove, same_map, slice_cmp-IsAntisymmetric, nat_cmp-IsAntisymmetric}
use Rattle.std.proofs.Math.Bool.{and-false}
use Rattle.std.proofs.lemmas.Bool.{true≢false}
use Rattle.std.proofs.lemmas.Map.Text.{is_eq-slice_cmp}
use Rattle.std.proofs.lemmas.Slice.Eq.{bytes_eq-Decides}
use Rattle.std.proofs.lemmas.Result.{IfOk-weaker}
use Rattle.osb_orders.specs.declared.order.OrderKind.{OrderKind}
use Rattle.osb_orders.specs.declared.order.OrderKind.TheVariants.{Create, Update, Delete, Bind, Unbind}
use Rattle.osb_orders.specs.declared.order.OrderState.{OrderState}
use Rattle.osb_orders.specs.declared.order.OrderState.TheVariants.{Running, Failed}
use Rattle.osb_orders.specs.declared.order.Attributes.{Attributes}
use Rattle.osb_orders.specs.declared.order.Order.{Order}
use Rattle.osb_orders.specs.declared.order.Change.{Change}
use Rattle.osb_orders.specs.declared.view.BindingNow.{BindingNow}
use Rattle.osb_orders.specs.declared.view.Standing.{Standing}
use Rattle.osb_orders.specs.Lists.{or_else, from_last}
use Rattle.osb_orders.specs.Orders.{kind_number, state_number, is_a, has_succeeded, is_about_binding, is_of_binding}
use Rattle.osb_orders.specs.Life.{Life, since_birth, standing_of}
use Rattle.osb_orders.specs.Bindings.{binding_of, binding_since}
use Rattle.osb_orders.specs.Changed.{changed}
use Rattle.osb_standing.specs.declared.row.InstanceRow.{InstanceRow}
use Rattle.osb_standing.specs.declared.row.BindingEdit.{BindingEdit}
use Rattle.osb_standing.specs.declared.row.BindingEdit.TheVariants.{Keep, Put, Remove, Clear}
use Rattle.osb_standing.specs.Rows.{row_by, row_of, standing_in, birth_failed, Bindings, with_binding, bindings_named, bindings_of}
use Rattle.osb_standing.specs.Written.{IsWritten}
use Rattle.osb_standing.specs.Instance.{standing_over, standing_after, row_after, is_failed_deletion}
use Rattle.osb_standing.specs.Binding.{edit_over, edit_of, edited}
use Rattle.osb_orders.proofs.GrowLemmas.{choose, unless}
use Rattle.osb_standing.proofs.PushLemmas.{edited_at, binding_over}
use Rattle.osb_standing.proofs.ChangeLemmas.{follows}

-- The row of the instance

pub standing_is : (life : Life) → standing_in (row_of life) ≡ standing_of life
standing_is [] = refl
standing_is (o ∷ os) = refl

row_follows : (life : Life) (change : Change) (order : Order) → IsWritten life change order → row_of (changed change life) ≡ Some (row_after (birth_failed life) order (row_of life))
row_follows life change order w =
    let f = follows life change order w in
    (λ i. option_map (row_by (f.standing i)) (f.last i)) ∙ ap (λ standing. Some (row_by (standing_after (birth_failed life) order standing) order)) (sym (standing_is life))

-- how the birth ended matters only where a deletion fails
unread : (k : OrderKind) (s : OrderState) (failed read : Bool) (given : Attributes) (old : Option Standing) → ((kind_number k == 3 && state_number s == 2) ≡ true → read ≡ failed) →
    standing_over k s failed given old ≡ standing_over k s read given old
unread Delete Failed failed read given old same = ap (λ failed. standing_over Delete Failed failed given old) (sym (same refl))
unread Update Running failed read given old same = refl
unread _ _ _ _ _ _ _ = refl

pub row_stands : (life : Life) (change : Change) {order : Order} {old : Option InstanceRow} {failed : Bool} {E : Type 0} → IsWritten life change order → old ≡ row_of life → (is_failed_deletion order ≡ true → failed ≡ birth_failed life) →
    (result : Result InstanceRow E) → IfOk result (λ new. new ≡ row_after failed order old) → IfOk result (λ new. row_of (changed change life) ≡ Some new)
row_stands life change {order = order} {failed = read} w old same result =
    IfOk-weaker result _ _ (λ new is.
    row_follows life change order w
    ∙ (λ i. Some (row_by (unread order.kind order.outcome.state (birth_failed life) read order.attributes (standing_in (sym old i)) same i) order))
    ∙ ap Some (sym is))

-- The rows of the bindings: what a look-up finds

same_text : (a b : List ℕ) → bytes_eq a b ≡ true → a ≡ b
same_text a b is = (bytes_eq-Decides a b).0 is

test_is : (id at : List ℕ) → eq_by_cmp (slice_cmp nat_cmp) id at ≡ bytes_eq at id
test_is id at = is_eq-slice_cmp id at ∙ nat_list_eq_equiv.symm id at

neither : (a b : Bool) → (a || b) ≡ false → (a ≡ false) × (b ≡ false)
neither true b is = absurd (true≢false is)
neither false b is = (refl, is)

-- where no order names a binding, it is absent
module _ (id : List ℕ) where
  abbrev names : Order → Bool
  names o = bytes_eq o.binding id

  abbrev Unnamed : Life → Type 0
  Unnamed orders = list_any names orders ≡ false

  either_unnamed : (found others : Life) → Unnamed found → Unnamed others → Unnamed (or_else found others)
  either_unnamed [] others none rest = rest
  either_unnamed (o ∷ os) others none rest = none

  from_last_unnamed : (passes : Order → Bool) (orders : Life) → Unnamed orders → Unnamed (from_last passes orders)
  from_last_unnamed passes [] none = refl
  from_last_unnamed passes (o ∷ os) none =
      either_unnamed (from_last passes os) (cond (passes o) (o ∷ os) []) (from_last_unnamed passes os (neither (names o) (list_any names os) none).1) (choose Unnamed (passes o) (o ∷ os) [] (λ _. none) (λ _. refl))

  none_bound : (orders : Life) → Unnamed orders → from_last (λ o. is_a Bind o && is_of_binding id o) orders ≡ []
  none_bound [] none = refl
  none_bound (o ∷ os) none =
      let both = neither (names o) (list_any names os) none in
      rw (none_bound os both.1, both.0, and-false (is_about_binding o.kind), and-false (is_a Bind o)) refl

  unnamed_absent : (life : Life) → Unnamed life → binding_of id life ≡ None
  unnamed_absent life none =
      let born : Life = from_last (is_a Create) life in
      let since : Unnamed (since_birth life) = choose Unnamed (list_any (has_succeeded Delete) born) [] born (λ _. refl) (λ _. from_last_unnamed (is_a Create) life none) in
      ap (λ found. binding_since id (unless (λ o. has_succeeded Unbind o && is_of_binding id o) found)) (none_bound (since_birth life) since)

  -- the row that one order names, before those that are named after it
  first_found : (life : Life) (at : List ℕ) (row : Option BindingNow) (rows : Bindings) (here rest : Bool) → bytes_eq at id ≡ here → row ≡ binding_of at life →
      ((rest ≡ false → binding_of id life ≡ None) → get rows id ≡ binding_of id life) → ((here || rest) ≡ false → binding_of id life ≡ None) → get (with_binding at row rows) id ≡ binding_of id life
  first_found life at None rows true rest is row later absent = later (λ _. ap (λ id. binding_of id life) (sym (same_text at id is)) ∙ sym row)
  first_found life at None rows false rest is row later absent = later absent
  first_found life at (Some binding) rows true rest is row later absent =
      get-insert nat_list_cmp_total rows at binding id ∙ ap (λ here. cond here (Some binding) (get rows id)) (test_is id at ∙ is) ∙ row ∙ ap (λ id. binding_of id life) (same_text at id is)
  first_found life at (Some binding) rows false rest is row later absent = get-insert nat_list_cmp_total rows at binding id ∙ ap (λ here. cond here (Some binding) (get rows id)) (test_is id at ∙ is) ∙ later absent

  found : (life orders : Life) → (list_any names orders ≡ false → binding_of id life ≡ None) → get (bindings_named life orders) id ≡ binding_of id life
  found life [] absent = get-empty (slice_cmp nat_cmp) id ∙ sym (absent refl)
  found life (o ∷ os) absent = first_found life o.binding (binding_of o.binding life) (bindings_named life os) (names o) (list_any names os) refl refl (found life os) absent

pub bindings_are : (life : Life) (id : List ℕ) → get (bindings_of life) id ≡ binding_of id life
bindings_are life id = found id life life (unnamed_absent id life)

-- The rows of the bindings: what an order makes of them

get-edited : (edit : BindingEdit) (at id : List ℕ) (rows : Bindings) → get (edited edit at rows) id ≡ edited_at edit (bytes_eq at id) (get rows id)
get-edited Keep at id rows = refl
get-edited (Put row) at id rows = get-insert nat_list_cmp_total rows at row id ∙ ap (λ here. cond here (Some row) (get rows id)) (test_is id at)
get-edited Remove at id rows = get-remove nat_list_cmp_total rows at id ∙ ap (λ here. cond here None (get rows id)) (test_is id at)
get-edited Clear at id rows = get-empty (slice_cmp nat_cmp) id

-- the edit is read off the row of the binding that the order names, whichever binding is looked at
one_edit : (named : Bool) (k : OrderKind) (old at : Option BindingNow) (s : OrderState) (o : Order) → (named ≡ true → old ≡ at) → binding_over k named s o old ≡ edited_at (edit_over k s o at) named old
one_edit true k old at s o same = ap (λ at. edited_at (edit_over k s o at) true old) (same refl)
one_edit false Delete old at Running o same = refl
one_edit false Unbind None None Running o same = refl
one_edit false Unbind None (Some y) Running o same = refl
one_edit false Unbind (Some x) None Running o same = refl
one_edit false Unbind (Some x) (Some y) Running o same = refl
one_edit _ _ _ _ _ _ _ = refl

bindings_follow : (life : Life) (change : Change) (order : Order) → IsWritten life change order → bindings_of (changed change life) ≡ edited (edit_of order (get (bindings_of life) order.binding)) order.binding (bindings_of life)
bindings_follow life change order w =
    let at : Option BindingNow = get (bindings_of life) order.binding in
    let new : Life = changed change life in
    same_map nat_list_cmp_total (slice_cmp-IsAntisymmetric nat_cmp-IsAntisymmetric) (bindings_of new) (edited (edit_of order at) order.binding (bindings_of life)) (λ id.
    let named : bytes_eq order.binding id ≡ true → binding_of id life ≡ at = λ is. ap (λ id. binding_of id life) (sym (same_text order.binding id is)) ∙ sym (bindings_are life order.binding) in
    bindings_are new id
    ∙ (follows life change order w).binding id
    ∙ one_edit (bytes_eq order.binding id) order.kind (binding_of id life) at order.outcome.state order named
    ∙ ap (edited_at (edit_of order at) (bytes_eq order.binding id)) (sym (bindings_are life id))
    ∙ sym (get-edited (edit_of order at) order.binding id (bindings_of life)))

pub bindings_stand : (life : Life) (change : Change) {order : Order} {old : Option BindingNow} {E : Type 0} → IsWritten life change order → old ≡ get (bindings_of life) order.binding →
    (result : Result BindingEdit E) → IfOk result (λ edit. edit ≡ edit_of order old) → IfOk result (λ edit. bindings_of (changed change life) ≡ edited edit order.binding (bindings_of life))
bindings_stand life change {order = order} w old result =
    IfOk-weaker result _ _ (λ edit is. bindings_follow life change order w ∙ (λ i. edited ((ap (edit_of order) (sym old) ∙ sym is) i) order.binding (bindings_of life)))
