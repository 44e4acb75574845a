-- One more order at the end of a life: how the instance and its bindings stand then.
use Rattle.std.proofs.Common.{◌≡◌, ℕ, Bool, true, false, cond, not, ◌&&◌, ◌||◌, ◌==◌, List, [], ◌∷◌, ◌++◌, Option, None, Some, refl, sym, ◌∙◌, ap}
use Rattle.std.specs.List.{list_any}
use Rattle.std.specs.Prelude.{bytes_eq, option_map, if◌then◌else◌}
use Rattle.std.specs.Option.{option_map_or}
use Rattle.osb_orders.specs.declared.order.OrderKind.{OrderKind}
use Rattle.osb_orders.specs.declared.order.OrderKind.TheVariants.{Create, Update, Delete, Bind, Unbind}
use Rattle.osb_orders.specs.declared.order.OrderState.{OrderState}
use Rattle.osb_orders.specs.declared.order.OrderState.TheVariants.{Running, Succeeded, Failed}
use Rattle.osb_orders.specs.declared.order.Attributes.{Attributes}
use Rattle.osb_orders.specs.declared.order.Order.{Order}
use Rattle.osb_orders.specs.declared.view.BindingNow.{BindingNow}
use Rattle.osb_orders.specs.declared.view.Standing.{Standing}
use Rattle.osb_orders.specs.Lists.{from_last, last_where, last_of}
use Rattle.osb_orders.specs.Orders.{kind_number, state_number, is_a, is_now, has_succeeded, is_about_binding, is_of_instance, is_of_binding}
use Rattle.osb_orders.specs.Life.{Life, since_birth, phase_by, standing_of, standing_since}
use Rattle.osb_orders.specs.Bindings.{since_bind, binding_phase_by, binding_of, binding_since}
use Rattle.osb_orders.specs.IsLife.{is_empty, IsNext}
use Rattle.osb_orders.proofs.GrowLemmas.{grow, unless, filter-miss, last_where-hit, last_where-miss, from_last-hit, from_last-miss, unless-hit, unless-miss}
use Rattle.osb_standing.specs.declared.row.BindingEdit.{BindingEdit}
use Rattle.osb_standing.specs.declared.row.BindingEdit.TheVariants.{Keep, Put, Remove, Clear}
use Rattle.osb_standing.specs.Rows.{birth_failed}
use Rattle.osb_standing.specs.Instance.{stands, standing_over, standing_after}
use Rattle.osb_standing.specs.Binding.{binding_by, edit_over}
use Rattle.osb_standing.specs.Binding.{with_binding_phase as binding_in_phase}
use Rattle.osb_standing.proofs.LifeLemmas.{first_of, first_from_last}

-- What is read off a list that has one more

module _ {A B : Type 0} where
  -- off the last that passes: off the new one, where it passes
  last_by : (read : A → B) (passes : A → Bool) (given : A) (xs : List A) (y : A) (hit : Bool) → passes y ≡ hit → read (last_where passes given (xs ++ y ∷ [])) ≡ cond hit (read y) (read (last_where passes given xs))
  last_by read passes given xs y true is = ap read (last_where-hit passes given xs y is)
  last_by read passes given xs y false is = ap read (last_where-miss passes given xs y is)

  -- off all since the last birth: off the new one alone where it is a birth, off none where it is a removal
  since_by : (read : List A → B) (bears removes : A → Bool) (xs : List A) (y : A) (birth removal : Bool) → bears y ≡ birth → removes y ≡ removal → (birth ≡ true → removes y ≡ false) →
      read (unless removes (from_last bears (xs ++ y ∷ []))) ≡ cond birth (read (y ∷ [])) (cond removal (read []) (read (grow (unless removes (from_last bears xs)) y)))
  since_by read bears removes xs y true removal born gone apart = ap (λ found. read (unless removes found)) (from_last-hit bears xs y born) ∙ ap (λ gone. read (cond (gone || false) [] (y ∷ []))) (apart refl)
  since_by read bears removes xs y false true born gone apart = ap (λ found. read (unless removes found)) (from_last-miss bears xs y born) ∙ ap read (unless-hit removes (from_last bears xs) y gone)
  since_by read bears removes xs y false false born gone apart = ap (λ found. read (unless removes found)) (from_last-miss bears xs y born) ∙ ap read (unless-miss removes (from_last bears xs) y gone)

-- The instance

pub birth_failed-push : (front : Life) (o : Order) → is_a Create o ≡ false → birth_failed (front ++ o ∷ []) ≡ birth_failed front
birth_failed-push front o other = ap (λ births. option_map_or (is_now Failed) (last_of births) false) (filter-miss (is_a Create) front o other)

create_or_delete : (k : OrderKind) (succeeded : Bool) → (kind_number k == 1) ≡ true → (kind_number k == 3 && succeeded) ≡ false
create_or_delete Create succeeded is = refl
create_or_delete _ succeeded is = cc

-- an order after a birth that has ended so, by its kind, its state and its attributes
abbrev joined : OrderState → OrderKind → OrderState → Attributes → Standing → Standing
joined birth k s given old = stands (cond (not (is_about_binding k)) (phase_by birth k s) old.phase) (cond (kind_number k == 2 && state_number s == 1) given old.attributes)

-- the two tables, that of the lives and that of the rows
tables_agree : (k : OrderKind) (s birth : OrderState) (old : Option Standing) (given : Attributes) →
    cond (kind_number k == 1) (Some (stands (phase_by s k s) given)) (cond (kind_number k == 3 && state_number s == 1) None (option_map (joined birth k s given) old)) ≡ standing_over k s (state_number birth == 2) given old
tables_agree Create Running birth old given = refl
tables_agree Update Running birth old given = refl
tables_agree Delete Running birth old given = refl
tables_agree Delete Failed Running old given = refl
tables_agree Bind s birth None given = refl
tables_agree Unbind s birth None given = refl
tables_agree _ _ _ _ _ = refl

-- where there is no instance it doesn't matter how its birth ended
absent : (failed : Bool) (o : Order) → cond (is_a Create o) (standing_since (o ∷ [])) (cond (has_succeeded Delete o) None None) ≡ standing_after failed o None
absent true o = tables_agree o.kind o.outcome.state Failed None o.attributes
absent false o = tables_agree o.kind o.outcome.state Running None o.attributes

standing_grown : (removed : Bool) (orders : Life) (o : Order) →
    cond (is_a Create o) (standing_since (o ∷ [])) (cond (has_succeeded Delete o) None (standing_since (grow (cond removed [] orders) o)))
    ≡ standing_after (option_map_or (is_now Failed) (first_of orders) false) o (standing_since (cond removed [] orders))
standing_grown true orders o = absent (option_map_or (is_now Failed) (first_of orders) false) o
standing_grown false [] o = absent false o
standing_grown false (b ∷ later) o =
    (λ i. cond (is_a Create o) (standing_since (o ∷ [])) (cond (has_succeeded Delete o) None (Some (stands
    (last_by (λ (last : Order). phase_by b.outcome.state last.kind last.outcome.state) is_of_instance b later o _ refl i)
    (last_by (λ (last : Order). last.attributes) (has_succeeded Update) b later o _ refl i)))))
    ∙ tables_agree o.kind o.outcome.state b.outcome.state (standing_since (b ∷ later)) o.attributes

-- how the instance stands after one more order, of any life
pub standing_push : (life : Life) (o : Order) → standing_of (life ++ o ∷ []) ≡ standing_after (birth_failed life) o (standing_of life)
standing_push life o =
    let born : Life = from_last (is_a Create) life in
    since_by standing_since (is_a Create) (has_succeeded Delete) life o _ _ refl refl (create_or_delete o.kind (is_now Succeeded o))
    ∙ standing_grown (list_any (has_succeeded Delete) born) born o
    ∙ ap (λ birth. standing_after (option_map_or (is_now Failed) birth false) o (standing_of life)) (first_from_last (is_a Create) life)

-- A binding

-- the row of a binding after an edit, at the id of the edit or at another
abbrev pub edited_at : BindingEdit → Bool → Option BindingNow → Option BindingNow
edited_at Keep here old = old
edited_at (Put row) here old = if here then Some row else old
edited_at Remove here old = if here then None else old
edited_at Clear here old = None

-- a binding after one more order, which names it or not
abbrev pub binding_over : OrderKind → Bool → OrderState → Order → Option BindingNow → Option BindingNow
binding_over k named s o old = edited_at (edit_over k s o old) named old

abbrev binds : List ℕ → Order → Bool
binds id o = is_a Bind o && is_of_binding id o

abbrev unbinds : List ℕ → Order → Bool
unbinds id o = is_a Unbind o && is_of_binding id o

abbrev unbound : List ℕ → Order → Bool
unbound id o = has_succeeded Unbind o && is_of_binding id o

bind_or_unbind : (k : OrderKind) (named succeeded : Bool) → (kind_number k == 4 && (is_about_binding k && named)) ≡ true → ((kind_number k == 5 && succeeded) && (is_about_binding k && named)) ≡ false
bind_or_unbind Bind named succeeded is = refl
bind_or_unbind _ named succeeded is = cc

-- an order of the instance's bindings, of this one or not, by its kind and its state
abbrev told : OrderKind → Bool → OrderState → Order → Option BindingNow → Option BindingNow
told k named s o old =
    cond (kind_number k == 4 && (is_about_binding k && named)) (Some (binding_by (binding_phase_by k s) o))
    (cond ((kind_number k == 5 && state_number s == 1) && (is_about_binding k && named)) None
    (cond (kind_number k == 5 && (is_about_binding k && named)) (option_map (binding_in_phase (binding_phase_by k s)) old) old))

-- the last Unbind gives the phase
unbinding : (id : List ℕ) (since : Life) (o : Order) (hit : Bool) → unbinds id o ≡ hit →
    binding_since id (grow since o) ≡ cond hit (option_map (binding_in_phase (binding_phase_by o.kind o.outcome.state)) (binding_since id since)) (binding_since id since)
unbinding id [] o true is = refl
unbinding id [] o false is = refl
unbinding id (b ∷ later) o hit is = last_by (λ (last : Order). Some (binding_by (binding_phase_by last.kind last.outcome.state) b)) (unbinds id) b later o hit is

told_by : (id : List ℕ) (orders : Life) (o : Order) → binding_since id (since_bind id (orders ++ o ∷ [])) ≡ told o.kind (bytes_eq o.binding id) o.outcome.state o (binding_since id (since_bind id orders))
told_by id orders o =
    since_by (binding_since id) (binds id) (unbound id) orders o _ _ refl refl (bind_or_unbind o.kind (bytes_eq o.binding id) (is_now Succeeded o))
    ∙ ap (λ now. cond (binds id o) (binding_since id (o ∷ [])) (cond (unbound id o) None now)) (unbinding id (since_bind id orders) o _ refl)

-- the orders of the binding, of an instance that is there
told_since : (id : List ℕ) (since : Life) (o : Order) → binding_since id (since_bind id (grow since o)) ≡ cond (is_empty since) None (told o.kind (bytes_eq o.binding id) o.outcome.state o (binding_since id (since_bind id since)))
told_since id [] o = refl
told_since id (b ∷ later) o = told_by id (b ∷ later) o

-- what the lives tell of it, and what the edit makes of its row
edits_agree : (k : OrderKind) (named : Bool) (old : Option BindingNow) (s : OrderState) (o : Order) → ((kind_number k == 1) ≡ true → old ≡ None) →
    cond (kind_number k == 1) (told k named s o None) (cond (kind_number k == 3 && state_number s == 1) None (cond (kind_number k == 1) None (told k named s o old))) ≡ binding_over k named s o old
edits_agree Create named old s o none = sym (none refl)
edits_agree Delete named old Running o none = refl
edits_agree Bind named old Running o none = refl
edits_agree Unbind true None Running o none = refl
edits_agree Unbind true (Some x) Running o none = refl
edits_agree Unbind false None Running o none = refl
edits_agree Unbind false (Some x) Running o none = refl
edits_agree _ _ _ _ _ _ = refl

none_since : (id : List ℕ) (since : Life) → is_empty since ≡ true → binding_since id (since_bind id since) ≡ None
none_since id [] is = refl
none_since id (o ∷ os) is = cc

-- how a binding stands after one more order, of a life that the order may follow
pub binding_push : (id : List ℕ) (life : Life) (o : Order) → IsNext life o → binding_of id (life ++ o ∷ []) ≡ binding_over o.kind (bytes_eq o.binding id) o.outcome.state o (binding_of id life)
binding_push id life o next =
    let read : Life → Option BindingNow = λ since. binding_since id (since_bind id since) in
    let now : Option BindingNow = told o.kind (bytes_eq o.binding id) o.outcome.state o (binding_of id life) in
    since_by read (is_a Create) (has_succeeded Delete) life o _ _ refl refl (create_or_delete o.kind (is_now Succeeded o))
    ∙ (λ i. cond (is_a Create o) (told_by id [] o i) (cond (has_succeeded Delete o) None (told_since id (since_birth life) o i)))
    ∙ ap (λ absent. cond (is_a Create o) (told o.kind (bytes_eq o.binding id) o.outcome.state o None) (cond (has_succeeded Delete o) None (cond absent None now))) (sym next.creates)
    ∙ edits_agree o.kind (bytes_eq o.binding id) (binding_of id life) o.outcome.state o (λ create. none_since id (since_birth life) (sym next.creates ∙ create))
