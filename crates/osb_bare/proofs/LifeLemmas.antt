-- What is read off a bare life, and what a change makes of it.
use Rattle.std.proofs.Common.{◌≡◌, ℕ, Bool, false, ◌&&◌, ◌==◌, List, [], ◌∷◌, filter, bytes_eq, is_some, Option, None, Some, option_map, refl, sym, ◌∙◌, ap}
use Rattle.std.specs.List.{list_any}
use Rattle.std.specs.Option.{option_map_or}
use Rattle.std.proofs.lemmas.List.{map-append}
use Rattle.osb_asks.specs.declared.ask.Ask.{Ask}
use Rattle.osb_asks.specs.declared.ask.Ask.TheVariants as the
use Rattle.osb_orders.specs.declared.order.OrderKind.{OrderKind}
use Rattle.osb_orders.specs.declared.order.OrderKind.TheVariants.{Create, Update, Delete, Bind, Unbind}
use Rattle.osb_orders.specs.declared.order.OrderState.{OrderState}
use Rattle.osb_orders.specs.declared.order.OrderState.TheVariants.{Running, Failed}
use Rattle.osb_orders.specs.declared.order.Attributes.{Attributes}
use Rattle.osb_orders.specs.declared.order.Outcome.{Outcome}
use Rattle.osb_orders.specs.declared.order.Order.{Order}
use Rattle.osb_orders.specs.declared.order.Change.{Change}
use Rattle.osb_orders.specs.declared.order.Change.TheVariants.{Nothing, Append, Finish}
use Rattle.osb_orders.specs.declared.view.Standing.{Standing}
use Rattle.osb_orders.specs.declared.view.BindingNow.{BindingNow}
use Rattle.osb_orders.specs.Lists.{from_last, last_of}
use Rattle.osb_orders.specs.Orders.{is_a, is_now, has_succeeded, is_of_instance, is_of_binding, name_of}
use Rattle.osb_orders.specs.Life.{Life, since_birth, phase_by, standing_since, standing_of}
use Rattle.osb_orders.specs.Bindings.{since_bind, of_binding, binding_phase_by, binding_since, binding_of, has_bindings}
use Rattle.osb_orders.specs.Named.{named_by, named_in, subject}
use Rattle.osb_orders.specs.Changed.{with_last_ended, changed}
use Rattle.osb_orders.specs.IsLife.{is_empty, is_absent, ends_running}
use Rattle.osb_orders.proofs.GrowLemmas.{unless}
use Rattle.osb_standing.specs.declared.row.InstanceRow.{InstanceRow}
use Rattle.osb_standing.specs.Rows.{row_by, row_of, standing_in, birth_failed, with_binding, bindings_named, bindings_of}
use Rattle.osb_standing.specs.Written.{order_written}
use Rattle.osb_standing.specs.Instance.{standing_over, standing_after, row_after}
use Rattle.osb_standing.specs.Binding.{edit_over, edit_of}
use Rattle.osb_bare.specs.Bare.{bare_attributes, bare_order, bare_life, bare_change, bare_standing, bare_row}
use Rattle.osb_bare.proofs.ListLemmas.{map_or-map, last_of-map, is_empty-map, filter-map, find-map, any-map, unless-map, from_last-map, last_where-map}

-- ---- the instance

since_birth-bare : (life : Life) → since_birth (bare_life life) ≡ bare_life (since_birth life)
since_birth-bare life = ap (unless (has_succeeded Delete)) (from_last-map bare_order (is_a Create) life) ∙ unless-map bare_order (has_succeeded Delete) (from_last (is_a Create) life)

standing_since-bare : (since : Life) → standing_since (bare_life since) ≡ option_map bare_standing (standing_since since)
standing_since-bare [] = refl
standing_since-bare (birth ∷ later) = λ i. Some (record {
  phase = phase_by birth.outcome.state (last_where-map bare_order is_of_instance birth later i).kind (last_where-map bare_order is_of_instance birth later i).outcome.state;
  attributes = (last_where-map bare_order (has_succeeded Update) birth later i).attributes;
})

pub standing_of-bare : (life : Life) → standing_of (bare_life life) ≡ option_map bare_standing (standing_of life)
standing_of-bare life = ap standing_since (since_birth-bare life) ∙ standing_since-bare (since_birth life)

pub last_of-bare : (life : Life) → last_of (bare_life life) ≡ option_map bare_order (last_of life)
last_of-bare life = last_of-map bare_order life

row_by-bare : (standing : Option Standing) (last : Option Order) → option_map (row_by (option_map bare_standing standing)) (option_map bare_order last) ≡ option_map bare_row (option_map (row_by standing) last)
row_by-bare standing None = refl
row_by-bare standing (Some order) = refl

pub row_of-bare : (life : Life) → row_of (bare_life life) ≡ option_map bare_row (row_of life)
row_of-bare life = (λ i. option_map (row_by (standing_of-bare life i)) (last_of-bare life i)) ∙ row_by-bare (standing_of life) (last_of life)

pub birth_failed-bare : (life : Life) → birth_failed (bare_life life) ≡ birth_failed life
birth_failed-bare life =
    let births : Life = filter (is_a Create) life in
    ap (λ births. option_map_or (is_now Failed) (last_of births) false) (filter-map bare_order (is_a Create) life)
    ∙ ap (λ last. option_map_or (is_now Failed) last false) (last_of-bare births)
    ∙ map_or-map bare_order (is_now Failed) (last_of births) false

-- ---- its bindings

since_bind-bare : (id : List ℕ) (life : Life) → since_bind id (bare_life life) ≡ bare_life (since_bind id life)
since_bind-bare id life =
    let binds : Order → Bool = λ order. is_a Bind order && is_of_binding id order in
    let unbound : Order → Bool = λ order. has_succeeded Unbind order && is_of_binding id order in
    ap (unless unbound) (from_last-map bare_order binds life) ∙ unless-map bare_order unbound (from_last binds life)

binding_since-bare : (id : List ℕ) (since : Life) → binding_since id (bare_life since) ≡ binding_since id since
binding_since-bare id [] = refl
binding_since-bare id (bind ∷ later) =
    ap (λ (last : Order). Some (record { phase = binding_phase_by last.kind last.outcome.state; attributes = of_binding bind.attributes; credentials = bind.outcome.credentials }))
    (last_where-map bare_order (λ order. is_a Unbind order && is_of_binding id order) bind later)

pub binding_of-bare : (id : List ℕ) (life : Life) → binding_of id (bare_life life) ≡ binding_of id life
binding_of-bare id life = ap (λ since. binding_since id (since_bind id since)) (since_birth-bare life) ∙ ap (binding_since id) (since_bind-bare id (since_birth life)) ∙ binding_since-bare id (since_bind id (since_birth life))

pub has_bindings-bare : (life : Life) → has_bindings (bare_life life) ≡ has_bindings life
has_bindings-bare life = any-map bare_order (λ order. is_some (binding_of order.binding (bare_life life))) life ∙ (λ i. list_any (λ order. is_some (binding_of-bare order.binding life i)) life)

bindings_named-bare : (life orders : Life) → bindings_named (bare_life life) (bare_life orders) ≡ bindings_named life orders
bindings_named-bare life [] = refl
bindings_named-bare life (order ∷ later) = λ i. with_binding order.binding (binding_of-bare order.binding life i) (bindings_named-bare life later i)

pub bindings_of-bare : (life : Life) → bindings_of (bare_life life) ≡ bindings_of life
bindings_of-bare life = bindings_named-bare life life

-- ---- orders that are looked for

pub subject-bare : (ask : Ask) (life : Life) → subject ask (bare_life life) ≡ bare_life (subject ask life)
subject-bare (the.InstanceOp ask) life = filter-map bare_order is_of_instance life
subject-bare (the.BindingOp ask) life = filter-map bare_order (is_of_binding ask.binding) life
subject-bare _ life = refl

named_by-bare : (operation : Option (List ℕ)) (orders : Life) → named_by operation (bare_life orders) ≡ option_map bare_order (named_by operation orders)
named_by-bare None orders = refl
named_by-bare (Some name) orders = find-map bare_order (λ order. bytes_eq (name_of order) name) orders

pub named_in-bare : (ask : Ask) (life : Life) → named_in ask (bare_life life) ≡ option_map bare_order (named_in ask life)
named_in-bare (the.InstanceOp ask) life = ap (named_by ask.operation) (filter-map bare_order is_of_instance life) ∙ named_by-bare ask.operation (filter is_of_instance life)
named_in-bare (the.BindingOp ask) life = ap (named_by ask.operation) (filter-map bare_order (is_of_binding ask.binding) life) ∙ named_by-bare ask.operation (filter (is_of_binding ask.binding) life)
named_in-bare (the.Report ask) life = find-map bare_order (λ order. order.number == ask.number) life
named_in-bare _ life = refl

-- ---- what a change makes of a life

ended-bare : (outcome : Outcome) (life : Life) → with_last_ended outcome (bare_life life) ≡ bare_life (with_last_ended outcome life)
ended-bare outcome [] = refl
ended-bare outcome (order ∷ []) = refl
ended-bare outcome (order ∷ next ∷ later) = ap (λ rest. bare_order order ∷ rest) (ended-bare outcome (next ∷ later))

pub changed-bare : (change : Change) (life : Life) → changed (bare_change change) (bare_life life) ≡ bare_life (changed change life)
changed-bare Nothing life = refl
changed-bare (Append order) life = sym (map-append bare_order life (order ∷ []))
changed-bare (Finish number outcome) life = ended-bare outcome life

pub written-bare : (last : Option Order) (change : Change) → order_written (option_map bare_order last) (bare_change change) ≡ option_map bare_order (order_written last change)
written-bare last Nothing = refl
written-bare last (Append order) = refl
written-bare None (Finish number outcome) = refl
written-bare (Some order) (Finish number outcome) = refl

-- ---- what an order does to the rows

standing_in-bare : (row : Option InstanceRow) → standing_in (option_map bare_row row) ≡ option_map bare_standing (standing_in row)
standing_in-bare None = refl
standing_in-bare (Some row) = refl

standing_over-bare : (old : Option Standing) (k : OrderKind) (s : OrderState) (failed : Bool) (given : Attributes) →
    standing_over k s failed (bare_attributes given) (option_map bare_standing old) ≡ option_map bare_standing (standing_over k s failed given old)
standing_over-bare None Update Running failed given = refl
standing_over-bare None Delete Running failed given = refl
standing_over-bare (Some x) Update Running failed given = refl
standing_over-bare (Some x) Delete Running failed given = refl
standing_over-bare _ _ _ _ _ = refl

pub row_after-bare : (failed : Bool) (order : Order) (old : Option InstanceRow) → row_after failed (bare_order order) (option_map bare_row old) ≡ bare_row (row_after failed order old)
row_after-bare failed order old =
    ap (λ standing. row_by (standing_after failed (bare_order order) standing) (bare_order order)) (standing_in-bare old)
    ∙ ap (λ standing. row_by standing (bare_order order)) (standing_over-bare (standing_in old) order.kind order.outcome.state failed order.attributes)

edit_over-bare : (k : OrderKind) (s : OrderState) (order : Order) (old : Option BindingNow) → edit_over k s (bare_order order) old ≡ edit_over k s order old
edit_over-bare Unbind Running order old = refl
edit_over-bare Delete Running order old = refl
edit_over-bare _ _ _ _ = refl

pub edit_of-bare : (order : Order) (old : Option BindingNow) → edit_of (bare_order order) old ≡ edit_of order old
edit_of-bare order old = edit_over-bare order.kind order.outcome.state order old

-- ---- how a life ends

pub ends_running-bare : (life : Life) → ends_running (bare_life life) ≡ ends_running life
ends_running-bare life = ap (λ last. option_map_or (is_now Running) last false) (last_of-bare life) ∙ map_or-map bare_order (is_now Running) (last_of life) false

pub is_absent-bare : (life : Life) → is_absent (bare_life life) ≡ is_absent life
is_absent-bare life = ap is_empty (since_birth-bare life) ∙ is_empty-map bare_order (since_birth life)
