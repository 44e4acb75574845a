-- An instance with no row never had an order.
use Rattle.std.proofs.Common.{◌≡◌, ℕ, List, [], ◌∷◌, Option, None, Some, is_some, false, true≢false, refl, subst, ap, ◌∙◌, arith}
use Rattle.std.proofs.lemmas.List.{nil_from_length}
use Rattle.std.specs.Prelude.{option_and_then}
use Rattle.std.specs.FinMap.{get, get-empty}
use Rattle.std.specs.Ordering.{nat_cmp}
use Rattle.std.specs.Cmp.Lexicographic.{slice_cmp}
use Rattle.osb_asks.specs.declared.ask.Ask.{Ask}
use Rattle.osb_asks.specs.declared.ask.Ask.TheVariants.{InstanceOp, BindingOp, Report}
use Rattle.osb_orders.specs.declared.order.Order.{Order}
use Rattle.osb_orders.specs.declared.order.Change.TheVariants.{Append}
use Rattle.osb_orders.specs.Lists.{last_of}
use Rattle.osb_orders.specs.Life.{Life}
use Rattle.osb_orders.specs.Lives.{Lives, life_of}
use Rattle.osb_asks.specs.Subjects.{binding_id_of}
use Rattle.osb_orders.specs.Named.{subject, named_by, named_in}
use Rattle.osb_standing.specs.Rows.{row_of, bindings_of}
use Rattle.osb_standing.specs.Laws.{has_rows}
use Rattle.osb_standing.specs.Written.{IsWritten}
use Rattle.osb_standing.proofs.ReadLemmas.{bound_is}
use Rattle.osb_audit.specs.Instances.{InstanceEntry, IsRowOf, InstancesStand}

pub never_had : (life : Life) → row_of life ≡ None → life ≡ []
never_had [] h = refl
never_had (order ∷ later) h = absurd (true≢false (ap is_some h))

pub no_last : (life : Life) → row_of life ≡ None → last_of life ≡ None
no_last life h = ap last_of (never_had life h)

pub no_bindings : (life : Life) → row_of life ≡ None → has_rows (bindings_of life) ≡ false
no_bindings life h = ap (λ l. has_rows (bindings_of l)) (never_had life h) ∙ bound_is []

by_none : (o : Option (List ℕ)) → named_by o [] ≡ None
by_none None = refl
by_none (Some name) = refl

named_none : (ask : Ask) → named_in ask [] ≡ None
named_none (InstanceOp ask) = by_none ask.operation
named_none (BindingOp ask) = by_none ask.operation
named_none (Report ask) = refl
named_none _ = refl

pub no_named : (life : Life) (ask : Ask) → row_of life ≡ None → named_in ask life ≡ None
no_named life ask h = ap (λ l. named_in ask l) (never_had life h) ∙ named_none ask

subject_none : (ask : Ask) → last_of (subject ask []) ≡ None
subject_none (InstanceOp ask) = refl
subject_none (BindingOp ask) = refl
subject_none _ = refl

pub no_subject : (life : Life) (ask : Ask) → row_of life ≡ None → last_of (subject ask life) ≡ None
no_subject life ask h = ap (λ l. last_of (subject ask l)) (never_had life h) ∙ subject_none ask

binding_none : (o : Option (List ℕ)) → option_and_then (λ id. get (bindings_of []) id) o ≡ None
binding_none None = refl
binding_none (Some id) = get-empty (slice_cmp nat_cmp) id

pub no_binding : (life : Life) (ask : Ask) → row_of life ≡ None → option_and_then (λ id. get (bindings_of life) id) (binding_id_of ask) ≡ None
no_binding life ask h = ap (λ l. option_and_then (λ id. get (bindings_of l) id) (binding_id_of ask)) (never_had life h) ∙ binding_none (binding_id_of ask)

-- before its first order an instance has no row
pub no_row_before : (lives : Lives) (id : List ℕ) (order : Order) (instances : List InstanceEntry) → IsWritten (life_of lives id) (Append order) order → order.number ≡ 1 → InstancesStand lives instances → IsRowOf id None instances
no_row_before lives id order instances written first stood =
    let number = written.allowed.next.number in
    subst (λ (life : Life). IsRowOf id (row_of life) instances) (nil_from_length (life_of lives id) (omega (arith, number, first))) (stood id)
