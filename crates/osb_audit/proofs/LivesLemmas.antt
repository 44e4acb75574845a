-- The lives that entries make up, id by id.
use Rattle.std.proofs.Common.{◌≡◌, ℕ, Bool, true, false, cond, List, [], ◌∷◌, length, filter, bytes_eq, Option, Some, None, refl, sym, ◌∙◌, ap, subst, arith}
use Rattle.std.specs.Prelude.{unwrap_or, IfSome}
use Rattle.std.specs.Ordering.{nat_cmp, eq_by_cmp}
use Rattle.std.specs.Cmp.Lexicographic.{slice_cmp, nat_list_cmp_total, nat_list_eq_equiv}
use Rattle.std.specs.FinMap.{get, empty, entries, get-empty, get-insert, len-entries, len-empty}
use Rattle.std.proofs.lemmas.Map.Text.{is_eq-slice_cmp}
use Rattle.osb_orders.specs.declared.view.BindingNow.{BindingNow}
use Rattle.osb_orders.specs.Life.{Life}
use Rattle.osb_orders.specs.Lives.{life_of}
use Rattle.osb_orders.specs.IsLife.{IsInstance}
use Rattle.osb_standing.specs.Rows.{row_of, bindings_of}
use Rattle.osb_audit.specs.declared.entry.BindingEntry.{BindingEntry}
use Rattle.osb_audit.specs.Orders.{Entry, is_of, lives_in}
use Rattle.osb_audit.specs.Instances.{InstanceEntry, IsRowOf}
use Rattle.osb_audit.specs.Bindings.{BindingsStand}
use Rattle.osb_audit.specs.Audit.{AreConsistent}
use Rattle.osb_audit.specs.Life.{orders_in}
use Rattle.osb_audit.proofs.RunLemmas.{same_text}

-- the orders of one instance
abbrev pub life_in : List ℕ → List Entry → Life
life_in id orders = orders_in (filter (is_of id) orders)

-- an id without orders is not in the map
abbrev pub opened : Life → Option Life
opened [] = None
opened (order ∷ life) = Some (order ∷ life)

pub opened_back : (life : Life) → unwrap_or (opened life) [] ≡ life
opened_back [] = refl
opened_back (order ∷ life) = refl

pub key_is : (id at : List ℕ) → eq_by_cmp (slice_cmp nat_cmp) id at ≡ bytes_eq at id
key_is id at = is_eq-slice_cmp id at ∙ nat_list_eq_equiv.symm id at

pub get_lives : (id : List ℕ) (orders : List Entry) → get (lives_in orders) id ≡ opened (life_in id orders)
get_lives id [] = get-empty (slice_cmp nat_cmp) id
get_lives id (entry ∷ orders) =
    get-insert nat_list_cmp_total (lives_in orders) entry.0 (entry.1 ∷ life_of (lives_in orders) entry.0) id
    ∙ ap (λ b. cond b (Some (entry.1 ∷ life_of (lives_in orders) entry.0)) (get (lives_in orders) id)) (key_is id entry.0)
    ∙ go (bytes_eq entry.0 id) refl (get_lives id orders)
  where
    go : (b : Bool) → bytes_eq entry.0 id ≡ b → get (lives_in orders) id ≡ opened (life_in id orders)
        → cond b (Some (entry.1 ∷ life_of (lives_in orders) entry.0)) (get (lives_in orders) id) ≡ opened (orders_in (cond b (entry ∷ filter (is_of id) orders) (filter (is_of id) orders)))
    go true is rest = ap (λ (at : List ℕ). Some (entry.1 ∷ life_of (lives_in orders) at)) (same_text entry.0 id is) ∙ ap (λ found. Some (entry.1 ∷ unwrap_or found [])) rest ∙ ap (λ (life : Life). Some (entry.1 ∷ life)) (opened_back (life_in id orders))
    go false is rest = rest

pub life_of_lives : (id : List ℕ) (orders : List Entry) → life_of (lives_in orders) id ≡ life_in id orders
life_of_lives id orders = ap (λ found. unwrap_or found []) (get_lives id orders) ∙ opened_back (life_in id orders)

-- ---- id by id

-- what stands at one id
pub record StandsAt (id : List ℕ) (life : Life) (instances : List InstanceEntry) (bindings : List BindingEntry) : Type 0 where
  pub instance : IfSome (opened life) (IsInstance id)
  pub row : IsRowOf id (row_of life) instances
  pub bound : BindingsStand id life bindings

pub stands_at : (orders : List Entry) (instances : List InstanceEntry) (bindings : List BindingEntry) → AreConsistent orders instances bindings → (id : List ℕ) → StandsAt id (life_in id orders) instances bindings
stands_at orders instances bindings stand id = record {
  instance = subst (λ (found : Option Life). IfSome found (IsInstance id)) (get_lives id orders) (stand.lives id);
  row = subst (λ (life : Life). IsRowOf id (row_of life) instances) (life_of_lives id orders) (stand.instances_stand id);
  bound = subst (λ (life : Life). BindingsStand id life bindings) (life_of_lives id orders) (stand.bindings_stand id);
}

pub stand_from : (orders : List Entry) (instances : List InstanceEntry) (bindings : List BindingEntry) → ((id : List ℕ) → StandsAt id (life_in id orders) instances bindings) → AreConsistent orders instances bindings
stand_from orders instances bindings each = record {
  lives = λ id. subst (λ (found : Option Life). IfSome found (IsInstance id)) (sym (get_lives id orders)) (each id).instance;
  instances_stand = λ id. subst (λ (life : Life). IsRowOf id (row_of life) instances) (sym (life_of_lives id orders)) (each id).row;
  bindings_stand = λ id. subst (λ (life : Life). BindingsStand id life bindings) (sym (life_of_lives id orders)) (each id).bound;
}

-- ---- an instance without orders

no_items : {A : Type 0} (items : List A) → length items ≡ 0 → items ≡ []
no_items [] e = refl
no_items (item ∷ items) e = absurd (omega arith)

pub no_bindings : entries (bindings_of []) ≡ []
no_bindings = no_items _ (sym (len-entries empty) ∙ len-empty (slice_cmp nat_cmp) BindingNow)
