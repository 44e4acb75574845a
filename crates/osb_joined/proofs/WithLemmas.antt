-- Orders and rows of instances that are joined with their contexts.
use Rattle.std.proofs.Common.{◌≡◌, ℕ, ◌+◌, ◌<◌, ◌≤◌, ◌==◌, ◌&&◌, ◌||◌, not, List, [], ◌∷◌, length, drop, get_or, bytes_eq, is_some, is_lt, Bool, true, false, Option, None, Some, option_map, refl, sym, ap, ◌∙◌, arith}
use Rattle.std.specs.Prelude.{◌↔◌}
use Rattle.std.specs.List.{IsAllAdjacentAnswer}
use Rattle.std.proofs.lemmas.List.{drop_more, drop_all, nil_from_length}
use Rattle.std.proofs.lemmas.Option.{same_Some}
use Rattle.std.proofs.lemmas.Bool.Decides.{nat_tests}
use Rattle.std.proofs.lemmas.Bool.{and_parts}
use Rattle.osb_orders.specs.declared.order.Order.{Order}
use Rattle.osb_orders.specs.declared.view.Standing.{Standing}
use Rattle.osb_standing.specs.declared.row.InstanceRow.{InstanceRow}
use Rattle.osb_audit.specs.Orders.{Entry}
use Rattle.osb_audit.specs.Instances.{InstanceEntry}
use Rattle.osb_audit.proofs.RisingLemmas.{rising}
use Rattle.osb_audit.proofs.RunLemmas.{same_text, text_itself}
use Rattle.osb_bare.specs.Bare.{bare_order, bare_entry, bare_standing, bare_row}
use Rattle.osb_bare.specs.Context.{standing_context}
use Rattle.osb_joined.specs.declared.entry.ContextEntry.{ContextEntry}
use Rattle.osb_joined.specs.Contexts.{context_entry, context_cmp, AreRising}
use Rattle.osb_joined.specs.Joined.{order_with, standing_with, row_with}
use Rattle.osb_joined.specs.Join.{context_of_entry, context_of_row, bare_instance_entry, is_of_standing, is_of_order, AreOrdersWith, AreRowsWith}
use Rattle.osb_joined.specs.Fits.{fits_order, fits_row}
use Rattle.osb_joined.proofs.ListLemmas.{ascending, sorted_by}
use Rattle.osb_joined.proofs.InstanceLemmas.{context_total, same_number}
use Rattle.osb_joined.proofs.PassLemmas.{pass, pass_gives, pass_finds}

number_of : (m n : ℕ) → (m == n) ≡ true → m ≡ n
number_of m n h = grind (arith, nat_tests)

parts_are : (entry : ContextEntry) (id : List ℕ) (number : ℕ) (context : List ℕ) → id ≡ entry.instance → number ≡ entry.number → context ≡ entry.context → context_entry id number context ≡ entry
parts_are entry id number context p q r = λ i. context_entry (p i) (q i) (r i)

-- ---- orders

abbrev pub order_joins : ContextEntry → Entry → Entry
order_joins context entry = (entry.0, order_with context.context entry.1)

order_joined : (c : ContextEntry) (x : Entry) → is_of_order c ≡ true → fits_order c x ≡ true → (bare_entry (order_joins c x) ≡ bare_entry x) × (context_of_entry (order_joins c x) ≡ c)
order_joined c x wanted fit =
    let key = and_parts (bytes_eq c.instance x.0) (c.number == x.1.number) fit in
    (refl, parts_are c x.0 x.1.number c.context (sym (same_text c.instance x.0 key.0)) (sym (number_of c.number x.1.number key.1)) refl)

order_only : (c : ContextEntry) (x y : Entry) → is_of_order c ≡ true → bare_entry y ≡ bare_entry x → c ≡ context_of_entry y → (fits_order c x ≡ true) × (order_joins c x ≡ y)
order_only c x y wanted same is =
    let id : y.0 ≡ x.0 = ap (λ (entry : Entry). entry.0) same in
    let order : bare_order y.1 ≡ bare_order x.1 = ap (λ (entry : Entry). entry.1) same in
    let instance : c.instance ≡ x.0 = ap (λ (entry : ContextEntry). entry.instance) is ∙ id in
    let number : c.number ≡ x.1.number = ap (λ (entry : ContextEntry). entry.number) is ∙ ap (λ (order : Order). order.number) order in
    let context : c.context ≡ y.1.attributes.context = ap (λ (entry : ContextEntry). entry.context) is in
    let back : order_with c.context x.1 ≡ y.1 = ap (λ (context : List ℕ). order_with context x.1) context ∙ ap (order_with y.1.attributes.context) (sym order) in (
      (λ i. bytes_eq (instance i) x.0 && (c.number == x.1.number)) ∙ (λ i. text_itself x.0 i && same_number c.number x.1.number number i),
      λ i. (sym id i, back i),
    )

-- ---- rows

abbrev pub row_joins : ContextEntry → InstanceEntry → InstanceEntry
row_joins context entry = (entry.0, row_with context.context entry.1)

bare_again : (context : List ℕ) (standing : Option Standing) → option_map bare_standing (option_map (standing_with context) standing) ≡ option_map bare_standing standing
bare_again context None = refl
bare_again context (Some standing) = refl

context_stays : (context : List ℕ) (standing : Option Standing) → (is_some standing || (length context == 0)) ≡ true → standing_context (option_map (standing_with context) standing) ≡ context
context_stays context None empty = sym (nil_from_length context (number_of (length context) 0 empty))
context_stays context (Some standing) empty = refl

row_joined : (c : ContextEntry) (x : InstanceEntry) → is_of_standing c ≡ true → fits_row c x ≡ true → (bare_instance_entry (row_joins c x) ≡ bare_instance_entry x) × (context_of_row (row_joins c x) ≡ c)
row_joined c x wanted fit =
    let parts = and_parts (bytes_eq c.instance x.0) (is_some x.1.standing || (length c.context == 0)) fit in (
      λ i. (x.0, record { standing = bare_again c.context x.1.standing i; busy = x.1.busy; last_number = x.1.last_number }),
      parts_are c x.0 0 (standing_context (option_map (standing_with c.context) x.1.standing)) (sym (same_text c.instance x.0 parts.0)) (sym (number_of c.number 0 wanted)) (context_stays c.context x.1.standing parts.1),
    )

empty_or_some : (context : List ℕ) (x y : Option Standing) → option_map bare_standing y ≡ option_map bare_standing x → context ≡ standing_context y → (is_some x || (length context == 0)) ≡ true
empty_or_some context (Some standing) y same is = refl
empty_or_some context None None same is = ap (λ context. length context == 0) is
empty_or_some context None (Some standing) same is = cc

standing_back : (context : List ℕ) (x y : Option Standing) → option_map bare_standing y ≡ option_map bare_standing x → context ≡ standing_context y → option_map (standing_with context) x ≡ y
standing_back context None None same is = refl
standing_back context None (Some standing) same is = cc
standing_back context (Some standing) None same is = cc
standing_back context (Some x) (Some y) same is =
    let bare : bare_standing y ≡ bare_standing x = same_Some (bare_standing y) (bare_standing x) same in
    ap Some (ap (λ (context : List ℕ). standing_with context x) is ∙ ap (standing_with y.attributes.context) (sym bare))

row_only : (c : ContextEntry) (x y : InstanceEntry) → is_of_standing c ≡ true → bare_instance_entry y ≡ bare_instance_entry x → c ≡ context_of_row y → (fits_row c x ≡ true) × (row_joins c x ≡ y)
row_only c x y wanted same is =
    let id : y.0 ≡ x.0 = ap (λ (entry : InstanceEntry). entry.0) same in
    let row : bare_row y.1 ≡ bare_row x.1 = ap (λ (entry : InstanceEntry). entry.1) same in
    let standing : option_map bare_standing y.1.standing ≡ option_map bare_standing x.1.standing = ap (λ (row : InstanceRow). row.standing) row in
    let instance : c.instance ≡ x.0 = ap (λ (entry : ContextEntry). entry.instance) is ∙ id in
    let context : c.context ≡ standing_context y.1.standing = ap (λ (entry : ContextEntry). entry.context) is in (
      (λ i. bytes_eq (instance i) x.0 && (is_some x.1.standing || (length c.context == 0))) ∙ (λ i. text_itself x.0 i && empty_or_some c.context x.1.standing y.1.standing standing context i),
      λ i. (sym id i, record { standing = standing_back c.context x.1.standing y.1.standing standing context i; busy = (sym row i).busy; last_number = (sym row i).last_number }),
    )

-- ---- what the passes give

abbrev pub orders_pass : List ContextEntry → List Entry → Option (List Entry)
orders_pass = pass is_of_order fits_order order_joins

abbrev pub rows_pass : List ContextEntry → List InstanceEntry → Option (List InstanceEntry)
rows_pass = pass is_of_standing fits_row row_joins

not_both : {X : Type 0} {o : Option X} {x : X} → o ≡ None → o ≡ Some x → ⊥
not_both none some = let both : None ≡ Some _ = sym none ∙ some in cc

pub orders_given : (contexts : List ContextEntry) (orders joined : List Entry) → orders_pass contexts orders ≡ Some joined → AreOrdersWith contexts orders joined
orders_given contexts orders joined is =
    let given = pass_gives is_of_order fits_order order_joins bare_entry context_of_entry order_joined order_only contexts orders joined is in
    record { same = given.0; contexts_are = given.1 }

orders_found : (contexts : List ContextEntry) (orders joined : List Entry) → AreOrdersWith contexts orders joined → orders_pass contexts orders ≡ Some joined
orders_found contexts orders joined h = pass_finds is_of_order fits_order order_joins bare_entry context_of_entry order_joined order_only contexts orders joined (h.same, h.contexts_are)

pub no_orders : (contexts : List ContextEntry) (orders : List Entry) → orders_pass contexts orders ≡ None → (joined : List Entry) → AreOrdersWith contexts orders joined → ⊥
no_orders contexts orders none joined h = not_both none (orders_found contexts orders joined h)

pub rows_given : (contexts : List ContextEntry) (rows joined : List InstanceEntry) → rows_pass contexts rows ≡ Some joined → AreRowsWith contexts rows joined
rows_given contexts rows joined is =
    let given = pass_gives is_of_standing fits_row row_joins bare_instance_entry context_of_row row_joined row_only contexts rows joined is in
    record { same = given.0; contexts_are = given.1 }

rows_found : (contexts : List ContextEntry) (rows joined : List InstanceEntry) → AreRowsWith contexts rows joined → rows_pass contexts rows ≡ Some joined
rows_found contexts rows joined h = pass_finds is_of_standing fits_row row_joins bare_instance_entry context_of_row row_joined row_only contexts rows joined (h.same, h.contexts_are)

pub no_rows : (contexts : List ContextEntry) (rows : List InstanceEntry) → rows_pass contexts rows ≡ None → (joined : List InstanceEntry) → AreRowsWith contexts rows joined → ⊥
no_rows contexts rows none joined h = not_both none (rows_found contexts rows joined h)

pub orders_once : (contexts : List ContextEntry) (orders one other : List Entry) → AreOrdersWith contexts orders one → AreOrdersWith contexts orders other → one ≡ other
orders_once contexts orders one other h k = same_Some one other (sym (orders_found contexts orders one h) ∙ orders_found contexts orders other k)

pub rows_once : (contexts : List ContextEntry) (rows one other : List InstanceEntry) → AreRowsWith contexts rows one → AreRowsWith contexts rows other → one ≡ other
rows_once contexts rows one other h k = same_Some one other (sym (rows_found contexts rows one h) ∙ rows_found contexts rows other k)

-- ---- in the loops

pub front : {X : Type 0} (items : List X) (i : ℕ) (item : X) → i < length items → item ≡ get_or items i item → drop i items ≡ item ∷ drop (i + 1) items
front items i item low is = drop_more items i item low ∙ ap (λ item. item ∷ drop (i + 1) items) (sym is)

pub back : {X : Type 0} (items : List X) (i : ℕ) → length items ≤ i → drop i items ≡ []
back items i end = drop_all i items (omega (arith, end))

pub of_order : (number : ℕ) → (number ≡ 0 → ⊥) → not (number == 0) ≡ true
of_order number other = grind (arith, nat_tests)

pub not_of_order : (number : ℕ) → number ≡ 0 → not (number == 0) ≡ false
not_of_order number is = grind (arith, nat_tests)

pub of_standing : (number : ℕ) → number ≡ 0 → (number == 0) ≡ true
of_standing number is = grind (arith, nat_tests)

pub not_of_standing : (number : ℕ) → (number ≡ 0 → ⊥) → (number == 0) ≡ false
not_of_standing number other = grind (arith, nat_tests)

pub none_left : {X : Type 0} (xs : List X) → (length xs == 0) ≡ true → xs ≡ []
none_left xs none = nil_from_length xs (number_of (length xs) 0 none)

pub first_left : {X : Type 0} (xs : List X) → (length xs == 0) ≡ false → (x : X) × (later : List X) × (xs ≡ x ∷ later)
first_left [] some = cc
first_left (x ∷ later) some = (x, later, refl)

-- ---- contexts that rise

pub contexts_rising : (xs : List ContextEntry) (answer : Bool) → IsAllAdjacentAnswer (λ x y b. b ≡ is_lt (context_cmp x y)) xs answer → (answer ≡ true) ↔ AreRising xs
contexts_rising xs answer h = let sorted = rising context_total xs answer h in (λ yes. ascending context_cmp xs (sorted.0 yes), λ up. sorted.1 (sorted_by context_cmp xs up))
