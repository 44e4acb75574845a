-- What the rows tell, and the view that they give.
use Rattle.std.proofs.Common.{◌≡◌, ℕ, true, false, not, ◌||◌, List, [], ◌∷◌, length, length-append, Option, None, Some, refl, sym, ◌∙◌, ap, arith}
use Rattle.std.specs.List.{list_any}
use Rattle.std.specs.Prelude.{is_some, IfSome, unwrap_or, option_and_then}
use Rattle.std.specs.Ordering.{nat_cmp}
use Rattle.std.specs.declared.cmp.Ordering.{Ordering}
use Rattle.std.specs.declared.cmp.Ordering.TheVariants.{Less, Equal, Greater}
use Rattle.std.specs.Cmp.Lexicographic.{slice_cmp, nat_list_cmp_total}
use Rattle.std.specs.FinMap.{empty, get, entries, entries-insert, len-entries, len-empty}
use Rattle.std.specs.FinMap.Entries.{put, by_order}
use Rattle.osb_asks.specs.declared.ask.Ask.{Ask}
use Rattle.osb_asks.specs.declared.ask.Ask.TheVariants as the
use Rattle.osb_orders.specs.declared.order.Order.{Order}
use Rattle.osb_orders.specs.declared.view.BindingNow.{BindingNow}
use Rattle.osb_orders.specs.declared.view.Standing.{Standing}
use Rattle.osb_orders.specs.Lists.{last_of}
use Rattle.osb_orders.specs.Life.{Life, standing_of}
use Rattle.osb_orders.specs.Bindings.{binding_of}
use Rattle.osb_orders.specs.Lives.{Lives, named_life}
use Rattle.osb_asks.specs.Subjects.{instance_id_of, binding_id_of}
use Rattle.osb_orders.specs.Listing.{listing_for}
use Rattle.osb_orders.specs.ViewData.{ViewData, view_of}
use Rattle.osb_orders.specs.IsLife.{is_empty, IsLife, IsInstance, IsLives}
use Rattle.osb_standing.specs.declared.read.Read.{Read}
use Rattle.osb_standing.specs.Rows.{row_of, standing_in, Bindings, with_binding, bindings_named, bindings_of}
use Rattle.osb_standing.specs.Laws.{count_in, has_rows, CountIsTheLastNumber, BindingsRemain}
use Rattle.osb_standing.specs.Read.{IsReadFor}
use Rattle.osb_orders.proofs.GrowLemmas.{last_of-push, EndsWith, ends}
use Rattle.osb_standing.proofs.RowLemmas.{standing_is, bindings_are}

-- The last number is the count

number_of : Option Order → ℕ
number_of None = 0
number_of (Some o) = o.number

count_is_number : (life : Life) → count_in (row_of life) ≡ number_of (last_of life)
unfolding number_of
count_is_number [] = refl
count_is_number (o ∷ os) = refl

ends_count : (life : Life) → EndsWith life → number_of (last_of life) ≡ length life
unfolding number_of
ends_count life e =
    ap (λ (l : Life). number_of (last_of l)) e.parts ∙ ap number_of (last_of-push e.front e.order) ∙ e.next.number ∙ sym (length-append e.front (e.order ∷ [])) ∙ sym (ap length e.parts)

pub count_is : CountIsTheLastNumber
unfolding number_of
count_is [] h = refl
count_is (o ∷ later) h = count_is_number (o ∷ later) ∙ ends_count (o ∷ later) (ends [] later o h.orders)

-- A binding remains exactly where one has a row

put_not_empty : (k : List ℕ) (v : BindingNow) (es : List (List ℕ × BindingNow)) → not (is_empty (put (slice_cmp nat_cmp) k v es)) ≡ true
put_not_empty k v [] = refl
put_not_empty k v (e ∷ es) = by (slice_cmp nat_cmp k e.0)
  where
    by : (o : Ordering) → not (is_empty (by_order o ((k, v) ∷ e ∷ es) ((e.0, v) ∷ es) (e ∷ put (slice_cmp nat_cmp) k v es))) ≡ true
    by Less = refl
    by Equal = refl
    by Greater = refl

put_shows : (at : List ℕ) (row : Option BindingNow) (rows : Bindings) → has_rows (with_binding at row rows) ≡ (is_some row || has_rows rows)
put_shows at None rows = refl
put_shows at (Some row) rows = ap (λ es. not (is_empty es)) (entries-insert nat_list_cmp_total rows at row) ∙ put_not_empty at row (entries rows)

none_left : {A : Type 0} (es : List A) → length es ≡ 0 → not (is_empty es) ≡ false
none_left [] e = refl
none_left (x ∷ xs) e = absurd (omega arith)

empty_shows : has_rows empty ≡ false
empty_shows = none_left (entries empty) (sym (len-entries empty) ∙ len-empty (slice_cmp nat_cmp) BindingNow)

named_show : (life orders : Life) → has_rows (bindings_named life orders) ≡ list_any (λ o. is_some (binding_of o.binding life)) orders
named_show life [] = empty_shows
named_show life (o ∷ os) = put_shows o.binding (binding_of o.binding life) (bindings_named life os) ∙ ap (λ b. is_some (binding_of o.binding life) || b) (named_show life os)

pub bound_is : BindingsRemain
bound_is life = named_show life life

-- The view

binding_is : (life : Life) (id : Option (List ℕ)) → option_and_then (λ id. get (bindings_of life) id) id ≡ option_and_then (λ id. binding_of id life) id
binding_is life None = refl
binding_is life (Some id) = bindings_are life id

no_life : IsLife []
no_life = record { count = omega arith; orders = tt; texts = tt }

pub life_found : (id : List ℕ) (found : Option Life) → IfSome found (IsInstance id) → IsLife (unwrap_or found [])
life_found id None h = no_life
life_found id (Some life) h = h.life

named_is_life : (lives : Lives) (at : Option (List ℕ)) → IsLives lives → IsLife (named_life lives at)
named_is_life lives None h = no_life
named_is_life lives (Some id) h = life_found id (get lives id) (h id)

pub view_is : (lives : Lives) (ask : Ask) (read : Read) (standing : Option Standing) (count : ℕ) (found : ViewData) →
    found ≡ record { standing = standing; last = read.last; binding = read.binding; named = read.named; subject_last = read.subject_last; count = count; bound = read.bound; listing = read.listing.items } →
    standing ≡ standing_in read.row → count ≡ count_in read.row → IsLives lives → IsReadFor lives ask read → found ≡ view_of lives ask
view_is lives ask read standing count found is stands counts h r =
    let life : Life = named_life lives (instance_id_of ask) in
    let standing_now : standing ≡ standing_of life = stands ∙ ap standing_in r.row ∙ standing_is life in
    let count_now : count ≡ length life = counts ∙ ap count_in r.row ∙ count_is life (named_is_life lives (instance_id_of ask) h) in
    let bound_now = r.bound ∙ bound_is life in
    let binding_now : read.binding ≡ option_and_then (λ id. binding_of id life) (binding_id_of ask) = r.binding ∙ binding_is life (binding_id_of ask) in
    is ∙ (λ i. record { standing = standing_now i; last = r.last i; binding = binding_now i; named = r.named i; subject_last = r.subject_last i; count = count_now i; bound = bound_now i; listing = r.listed i })
