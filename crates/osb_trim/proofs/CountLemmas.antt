-- How many orders trimming changes.
use Rattle.std.proofs.Common.{◌≡◌, ℕ, zero, suc, ◌+◌, ◌≤◌, Bool, true, false, cond, ◌&&◌, List, [], ◌∷◌, map, length, take, drop, drop_of_length-le, refl, sym, ◌∙◌, ap, ap₂, arith}
use Rattle.std.specs.Prelude.{bytes_eq}
use Rattle.std.specs.Cmp.Lexicographic.{nat_list_eq_equiv}
use Rattle.std.proofs.lemmas.Slice.Eq.{bytes_eq-Decides}
use Rattle.osb_orders.specs.declared.order.Attributes.{Attributes}
use Rattle.osb_orders.specs.declared.order.Order.{Order}
use Rattle.osb_orders.specs.Life.{Life}
use Rattle.osb_machine.specs.Same.{are_same}
use Rattle.osb_trim.specs.Trimmed.{erased, trimmed, is_erased, changed_count, trimmed_count}
use Rattle.osb_trim.proofs.LifeLemmas.{deletes}
use Rattle.osb_trim.proofs.TrimLemmas.{erased_up_to}

-- how many of the orders would be changed if all were erased
abbrev pub left_count : Life → ℕ
left_count life = changed_count life (map erased life)

same_texts : (text : List ℕ) → bytes_eq text text ≡ true
same_texts text = nat_list_eq_equiv.refl text

same_attributes : (attributes : Attributes) → are_same attributes attributes ≡ true
same_attributes a =
    λ i. same_texts a.service i && same_texts a.plan i && same_texts a.place i && same_texts a.spot i && same_texts a.parameters i && same_texts a.maintenance i && same_texts a.context i

none_changed : (life : Life) → changed_count life life ≡ 0
none_changed [] = refl
none_changed (order ∷ life) = ap₂ (λ same n. cond same 0 1 + n) (same_attributes order.attributes) (none_changed life)

count_up_to : (n : ℕ) (life : Life) → changed_count life (erased_up_to n life) ≡ left_count (take n life)
count_up_to zero life = none_changed life
count_up_to (suc n) [] = refl
count_up_to (suc n) (order ∷ life) = ap (λ more. cond (is_erased order) 0 1 + more) (count_up_to n life)

-- once all of the first orders were looked at
pub counted : (n count place : ℕ) (life : Life) → trimmed life ≡ erased_up_to n life → count + left_count (drop place (take n life)) ≡ left_count (take n life) → length (take n life) ≤ place → count ≡ trimmed_count life
counted n count place life parts so_far past =
    let none : left_count (drop place (take n life)) ≡ 0 = ap left_count (drop_of_length-le (take n life) past) in
    let all : count ≡ left_count (take n life) = omega (arith, so_far, none) in
    all ∙ sym (count_up_to n life) ∙ ap (changed_count life) (sym parts)

-- ---- none counts where nothing changes

pub none_counts : (life : Life) → trimmed life ≡ life → trimmed_count life ≡ 0
none_counts life same = ap (changed_count life) same ∙ none_changed life

both : (one other : Bool) → (one && other) ≡ true → (one ≡ true) × (other ≡ true)
both true other e = (refl, e)
both false other e = cc

same_text : (one other : List ℕ) → bytes_eq one other ≡ true → one ≡ other
same_text one other e = (bytes_eq-Decides one other).0 e

are_one : (one other : Attributes) → are_same one other ≡ true → one ≡ other
are_one one other e =
    let f = both _ (bytes_eq one.context other.context) e in
    let m = both _ (bytes_eq one.maintenance other.maintenance) f.0 in
    let p = both _ (bytes_eq one.parameters other.parameters) m.0 in
    let t = both _ (bytes_eq one.spot other.spot) p.0 in
    let o = both _ (bytes_eq one.place other.place) t.0 in
    let s = both (bytes_eq one.service other.service) (bytes_eq one.plan other.plan) o.0 in
    λ i. record {
      service = same_text one.service other.service s.0 i;
      plan = same_text one.plan other.plan s.1 i;
      place = same_text one.place other.place o.1 i;
      spot = same_text one.spot other.spot t.1 i;
      parameters = same_text one.parameters other.parameters p.1 i;
      maintenance = same_text one.maintenance other.maintenance m.1 i;
      context = same_text one.context other.context f.1 i;
    }

unchanged_order : (gone : Bool) (order : Order) → are_same order.attributes (cond gone (erased order) order).attributes ≡ true → cond gone (erased order) order ≡ order
unchanged_order false order same = refl
unchanged_order true order same = ap (λ (a : Attributes). record order { attributes = a }) (sym (are_one order.attributes (erased order).attributes same))

none_of : (same : Bool) (n : ℕ) → cond same 0 1 + n ≡ 0 → (same ≡ true) × (n ≡ 0)
none_of true n e = (refl, omega (arith, e))
none_of false n e = absurd (omega (arith, e))

pub unchanged : (life : Life) → trimmed_count life ≡ 0 → trimmed life ≡ life
unchanged [] e = refl
unchanged (order ∷ life) e =
    let gone : Bool = deletes (order ∷ life) in
    let none = none_of (are_same order.attributes (cond gone (erased order) order).attributes) (trimmed_count life) e in
    λ i. unchanged_order gone order none.0 i ∷ unchanged life none.1 i
