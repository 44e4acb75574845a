-- The map of the program and the map of lives.
use Rattle.std.proofs.Common.{◌≡◌, ℕ, Bool, true, false, cond, List, [], ◌∷◌, length, map, Option, Some, refl, sym, ◌∙◌, ap, subst, arith}
use Rattle.std.specs.Prelude.{unwrap_or, option_map}
use Rattle.std.specs.List.{AllByRecursion}
use Rattle.std.specs.List.Sorted.{IsStrictlySortedBy}
use Rattle.std.specs.Map.{lookup, keys_of}
use Rattle.std.specs.BTreeMap.{BTreeMap, insert_entry, is_at}
use Rattle.std.specs.Global.{Vec}
use Rattle.std.specs.declared.cmp.Ordering.{Ordering}
use Rattle.std.specs.declared.cmp.Ordering.TheVariants.{Less, Equal, Greater}
use Rattle.std.specs.Ordering.{nat_cmp, eq_by_cmp, match_ordering}
use Rattle.std.specs.Cmp.Lexicographic.{slice_cmp, nat_list_cmp_total}
use Rattle.std.specs.FinMap.{empty, len-entries, len-empty, insert, entries, from_entries, find, put, get-insert, get-from_entries, entries-insert, same_map, slice_cmp-IsAntisymmetric, nat_cmp-IsAntisymmetric}
use Rattle.std.specs.FinMap.Entries.{by_order, find-put}
use Rattle.osb_orders.specs.declared.order.Order.{Order}
use Rattle.osb_orders.specs.Life.{Life}
use Rattle.osb_orders.specs.Lives.{life_of}
use Rattle.osb_orders.specs.Plain.{life_in, held_in}

abbrev Kept : Type 0
Kept = List (List ℕ × Vec Order)

abbrev orders_of : Option (Vec Order) → Life
orders_of found = unwrap_or (option_map (λ life. life.items) found) []

same_answer : (b : Bool) (life : Vec Order) (found : Option Life) (rest : Option (Vec Order)) → found ≡ option_map (λ life. life.items) rest → cond b (Some life.items) found ≡ option_map (λ life. life.items) (cond b (Some life) rest)
same_answer true life found rest e = refl
same_answer false life found rest e = e

found_in : (q : List ℕ) (es : Kept) → find (slice_cmp nat_cmp) q (map life_in es) ≡ option_map (λ life. life.items) (lookup (is_at (slice_cmp nat_cmp q)) es)
found_in q [] = refl
found_in q (e ∷ es) = same_answer (eq_by_cmp (slice_cmp nat_cmp) q e.0) e.1 _ _ (found_in q es)

-- the life of an id is what the map has there
pub life_of_kept : (kept : BTreeMap (List ℕ) (Vec Order)) (q : List ℕ) → life_of (held_in kept) q ≡ orders_of (lookup (is_at (slice_cmp nat_cmp q)) kept.entries)
life_of_kept kept q = ap (λ found. unwrap_or found []) (get-from_entries nat_list_cmp_total (map life_in kept.entries) q ∙ found_in q kept.entries)

put_by : (o : Ordering) (k : List ℕ) (v : Vec Order) (e : List ℕ × Vec Order) (es rest : Kept) (more : List (List ℕ × Life)) → map life_in rest ≡ more → map life_in (match_ordering o ((k, v) ∷ e ∷ es) ((e.0, v) ∷ es) (e ∷ rest)) ≡ by_order o ((k, v.items) ∷ life_in e ∷ map life_in es) ((e.0, v.items) ∷ map life_in es) (life_in e ∷ more)
put_by Less k v e es rest more h = refl
put_by Equal k v e es rest more h = refl
put_by Greater k v e es rest more h = ap (λ x. life_in e ∷ x) h

put_in : (k : List ℕ) (v : Vec Order) (es : Kept) → map life_in (insert_entry (slice_cmp nat_cmp) es k v) ≡ put (slice_cmp nat_cmp) k v.items (map life_in es)
put_in k v [] = refl
put_in k v (e ∷ es) = put_by (slice_cmp nat_cmp k e.0) k v e es (insert_entry (slice_cmp nat_cmp) es k v) _ (put_in k v es)

inserted : (k : List ℕ) (life : Life) (es : List (List ℕ × Life)) → from_entries {R = slice_cmp nat_cmp} (put (slice_cmp nat_cmp) k life es) ≡ insert (from_entries es) k life
inserted k life es = same_map nat_list_cmp_total (slice_cmp-IsAntisymmetric nat_cmp-IsAntisymmetric) _ _ (λ q.
    get-from_entries nat_list_cmp_total (put (slice_cmp nat_cmp) k life es) q
    ∙ find-put (slice_cmp nat_cmp) nat_list_cmp_total q k life es
    ∙ sym (get-insert nat_list_cmp_total (from_entries es) k life q ∙ ap (λ found. cond (eq_by_cmp (slice_cmp nat_cmp) q k) (Some life) found) (get-from_entries nat_list_cmp_total es q)))

-- to keep a life at an id is to insert it
pub kept_insert : (old new : BTreeMap (List ℕ) (Vec Order)) (k : List ℕ) (v : Vec Order) → new.entries ≡ insert_entry (slice_cmp nat_cmp) old.entries k v → held_in new ≡ insert (held_in old) k v.items
kept_insert old new k v e = ap (λ es. from_entries (map life_in es)) e ∙ ap from_entries (put_in k v old.entries) ∙ inserted k v.items (map life_in old.entries)

pub kept_same : (old new : BTreeMap (List ℕ) (Vec Order)) → new.entries ≡ old.entries → held_in new ≡ held_in old
kept_same old new e = ap (λ es. from_entries (map life_in es)) e

put_first : (e : List ℕ × Life) (es : List (List ℕ × Life)) → AllByRecursion (λ k. slice_cmp nat_cmp e.0 k ≡ Less) (keys_of es) → put (slice_cmp nat_cmp) e.0 e.1 es ≡ e ∷ es
put_first e [] h = refl
put_first e (f ∷ es) h = ap (λ o. by_order o (e ∷ f ∷ es) ((f.0, e.1) ∷ es) (f ∷ put (slice_cmp nat_cmp) e.0 e.1 es)) h.0

no_items : {A : Type 0} (items : List A) → length items ≡ 0 → items ≡ []
no_items [] e = refl
no_items (item ∷ items) e = absurd (omega arith)

no_entries : entries (empty {X = Life} {R = slice_cmp nat_cmp}) ≡ []
no_entries = no_items _ (sym (len-entries empty) ∙ len-empty (slice_cmp nat_cmp) Life)

entries_of_sorted : (es : List (List ℕ × Life)) → IsStrictlySortedBy (slice_cmp nat_cmp) (keys_of es) → entries (from_entries {R = slice_cmp nat_cmp} es) ≡ es
unfolding IsStrictlySortedBy
entries_of_sorted [] h = no_entries
entries_of_sorted (e ∷ es) h = entries-insert nat_list_cmp_total (from_entries es) e.0 e.1 ∙ ap (put (slice_cmp nat_cmp) e.0 e.1) (entries_of_sorted es h.1) ∙ put_first e es h.0

keys_in : (es : Kept) → keys_of (map life_in es) ≡ keys_of es
keys_in [] = refl
keys_in (e ∷ es) = ap (λ ks. e.0 ∷ ks) (keys_in es)

-- the entries of the lives are those of the map, in its order
pub kept_entries : (kept : BTreeMap (List ℕ) (Vec Order)) → IsStrictlySortedBy (slice_cmp nat_cmp) (keys_of kept.entries) → entries (held_in kept) ≡ map life_in kept.entries
kept_entries kept h = entries_of_sorted (map life_in kept.entries) (subst (IsStrictlySortedBy (slice_cmp nat_cmp)) (sym (keys_in kept.entries)) h)
