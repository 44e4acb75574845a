-- The bare lives of all instances.
use Rattle.std.proofs.Common.{◌≡◌, ℕ, Bool, cond, ◌&&◌, T, List, [], ◌∷◌, map, Option, None, Some, option_map, refl, sym, ◌∙◌, ap, subst}
use Rattle.std.specs.Prelude.{unwrap_or, IfSome}
use Rattle.std.specs.declared.cmp.Ordering.{Ordering}
use Rattle.std.specs.Ordering.{nat_cmp, is_lt, eq_by_cmp}
use Rattle.std.specs.Cmp.Lexicographic.{slice_cmp, nat_list_cmp_total}
use Rattle.std.specs.FinMap.{empty, get, get-empty, get-entries, get-from_sorted, get-insert, insert, entries, entries_sorted, entries-from_sorted, same_map, slice_cmp-IsAntisymmetric, nat_cmp-IsAntisymmetric}
use Rattle.std.specs.FinMap.Entries.{find, below_all, is_sorted}
use Rattle.osb_orders.specs.declared.order.Change.{Change}
use Rattle.osb_orders.specs.declared.order.Change.TheVariants.{Nothing, Append, Finish}
use Rattle.osb_orders.specs.Life.{Life}
use Rattle.osb_orders.specs.Lives.{Lives, life_of, named_life}
use Rattle.osb_orders.specs.Changed.{changed, lives_changed}
use Rattle.osb_orders.specs.IsLife.{IsInstance, IsLives}
use Rattle.osb_audit.specs.Orders.{Entry, lives_in}
use Rattle.osb_bare.specs.Bare.{bare_order, bare_life, bare_instance, bare_lives, bare_change, bare_entry}
use Rattle.osb_bare.proofs.ListLemmas.{cond-some}
use Rattle.osb_bare.proofs.LifeLemmas.{changed-bare}
use Rattle.osb_bare.proofs.WordLemmas.{instance-bare}

abbrev by_bytes : List ℕ → List ℕ → Ordering
by_bytes = slice_cmp nat_cmp

-- ---- entry by entry: the keys stay

below-bare : (id : List ℕ) (es : List (List ℕ × Life)) → below_all by_bytes id (map bare_instance es) ≡ below_all by_bytes id es
below-bare id [] = refl
below-bare id (e ∷ es) = ap (λ b. is_lt (by_bytes id e.0) && b) (below-bare id es)

sorted-bare : (es : List (List ℕ × Life)) → is_sorted by_bytes (map bare_instance es) ≡ is_sorted by_bytes es
sorted-bare [] = refl
sorted-bare (e ∷ es) = λ i. below-bare e.0 es i && sorted-bare es i

bare_sorted : (lives : Lives) → T (is_sorted by_bytes (map bare_instance (entries lives)))
bare_sorted lives = subst T (sym (sorted-bare (entries lives))) (entries_sorted lives)

found-bare : (id : List ℕ) (es : List (List ℕ × Life)) → find by_bytes id (map bare_instance es) ≡ option_map bare_life (find by_bytes id es)
found-bare id [] = refl
found-bare id (e ∷ es) =
    let here : Bool = eq_by_cmp by_bytes id e.0 in
    ap (cond here (Some (bare_life e.1))) (found-bare id es) ∙ cond-some bare_life here e.1 (find by_bytes id es)

pub entries-bare : (lives : Lives) → entries (bare_lives lives) ≡ map bare_instance (entries lives)
entries-bare lives = entries-from_sorted by_bytes (map bare_instance (entries lives)) (bare_sorted lives)

-- ---- look-ups

pub get-bare : (lives : Lives) (id : List ℕ) → get (bare_lives lives) id ≡ option_map bare_life (get lives id)
get-bare lives id =
    get-from_sorted by_bytes (map bare_instance (entries lives)) id (bare_sorted lives)
    ∙ found-bare id (entries lives)
    ∙ ap (option_map bare_life) (sym (get-entries lives id))

life_found : (found : Option Life) → unwrap_or (option_map bare_life found) [] ≡ bare_life (unwrap_or found [])
life_found None = refl
life_found (Some life) = refl

pub life_of-bare : (lives : Lives) (id : List ℕ) → life_of (bare_lives lives) id ≡ bare_life (life_of lives id)
life_of-bare lives id = ap (λ found. unwrap_or found []) (get-bare lives id) ∙ life_found (get lives id)

pub named_life-bare : (lives : Lives) (id : Option (List ℕ)) → named_life (bare_lives lives) id ≡ bare_life (named_life lives id)
named_life-bare lives None = refl
named_life-bare lives (Some id) = life_of-bare lives id

-- two maps of lives in which each look-up finds the same
same_lives : (one other : Lives) → ((id : List ℕ) → get one id ≡ get other id) → one ≡ other
same_lives one other same = same_map nat_list_cmp_total (slice_cmp-IsAntisymmetric nat_cmp-IsAntisymmetric) one other same

-- ---- well-formed lives

pub is_lives-bare : (lives : Lives) → IsLives lives → IsLives (bare_lives lives)
is_lives-bare lives h = λ id. subst (λ (found : Option Life). IfSome found (IsInstance id)) (sym (get-bare lives id)) (instance-bare id (get lives id) (h id))

-- ---- one life more

pub insert-bare : (lives : Lives) (id : List ℕ) (life : Life) → insert (bare_lives lives) id (bare_life life) ≡ bare_lives (insert lives id life)
insert-bare lives id life = same_lives (insert (bare_lives lives) id (bare_life life)) (bare_lives (insert lives id life)) (λ q.
    let here : Bool = eq_by_cmp by_bytes q id in
    get-insert nat_list_cmp_total (bare_lives lives) id (bare_life life) q
    ∙ ap (cond here (Some (bare_life life))) (get-bare lives q)
    ∙ cond-some bare_life here life (get lives q)
    ∙ ap (option_map bare_life) (sym (get-insert nat_list_cmp_total lives id life q))
    ∙ sym (get-bare (insert lives id life) q))

inserted-bare : (change : Change) (id : List ℕ) (lives : Lives) → insert (bare_lives lives) id (changed (bare_change change) (life_of (bare_lives lives) id)) ≡ bare_lives (insert lives id (changed change (life_of lives id)))
inserted-bare change id lives =
    ap (insert (bare_lives lives) id) (ap (changed (bare_change change)) (life_of-bare lives id) ∙ changed-bare change (life_of lives id)) ∙ insert-bare lives id (changed change (life_of lives id))

pub lives_changed-bare : (change : Change) (id : List ℕ) (lives : Lives) → lives_changed (bare_change change) id (bare_lives lives) ≡ bare_lives (lives_changed change id lives)
lives_changed-bare Nothing id lives = refl
lives_changed-bare (Append order) id lives = inserted-bare (Append order) id lives
lives_changed-bare (Finish number outcome) id lives = inserted-bare (Finish number outcome) id lives

empty-bare : empty ≡ bare_lives empty
empty-bare = same_lives empty (bare_lives empty) (λ id. get-empty by_bytes id ∙ ap (option_map bare_life) (sym (get-empty by_bytes id)) ∙ sym (get-bare empty id))

pub lives_in-bare : (es : List Entry) → lives_in (map bare_entry es) ≡ bare_lives (lives_in es)
lives_in-bare [] = empty-bare
lives_in-bare (e ∷ es) =
    ap (λ (lives : Lives). insert lives e.0 (bare_order e.1 ∷ life_of lives e.0)) (lives_in-bare es)
    ∙ ap (λ (life : Life). insert (bare_lives (lives_in es)) e.0 (bare_order e.1 ∷ life)) (life_of-bare (lives_in es) e.0)
    ∙ insert-bare (lives_in es) e.0 (e.1 ∷ life_of (lives_in es) e.0)
