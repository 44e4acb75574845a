-- The trimmed lives of all instances.
use Rattle.std.proofs.Common.{◌≡◌, ℕ, Bool, cond, ◌&&◌, T, List, [], ◌∷◌, map, Option, None, Some, refl, sym, ◌∙◌, ap, subst}
use Rattle.std.specs.Prelude.{unwrap_or, option_map, IfSome}
use Rattle.std.specs.declared.cmp.Ordering.{Ordering}
use Rattle.std.specs.Ordering.{nat_cmp, is_lt, eq_by_cmp}
use Rattle.std.specs.Cmp.Lexicographic.{slice_cmp, nat_list_cmp_total}
use Rattle.std.specs.FinMap.{get, get-entries, get-from_sorted, get-insert, insert, entries, entries_sorted, entries-from_sorted, same_map, slice_cmp-IsAntisymmetric, nat_cmp-IsAntisymmetric}
use Rattle.std.specs.FinMap.Entries.{find, below_all, is_sorted}
use Rattle.osb_orders.specs.Life.{Life}
use Rattle.osb_orders.specs.Lives.{Lives, life_of, named_life}
use Rattle.osb_orders.specs.IsLife.{IsInstance, IsLives}
use Rattle.osb_bare.proofs.ListLemmas.{cond-some}
use Rattle.osb_trim.specs.Trimmed.{trimmed, trimmed_instance, trimmed_lives}
use Rattle.osb_trim.proofs.LifeLemmas.{trimmed_stays}
use Rattle.osb_trim.proofs.WholeLemmas.{instance-trimmed}

abbrev by_bytes : List ℕ → List ℕ → Ordering
by_bytes = slice_cmp nat_cmp

abbrev Instances : Type 0
Instances = List (List ℕ × Life)

-- ---- entry by entry: the ids stay

below-trimmed : (id : List ℕ) (es : Instances) → below_all by_bytes id (map trimmed_instance es) ≡ below_all by_bytes id es
below-trimmed id [] = refl
below-trimmed id (e ∷ es) = ap (λ b. is_lt (by_bytes id e.0) && b) (below-trimmed id es)

sorted-trimmed : (es : Instances) → is_sorted by_bytes (map trimmed_instance es) ≡ is_sorted by_bytes es
sorted-trimmed [] = refl
sorted-trimmed (e ∷ es) = λ i. below-trimmed e.0 es i && sorted-trimmed es i

trimmed_sorted : (lives : Lives) → T (is_sorted by_bytes (map trimmed_instance (entries lives)))
trimmed_sorted lives = subst T (sym (sorted-trimmed (entries lives))) (entries_sorted lives)

found-trimmed : (id : List ℕ) (es : Instances) → find by_bytes id (map trimmed_instance es) ≡ option_map trimmed (find by_bytes id es)
found-trimmed id [] = refl
found-trimmed id (e ∷ es) =
    let here : Bool = eq_by_cmp by_bytes id e.0 in
    ap (cond here (Some (trimmed e.1))) (found-trimmed id es) ∙ cond-some trimmed here e.1 (find by_bytes id es)

pub entries-trimmed : (lives : Lives) → entries (trimmed_lives lives) ≡ map trimmed_instance (entries lives)
entries-trimmed lives = entries-from_sorted by_bytes (map trimmed_instance (entries lives)) (trimmed_sorted lives)

-- ---- look-ups

pub get-trimmed : (lives : Lives) (id : List ℕ) → get (trimmed_lives lives) id ≡ option_map trimmed (get lives id)
get-trimmed lives id =
    get-from_sorted by_bytes (map trimmed_instance (entries lives)) id (trimmed_sorted lives)
    ∙ found-trimmed id (entries lives)
    ∙ ap (option_map trimmed) (sym (get-entries lives id))

life_found : (found : Option Life) → unwrap_or (option_map trimmed found) [] ≡ trimmed (unwrap_or found [])
life_found None = refl
life_found (Some life) = refl

pub life_of-trimmed : (lives : Lives) (id : List ℕ) → life_of (trimmed_lives lives) id ≡ trimmed (life_of lives id)
life_of-trimmed lives id = ap (λ found. unwrap_or found []) (get-trimmed lives id) ∙ life_found (get lives id)

pub named_life-trimmed : (lives : Lives) (at : Option (List ℕ)) → named_life (trimmed_lives lives) at ≡ trimmed (named_life lives at)
named_life-trimmed lives None = refl
named_life-trimmed lives (Some id) = life_of-trimmed lives id

-- two maps of lives in which each look-up finds the same
pub same_lives : (lives others : Lives) → ((id : List ℕ) → get lives id ≡ get others id) → lives ≡ others
same_lives lives others same = same_map nat_list_cmp_total (slice_cmp-IsAntisymmetric nat_cmp-IsAntisymmetric) lives others same

-- ---- well-formed, and once

pub lives_whole : (lives : Lives) → IsLives lives → IsLives (trimmed_lives lives)
lives_whole lives h id = subst (λ (found : Option Life). IfSome found (IsInstance id)) (sym (get-trimmed lives id)) (instance-trimmed id (get lives id) (h id))

again : (found : Option Life) → option_map trimmed (option_map trimmed found) ≡ option_map trimmed found
again None = refl
again (Some life) = ap Some (trimmed_stays life)

pub lives_stay : (lives : Lives) → trimmed_lives (trimmed_lives lives) ≡ trimmed_lives lives
lives_stay lives = same_lives (trimmed_lives (trimmed_lives lives)) (trimmed_lives lives) (λ id.
    get-trimmed (trimmed_lives lives) id ∙ ap (option_map trimmed) (get-trimmed lives id) ∙ again (get lives id) ∙ sym (get-trimmed lives id))

-- ---- one life more

pub insert-trimmed : (lives : Lives) (id : List ℕ) (life : Life) → trimmed_lives (insert lives id life) ≡ insert (trimmed_lives lives) id (trimmed life)
insert-trimmed lives id life = same_lives (trimmed_lives (insert lives id life)) (insert (trimmed_lives lives) id (trimmed life)) (λ at.
    let here : Bool = eq_by_cmp by_bytes at id in
    get-trimmed (insert lives id life) at
    ∙ ap (option_map trimmed) (get-insert nat_list_cmp_total lives id life at)
    ∙ sym (cond-some trimmed here life (get lives at))
    ∙ ap (cond here (Some (trimmed life))) (sym (get-trimmed lives at))
    ∙ sym (get-insert nat_list_cmp_total (trimmed_lives lives) id (trimmed life) at))
