-- What is read off the bare lives of all instances: the running orders, and the plans in use.
use Rattle.std.proofs.Common.{◌≡◌, ℕ, Bool, true, false, cond, List, [], ◌∷◌, ◌++◌, map, filter, take, flat_map, Option, None, Some, option_map, option_to_list, refl, ◌∙◌, ap}
use Rattle.std.specs.Prelude.{filter_map}
use Rattle.std.proofs.lemmas.List.{take-map}
use Rattle.std.proofs.lemmas.List.Folds.{flat_map-map}
use Rattle.std.specs.FinMap.{entries}
use Rattle.osb_orders.specs.declared.order.Order.{Order}
use Rattle.osb_orders.specs.declared.view.Standing.{Standing}
use Rattle.osb_orders.specs.Lists.{last_of}
use Rattle.osb_orders.specs.Life.{Life, standing_of}
use Rattle.osb_orders.specs.Lives.{Lives}
use Rattle.osb_orders.specs.Listing.{with_last, is_listed, listing}
use Rattle.osb_audit.specs.Plans.{Pair, pair_in, is_running_update, pairs_of, in_order, plans_in_use}
use Rattle.osb_bare.specs.Bare.{bare_order, bare_life, bare_instance, bare_lives, bare_entry, bare_standing}
use Rattle.osb_bare.proofs.ListLemmas.{filter-map, filter_map-map}
use Rattle.osb_bare.proofs.LifeLemmas.{standing_of-bare, last_of-bare}
use Rattle.osb_bare.proofs.LivesLemmas.{entries-bare}

-- ---- running orders

paired-bare : (id : List ℕ) (last : Option Order) → option_map (λ (order : Order). (id, order)) (option_map bare_order last) ≡ option_map bare_entry (option_map (λ (order : Order). (id, order)) last)
paired-bare id None = refl
paired-bare id (Some order) = refl

with_last-bare : (instance : List ℕ × Life) → with_last (bare_instance instance) ≡ option_map bare_entry (with_last instance)
with_last-bare instance = ap (option_map (λ (order : Order). (instance.0, order))) (last_of-bare instance.1) ∙ paired-bare instance.0 (last_of instance.1)

pub listing-bare : (lives : Lives) (after : List ℕ) (limit : ℕ) → listing (bare_lives lives) after limit ≡ map bare_entry (listing lives after limit)
listing-bare lives after limit =
    let lasts : List (List ℕ × Order) = filter_map with_last (entries lives) in
    ap (λ es. take limit (filter (is_listed after) (filter_map with_last es))) (entries-bare lives)
    ∙ ap (λ pairs. take limit (filter (is_listed after) pairs)) (filter_map-map bare_instance bare_entry with_last with_last with_last-bare (entries lives))
    ∙ ap (take limit) (filter-map bare_entry (is_listed after) lasts)
    ∙ take-map bare_entry limit (filter (is_listed after) lasts)

-- ---- plans

abbrev pairs_by : Option Standing → Option Order → List Pair
pairs_by standing last =
    map (λ (standing : Standing). pair_in standing.attributes) (option_to_list standing)
    ++ map (λ (order : Order). pair_in order.attributes) (filter is_running_update (option_to_list last))

updating-bare : (runs : Bool) (order : Order) → map (λ (order : Order). pair_in order.attributes) (cond runs (bare_order order ∷ []) []) ≡ map (λ (order : Order). pair_in order.attributes) (cond runs (order ∷ []) [])
updating-bare true order = refl
updating-bare false order = refl

pairs_by-bare : (standing : Option Standing) (last : Option Order) → pairs_by (option_map bare_standing standing) (option_map bare_order last) ≡ pairs_by standing last
pairs_by-bare None None = refl
pairs_by-bare (Some standing) None = refl
pairs_by-bare None (Some order) = updating-bare (is_running_update order) order
pairs_by-bare (Some standing) (Some order) = ap (λ pairs. pair_in standing.attributes ∷ pairs) (updating-bare (is_running_update order) order)

pairs_of-bare : (life : Life) → pairs_of (bare_life life) ≡ pairs_of life
pairs_of-bare life = (λ i. pairs_by (standing_of-bare life i) (last_of-bare life i)) ∙ pairs_by-bare (standing_of life) (last_of life)

pub plans_in_use-bare : (lives : Lives) → plans_in_use (bare_lives lives) ≡ plans_in_use lives
plans_in_use-bare lives =
    ap (λ es. in_order (flat_map (λ (entry : List ℕ × Life). pairs_of entry.1) es)) (entries-bare lives)
    ∙ ap in_order (flat_map-map (λ (entry : List ℕ × Life). pairs_of entry.1) bare_instance (entries lives))
    ∙ (λ i. in_order (flat_map (λ (entry : List ℕ × Life). pairs_of-bare entry.1 i) (entries lives)))
