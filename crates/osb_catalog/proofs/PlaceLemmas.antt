-- The places of ids in a list, and what stands there.
use Rattle.std.proofs.Common.{◌≡◌, ℕ, ◌+◌, ◌<◌, ◌≤◌, List, [], ◌∷◌, ◌++◌, length, drop, Bool, true, false, cond, Option, Some, None, refl, sym, ap, ◌∙◌, arith, map, bytes_eq, append_assoc, length-append, string_bytes, String, Bor, Global, IfSome, MatchOption, slice_index_or}
use Rattle.std.specs.Prelude.{option_and_then, option_map}
use Rattle.std.specs.List.{find, slice_get, HoldsAt}
use Rattle.std.proofs.lemmas.Option.{slice_get_past, slice_get_read}
use Rattle.std.specs.String.{string_cmp}
use Rattle.std.specs.BTreeMap.{BTreeMap, Updates, get_by_text}
use Rattle.std.proofs.lemmas.Map.Text.{btree_map_updates_text}
use Rattle.osb_catalog.specs.IdSet.{texts}
use Rattle.osb_catalog.specs.declared.id_positions.IdPositions.{IdPositions}
use Rattle.osb_catalog.specs.IdPositions.{id_position_from, AreIdPositionsOf}
use Rattle.osb_catalog.proofs.IdLemmas.{id_at, texts_drop}

-- the places from one place earlier on
pub place_before : (ids : List (Bor (List ℕ))) (place next : ℕ) (old new : BTreeMap (String Global) ℕ) (key : String Global) → place + 1 ≡ next → next ≤ length ids → string_bytes key ≡ (id_at ids place).now → Updates string_cmp old new key (Some place) → ((id : List ℕ) → get_by_text old id ≡ id_position_from next (texts (drop next ids)) id) → (id : List ℕ) → get_by_text new id ≡ id_position_from place (texts (drop place ids)) id
place_before ids place next old new key is inside same updates known id =
    btree_map_updates_text (string_bytes key) old new (Some place) updates id
    ∙ ap (λ bytes. cond (bytes_eq bytes id) (Some place) (get_by_text old id)) same
    ∙ ap (λ later. cond (bytes_eq (id_at ids place).now id) (Some place) later) (known id ∙ ap (λ n. id_position_from n (texts (drop n ids)) id) (sym is))
    ∙ ap (λ rest. id_position_from place rest id) (sym (texts_drop ids place (omega arith)))

get_middle : {X : Type 0} (before : List X) (x : X) (after : List X) → slice_get (before ++ x ∷ after) (length before) ≡ Some x
get_middle [] x after = refl
get_middle (y ∷ before) x after = get_middle before x after

found_here : {X : Type 0} (b : Bool) (x : X) (n : ℕ) (all : List X) (later : Option X) (place : Option ℕ) → slice_get all n ≡ Some x → later ≡ option_and_then (slice_get all) place → cond b (Some x) later ≡ option_and_then (slice_get all) (cond b (Some n) place)
found_here true x n all later place here there = sym here
found_here false x n all later place here there = there

found_from : {X : Type 0} (key : X → List ℕ) (id : List ℕ) (before xs : List X) (n : ℕ) → n ≡ length before → find (λ x. bytes_eq (key x) id) xs ≡ option_and_then (slice_get (before ++ xs)) (id_position_from n (map key xs) id)
found_from key id before [] n is = refl
found_from key id before (x ∷ xs) n is =
    found_here (bytes_eq (key x) id) x n (before ++ x ∷ xs) (find (λ y. bytes_eq (key y) id) xs) (id_position_from (n + 1) (map key xs) id)
    (ap (slice_get (before ++ x ∷ xs)) is ∙ get_middle before x xs)
    (found_from key id (before ++ x ∷ []) xs (n + 1) (ap (λ m. m + 1) is ∙ sym (length-append before (x ∷ [])))
    ∙ ap (λ all. option_and_then (slice_get all) (id_position_from (n + 1) (map key xs) id)) (append_assoc before (x ∷ []) xs))

-- what a look-up by the id finds stands at the id's place
pub found_at_place : {X : Type 0} (key : X → List ℕ) (id : List ℕ) (xs : List X) → find (λ x. bytes_eq (key x) id) xs ≡ option_and_then (slice_get xs) (id_position_from 0 (map key xs) id)
found_at_place key id xs = found_from key id [] xs 0 refl

-- what stands at a place of a slice, as `get` tells it
pub item_at : {X : Type 0} (xs : List X) (place : ℕ) (got : Option (Bor X)) → MatchOption got (length xs ≤ place) (λ x. (place < length xs) × HoldsAt (λ y. x.now ≡ y) xs place) → IfSome got (λ x. x.now ≡ slice_index_or xs place x.now) → option_map (λ (x : Bor X). x.now) got ≡ slice_get xs place
item_at xs place None past same = sym (slice_get_past xs place past)
item_at xs place (Some x) inside same = sym (slice_get_read xs (length xs) place x.now refl inside.0 same)

pub looked_up : {X : Type 0} (key : X → List ℕ) (id : List ℕ) (xs : List X) (place : Option ℕ) → place ≡ id_position_from 0 (map key xs) id → option_and_then (slice_get xs) place ≡ find (λ x. bytes_eq (key x) id) xs
looked_up key id xs place is = ap (option_and_then (slice_get xs)) is ∙ sym (found_at_place key id xs)

-- places of ids are places of the ids of what was read
pub places_of : {X : Type 0} (key : X → List ℕ) (places : IdPositions) (ids : List (List ℕ)) (xs : List X) → AreIdPositionsOf places ids → ids ≡ map key xs → AreIdPositionsOf places (map key xs)
places_of key places ids xs are same = λ id. are id ∙ ap (λ y. id_position_from 0 y id) same
