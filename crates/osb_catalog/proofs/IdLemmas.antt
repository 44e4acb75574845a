-- Sets of ids, one id at a time.
use Rattle.std.proofs.Common.{◌≡◌, ℕ, List, [], ◌∷◌, ◌++◌, Bool, true, false, ◌||◌, cond, not, refl, sym, ap, ◌∙◌, bytes_eq, ◌+◌, ◌<◌, length, drop, drop-cons, add-one, slice_index_or, Ordering}
use Rattle.std.proofs.lemmas.List.{map-append}
use Rattle.std.proofs.lemmas.Map.Text.{is_eq-slice_cmp}
use Rattle.std.specs.Ordering.{nat_cmp}
use Rattle.std.specs.Cmp.Lexicographic.{slice_cmp, nat_list_eq_equiv}
use Rattle.std.specs.BTreeSet.{BTreeSet, Updates, contains}
use Rattle.std.specs.List.{list_any}
use Rattle.osb_catalog.specs.Ids.{is_among, has_double}
use Rattle.osb_catalog.specs.IdSet.{texts, has_id}
use denote.Ref.{Bor}

-- how the code compares two borrowed texts
abbrev text_cmp : Bor (List ℕ) → Bor (List ℕ) → Ordering
text_cmp x y = slice_cmp nat_cmp x.now y.now

-- the id at a place, where there is one
abbrev pub id_at : List (Bor (List ℕ)) → ℕ → Bor (List ℕ)
id_at ids i = slice_index_or ids i (record { ref_ptr = (0, 0); now = [] })

-- the set has one of the ids
abbrev pub has_some : BTreeSet (Bor (List ℕ)) → List (List ℕ) → Bool
has_some set ids = list_any (has_id set) ids

pub texts_push : (ids : List (Bor (List ℕ))) (id : Bor (List ℕ)) → texts (ids ++ id ∷ []) ≡ texts ids ++ id.now ∷ []
texts_push ids id = map-append (λ (x : Bor (List ℕ)). x.now) ids (id ∷ [])

or_by_cond : (a b : Bool) → cond a true b ≡ (a || b)
or_by_cond true b = refl
or_by_cond false b = refl

-- after an insertion the set has the new id, and those that it had
pub has_after_insert : (key : Bor (List ℕ)) (old new : BTreeSet (Bor (List ℕ))) → Updates text_cmp old new key true → (id : List ℕ) → has_id new id ≡ (bytes_eq key.now id || has_id old id)
has_after_insert key old new updates id =
    updates.0 (record { ref_ptr = key.ref_ptr; now = id })
    ∙ ap (λ b. cond b true (has_id old id)) (is_eq-slice_cmp key.now id)
    ∙ or_by_cond (bytes_eq key.now id) (has_id old id)

or_of_three : (a b c d : Bool) → ((a || b) || (c || d)) ≡ ((a || c) || (b || d))
or_of_three true b c d = refl
or_of_three false true true d = refl
or_of_three false true false d = refl
or_of_three false false c d = refl

some_after_insert : (old new : BTreeSet (Bor (List ℕ))) (key : List ℕ) → ((id : List ℕ) → has_id new id ≡ (bytes_eq key id || has_id old id)) → (ids : List (List ℕ)) → has_some new ids ≡ (is_among key ids || has_some old ids)
some_after_insert old new key after [] = refl
some_after_insert old new key after (id ∷ ids) =
    ap (λ b. b || has_some new ids) (after id)
    ∙ ap (λ b. (bytes_eq key id || has_id old id) || b) (some_after_insert old new key after ids)
    ∙ or_of_three (bytes_eq key id) (has_id old id) (is_among key ids) (has_some old ids)

or_with_false : (a b c d : Bool) → a ≡ false → ((b || c) || d) ≡ ((a || c) || (b || d))
or_with_false true b c d h = cc
or_with_false false true true d h = refl
or_with_false false true false d h = refl
or_with_false false false c d h = refl

-- an id that is new to the set moves from the list into it
pub double_after_insert : (old new : BTreeSet (Bor (List ℕ))) (key : List ℕ) → has_id old key ≡ false → ((id : List ℕ) → has_id new id ≡ (bytes_eq key id || has_id old id)) → (ids : List (List ℕ)) → (has_some new ids || has_double ids) ≡ (has_some old (key ∷ ids) || has_double (key ∷ ids))
double_after_insert old new key fresh after ids =
    ap (λ b. b || has_double ids) (some_after_insert old new key after ids)
    ∙ or_with_false (has_id old key) (is_among key ids) (has_some old ids) (has_double ids) fresh

or_turned : (a b c : Bool) → ((a || b) || c) ≡ (b || (a || c))
or_turned true true c = refl
or_turned true false c = refl
or_turned false b c = refl

pub among_after_insert : (old new : BTreeSet (Bor (List ℕ))) (key : List ℕ) → ((id : List ℕ) → has_id new id ≡ (bytes_eq key id || has_id old id)) → (ids : List (List ℕ)) (id : List ℕ) → (has_id new id || is_among id ids) ≡ (has_id old id || is_among id (key ∷ ids))
among_after_insert old new key after ids id =
    ap (λ b. b || is_among id ids) (after id)
    ∙ ap (λ b. (b || has_id old id) || is_among id ids) (nat_list_eq_equiv.symm key id)
    ∙ or_turned (bytes_eq id key) (has_id old id) (is_among id ids)

pub empty_has_none : (set : BTreeSet (Bor (List ℕ))) → set.keys ≡ [] → (id : List ℕ) → has_id set id ≡ false
empty_has_none set empty id = rw empty

pub empty_has_none_of : (set : BTreeSet (Bor (List ℕ))) → set.keys ≡ [] → (ids : List (List ℕ)) → has_some set ids ≡ false
empty_has_none_of set empty [] = refl
empty_has_none_of set empty (id ∷ ids) = ap (λ b. b || has_some set ids) (empty_has_none set empty id) ∙ empty_has_none_of set empty ids

-- the ids from a place on
pub texts_drop : (ids : List (Bor (List ℕ))) (i : ℕ) → i < length ids → texts (drop i ids) ≡ (id_at ids i).now ∷ texts (drop (i + 1) ids)
texts_drop ids i inside = rw (add-one, drop-cons ids i (record { ref_ptr = (0, 0); now = [] }) inside)

not_had : (added had : Bool) → added ≡ not had → added ≡ true → had ≡ false
not_had added true is new = cc
not_had added false is new = refl

pub double_at : (ids : List (Bor (List ℕ))) (i : ℕ) (old new : BTreeSet (Bor (List ℕ))) (added : Bool) → i < length ids → Updates text_cmp old new (id_at ids i) true → added ≡ not (contains text_cmp old (id_at ids i)) → added ≡ true → (has_some new (texts (drop (i + 1) ids)) || has_double (texts (drop (i + 1) ids))) ≡ (has_some old (texts (drop i ids)) || has_double (texts (drop i ids)))
double_at ids i old new added inside updates is fresh =
    double_after_insert old new (id_at ids i).now (not_had added (contains text_cmp old (id_at ids i)) is fresh) (has_after_insert (id_at ids i) old new updates) (texts (drop (i + 1) ids))
    ∙ ap (λ rest. has_some old rest || has_double rest) (sym (texts_drop ids i inside))

pub among_at : (ids : List (Bor (List ℕ))) (i : ℕ) (old new : BTreeSet (Bor (List ℕ))) → i < length ids → Updates text_cmp old new (id_at ids i) true → (id : List ℕ) → (has_id new id || is_among id (texts (drop (i + 1) ids))) ≡ (has_id old id || is_among id (texts (drop i ids)))
among_at ids i old new inside updates id =
    among_after_insert old new (id_at ids i).now (has_after_insert (id_at ids i) old new updates) (texts (drop (i + 1) ids)) id
    ∙ ap (λ rest. has_id old id || is_among id rest) (sym (texts_drop ids i inside))
