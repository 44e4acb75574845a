-- Plans of one name are found by a set of the names before.
use Rattle.std.proofs.Common.{◌≡◌, ℕ, suc, List, [], ◌∷◌, ◌+◌, ◌++◌, ◌<◌, length, drop, get_or, Bool, true, false, not, cond, ◌||◌, bytes_eq, refl, sym, ap, ◌∙◌, add-one, Ordering}
use Rattle.std.proofs.Math.Seq.{drop-cons}
use Rattle.std.specs.Ordering.{nat_cmp}
use Rattle.std.specs.Cmp.Lexicographic.{slice_cmp, nat_list_eq_equiv}
use Rattle.std.specs.BTreeSet.{BTreeSet, Updates, contains}
use Rattle.serde_json.specs.declared.value.Value.{Value}
use Rattle.serde_json.specs.View.{view, items_view}
use Rattle.osb_catalog.specs.declared.field.Field.TheVariants as the
use Rattle.osb_catalog.specs.Fields.{text_at}
use Rattle.osb_catalog.specs.Items.{each}
use Rattle.osb_catalog.specs.Ids.{is_among}
use Rattle.osb_catalog.specs.IdSet.{has_id}
use Rattle.osb_catalog.proofs.IdLemmas.{has_after_insert, empty_has_none}
use Rattle.osb_advice.specs.Names.{name_line, name_lines}
use denote.Ref.{Bor}

abbrev text_cmp : Bor (List ℕ) → Bor (List ℕ) → Ordering
text_cmp x y = slice_cmp nat_cmp x.now y.now

-- the same lines, by a test of the names before
abbrev pub lines_by : ℕ → (List ℕ → Bool) → ℕ → List (List ℕ) → List ℕ
lines_by number had at [] = []
lines_by number had at (name ∷ names) =
    cond (had name) (name_line number at) [] ++ lines_by number (λ other. bytes_eq other name || had other) (at + 1) names

by_names : (number : ℕ) (before : List (List ℕ)) (at : ℕ) (names : List (List ℕ)) → lines_by number (λ name. is_among name before) at names ≡ name_lines number before at names
by_names number before at [] = refl
by_names number before at (name ∷ names) =
    ap (λ rest. cond (is_among name before) (name_line number at) [] ++ rest) (by_names number (name ∷ before) (at + 1) names)

-- the first plan has no plan before it, and the empty set no name
pub from_empty : (set : BTreeSet (Bor (List ℕ))) → set.keys ≡ [] → (number : ℕ) (names : List (List ℕ)) → lines_by number (has_id set) 0 names ≡ name_lines number [] 0 names
from_empty set empty number names =
    ap (λ had. lines_by number had 0 names) (λ i name. empty_has_none set empty name i)
    ∙ by_names number [] 0 names

-- a name is inserted, and the rest goes by the new set
pub after_one : (number at : ℕ) (old new : BTreeSet (Bor (List ℕ))) (key : Bor (List ℕ)) (names : List (List ℕ)) → Updates text_cmp old new key true → lines_by number (has_id old) at (key.now ∷ names) ≡ cond (has_id old key.now) (name_line number at) [] ++ lines_by number (has_id new) (at + 1) names
after_one number at old new key names updates =
    let later : (other : List ℕ) → (bytes_eq other key.now || has_id old other) ≡ has_id new other =
    λ other. ap (λ b. b || has_id old other) (nat_list_eq_equiv.symm other key.now) ∙ sym (has_after_insert key old new updates other) in
    ap (λ had. cond (has_id old key.now) (name_line number at) [] ++ lines_by number had (at + 1) names) (λ i other. later other i)

by_new : (had is_new : Bool) (line : List ℕ) → is_new ≡ not had → cond had line [] ≡ cond is_new [] line
by_new true is_new line is = sym (ap (λ b. cond b [] line) is)
by_new false is_new line is = sym (ap (λ b. cond b [] line) is)

-- the lines from one plan on
pub at_plan : (number at : ℕ) (plans : List Value) (plan : Value) (old new : BTreeSet (Bor (List ℕ))) (key : Bor (List ℕ)) (is_new : Bool) → at < length plans → plan ≡ get_or plans at plan → key.now ≡ text_at the.Name (view plan) → Updates text_cmp old new key true → is_new ≡ not (contains text_cmp old key) → lines_by number (has_id old) at (each (text_at the.Name) (items_view (drop at plans))) ≡ cond is_new [] (name_line number at) ++ lines_by number (has_id new) (at + 1) (each (text_at the.Name) (items_view (drop (at + 1) plans)))
at_plan number at plans plan old new key is_new inside is named updates added =
    let front : drop at plans ≡ plan ∷ drop (at + 1) plans = rw (add-one) (drop-cons plans at plan inside ∙ ap (λ it. it ∷ drop (suc at) plans) (sym is)) in
    let names = each (text_at the.Name) (items_view (drop (at + 1) plans)) in
    ap (λ vs. lines_by number (has_id old) at (each (text_at the.Name) (items_view vs))) front
    ∙ ap (λ name. lines_by number (has_id old) at (name ∷ names)) (sym named)
    ∙ after_one number at old new key names updates
    ∙ ap (λ line. line ++ lines_by number (has_id new) (at + 1) names) (by_new (has_id old key.now) is_new (name_line number at) added)
