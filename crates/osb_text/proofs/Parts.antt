-- A whole value has no float, and its parts are whole.
use Rattle.std.proofs.Common.{◌≡◌, ℕ, List, true, false, Option, Some, Ordering, Less, Equal, Greater, nat_cmp, refl, sym, ap, ◌∙◌}
use Rattle.std.proofs.lemmas.Bool.{and_parts, or_from, true≢false}
use Rattle.std.specs.Ordering.{match_ordering}
use Rattle.std.specs.Cmp.Lexicographic.{slice_cmp}
use Rattle.serde_json.specs.Data.{Num, unsigned, negative, float, Data, null, boolean, number, string, array, object, Items, no_items, item, Members, no_members, member}
use Rattle.serde_json.specs.Find.{is_float, get, get_member}
use Rattle.serde_json.specs.Written.{has_float, items_have_float, members_have_float}
use Rattle.osb_text.specs.Whole.{is_whole_number, is_whole, items_are_whole, members_are_whole}

not_float : (n : Num) → is_whole_number n ≡ true → is_float n ≡ false
not_float (unsigned n) whole = refl
not_float (negative z) whole = refl
not_float (float x) whole = absurd (true≢false (sym whole))

mutual
  pub no_float : (d : Data) → is_whole d ≡ true → has_float d ≡ false
  no_float null whole = refl
  no_float (boolean b) whole = refl
  no_float (number n) whole = not_float n whole
  no_float (string s) whole = refl
  no_float (array ds) whole = no_item_float ds whole
  no_float (object ms) whole = no_member_float ms whole

  no_item_float : (ds : Items) → items_are_whole ds ≡ true → items_have_float ds ≡ false
  no_item_float no_items whole = refl
  no_item_float (item d ds) whole = let p = and_parts (is_whole d) _ whole in or_from _ _ (no_float d p.0) (no_item_float ds p.1)

  no_member_float : (ms : Members) → members_are_whole ms ≡ true → members_have_float ms ≡ false
  no_member_float no_members whole = refl
  no_member_float (member name d ms) whole = let p = and_parts (is_whole d) _ whole in or_from _ _ (no_float d p.0) (no_member_float ms p.1)

whole_at : (o : Ordering) (e d : Data) (later : Option Data) → is_whole e ≡ true → (later ≡ Some d → is_whole d ≡ true)
    → match_ordering o later (Some e) later ≡ Some d → is_whole d ≡ true
whole_at Less e d later here there is = there is
whole_at Greater e d later here there is = there is
whole_at Equal e d later here there is = let same : e ≡ d = cc in ap is_whole (sym same) ∙ here

whole-get_member : (name : List ℕ) (ms : Members) (d : Data) → members_are_whole ms ≡ true → get_member name ms ≡ Some d → is_whole d ≡ true
whole-get_member name no_members d whole is = cc
whole-get_member name (member next e ms) d whole is =
    let p = and_parts (is_whole e) _ whole in
    whole_at (slice_cmp nat_cmp name next) e d (get_member name ms) p.0 (whole-get_member name ms d p.1) is

pub whole_member : (name : List ℕ) (v d : Data) → get name v ≡ Some d → is_whole v ≡ true → is_whole d ≡ true
whole_member name null d is whole = cc
whole_member name (boolean b) d is whole = cc
whole_member name (number n) d is whole = cc
whole_member name (string s) d is whole = cc
whole_member name (array ds) d is whole = cc
whole_member name (object ms) d is whole = whole-get_member name ms d whole is
