-- The compact text of a readable value is read as the value again.
use Rattle.std.proofs.Common.{◌≡◌, ℕ, suc, ◌≤◌, max, List, [], pos, negsuc, true, Some, option_map, option_and_then, Less, nat_cmp, refl, sym, ap, ap₂, subst, ◌∙◌}
use Rattle.std.specs.Prelude.{⊤}
use Rattle.std.specs.Ordering.{match_ordering, ordering_reverse}
use Rattle.std.specs.Cmp.Lexicographic.{slice_cmp}
use Rattle.std.proofs.lemmas.Bool.{and_parts, ltb-true, true≢false}
use Rattle.std.proofs.lemmas.Cmp.{nat_list_cmp_total}
use Rattle.std.proofs.lemmas.List.{append-nil}
use Rattle.json.specs.Lex.{tokens}
use Rattle.json.specs.Json as json
use Rattle.json.specs.Tree as tree
use Rattle.json.proofs.Printed.Trees.{value-json_tokens}
use Rattle.serde_json.specs.Data.{Num, unsigned, negative, float, Data, null, boolean, number, string, array, object, Items, no_items, item, Members, no_members, member, put, depth, items_depth, members_depth}
use Rattle.serde_json.specs.Read.{number_of, of_json, of_items, of_members, read, max_depth}
use Rattle.serde_json.specs.Written.{number_text, outline, items_outline, members_outline, compact_text}
use Rattle.serde_json.proofs.Numbers.{number_of-decimal, number_of-negative}
use Rattle.osb_text.specs.Order.{IsBefore, IsInByteOrder, ItemsInByteOrder, MembersInByteOrder}
use Rattle.osb_text.specs.Whole.{is_whole_number, is_whole, items_are_whole, members_are_whole}
use Rattle.osb_text.proofs.CompactTexts.{tokens-compact_text}

-- ---- members put in by their order go to the end

abbrev joined : Members → Members → Members
joined no_members later = later
joined (member name d ms) later = member name d (joined ms later)

joined_assoc : (a b c : Members) → joined (joined a b) c ≡ joined a (joined b c)
joined_assoc no_members b c = refl
joined_assoc (member name d ms) b c = ap (member name d) (joined_assoc ms b c)

joined-none : (ms : Members) → joined ms no_members ≡ ms
joined-none no_members = refl
joined-none (member name d ms) = ap (member name d) (joined-none ms)

-- each name comes before this one
abbrev AllBefore : List ℕ → Members → Type 0
AllBefore last no_members = ⊤
AllBefore last (member name d ms) = (slice_cmp nat_cmp name last ≡ Less) × AllBefore last ms

put-last : (last : List ℕ) (d : Data) (ms : Members) → AllBefore last ms → put last d ms ≡ joined ms (member last d no_members)
put-last last d no_members before = refl
put-last last d (member name e ms) before =
    let after = nat_list_cmp_total.antisymm last name ∙ ap ordering_reverse before.0 in
    ap (λ o. match_ordering o (member last d (member name e ms)) (member name d ms) (member name e (put last d ms))) after ∙ ap (member name e) (put-last last d ms before.1)

all_before-joined : (name last : List ℕ) (d : Data) (ms : Members) → slice_cmp nat_cmp name last ≡ Less → AllBefore name ms → AllBefore last (joined ms (member name d no_members))
all_before-joined name last d no_members next before = (next, tt)
all_before-joined name last d (member first e ms) next before = (nat_list_cmp_total.trans first name last before.0 next, all_before-joined name last d ms next before.1)

-- all that was found comes before all that is left
abbrev BeforeFirst : Members → Members → Type 0
BeforeFirst found no_members = ⊤
BeforeFirst found (member name d ms) = AllBefore name found

before_first-joined : (name : List ℕ) (d : Data) (found left : Members) → IsBefore name left → AllBefore name found → BeforeFirst (joined found (member name d no_members)) left
before_first-joined name d found no_members next before = tt
before_first-joined name d found (member last e left) next before = all_before-joined name last d found next before

none_before : (ms : Members) → BeforeFirst no_members ms
none_before no_members = tt
none_before (member name d ms) = tt

-- ---- the tree is read as the value

number_of-number_text : (n : Num) → is_whole_number n ≡ true → number_of (number_text n) ≡ Some n
number_of-number_text (unsigned n) whole = number_of-decimal n (ltb-true _ _ whole)
number_of-number_text (negative (pos n)) whole = absurd (true≢false (sym whole))
number_of-number_text (negative (negsuc n)) whole = number_of-negative n (ltb-true _ _ whole)
number_of-number_text (float x) whole = absurd (true≢false (sym whole))

mutual
  of_json-outline : (d : Data) → is_whole d ≡ true → IsInByteOrder d → of_json (outline d) ≡ Some d
  of_json-outline null whole ordered = refl
  of_json-outline (boolean b) whole ordered = refl
  of_json-outline (number n) whole ordered = ap (option_map number) (number_of-number_text n whole)
  of_json-outline (string s) whole ordered = refl
  of_json-outline (array ds) whole ordered = ap (option_map array) (of_items-outline ds whole ordered)
  of_json-outline (object ms) whole ordered = ap (option_map object) (of_members-outline ms no_members whole ordered (none_before ms))

  of_items-outline : (ds : Items) → items_are_whole ds ≡ true → ItemsInByteOrder ds → of_items (items_outline ds) ≡ Some ds
  of_items-outline no_items whole ordered = refl
  of_items-outline (item d ds) whole ordered =
      let p = and_parts (is_whole d) _ whole in
      ap (option_and_then (λ e. option_map (item e) (of_items (items_outline ds)))) (of_json-outline d p.0 ordered.0) ∙ ap (option_map (item d)) (of_items-outline ds p.1 ordered.1)

  of_members-outline : (ms found : Members) → members_are_whole ms ≡ true → MembersInByteOrder ms → BeforeFirst found ms → of_members (members_outline ms) found ≡ Some (joined found ms)
  of_members-outline no_members found whole ordered before = ap Some (sym (joined-none found))
  of_members-outline (member name d ms) found whole ordered before =
      let p = and_parts (is_whole d) _ whole in
      ap (option_and_then (λ e. of_members (members_outline ms) (put name e found))) (of_json-outline d p.0 ordered.1)
      ∙ ap (of_members (members_outline ms)) (put-last name d found before)
      ∙ of_members-outline ms (joined found (member name d no_members)) p.1 ordered.2 (before_first-joined name d found ms ordered.0 before)
      ∙ ap Some (joined_assoc found (member name d no_members) ms)

mutual
  depth-outline : (d : Data) → tree.depth (outline d) ≡ depth d
  depth-outline null = refl
  depth-outline (boolean b) = refl
  depth-outline (number n) = refl
  depth-outline (string s) = refl
  depth-outline (array ds) = ap suc (depth-items_outline ds)
  depth-outline (object ms) = ap suc (depth-members_outline ms)

  depth-items_outline : (ds : Items) → tree.items_depth (items_outline ds) ≡ items_depth ds
  depth-items_outline no_items = refl
  depth-items_outline (item d ds) = ap₂ max (depth-outline d) (depth-items_outline ds)

  depth-members_outline : (ms : Members) → tree.members_depth (members_outline ms) ≡ members_depth ms
  depth-members_outline no_members = refl
  depth-members_outline (member name d ms) = ap₂ max (depth-outline d) (depth-members_outline ms)

-- ---- the text is read as the value

value-compact_text : (d : Data) → is_whole d ≡ true → depth d ≤ max_depth → json.value max_depth (tokens (compact_text d)) ≡ Some (outline d, [])
value-compact_text d whole shallow =
    ap (json.value max_depth) (tokens-compact_text d whole ∙ sym (append-nil (tree.json_tokens (outline d))))
    ∙ value-json_tokens (outline d) max_depth [] (subst (λ n. n ≤ max_depth) (sym (depth-outline d)) shallow)

pub read-compact_text : (d : Data) → is_whole d ≡ true → depth d ≤ max_depth → IsInByteOrder d → read (compact_text d) ≡ Some d
read-compact_text d whole shallow ordered =
    ap (λ found. option_and_then of_json (option_and_then (λ p. json.if_last p.0 p.1) found)) (value-compact_text d whole shallow)
    ∙ of_json-outline d whole ordered
