-- A value whose numbers are whole is known from its compact text: the text gives its tokens, the tokens one
-- tree, and the tree the value.
use Rattle.std.proofs.Common.{◌≡◌, ◌↔◌, ◌^◌, ◌+◌, List, [], ◌++◌, pos, negsuc, true, Option, Some, None, refl, sym, ap, ap₂, ◌∙◌, arith}
use Rattle.std.proofs.lemmas.Bool.{and_parts, ltb-true, true≢false}
use Rattle.json.specs.Token.{Token}
use Rattle.json.specs.Lex.{tokens}
use Rattle.json.specs.Json as json
use Rattle.json.specs.Tree as tree
use Rattle.json.specs.Print.{IsNumber}
use Rattle.json.proofs.Printed.Decimals.{IsNumber-decimal, IsNumber-signed_decimal}
use Rattle.json.proofs.Printed.Tokens.{tokens-print}
use Rattle.json.proofs.Printed.Trees.{value-json_tokens, ArePrintable-json_tokens}
use Rattle.serde_json.specs.Data.{Num, unsigned, negative, float, Data, null, boolean, number, string, array, object, Items, no_items, item, Members, no_members, member}
use Rattle.serde_json.specs.Read.{number_of}
use Rattle.serde_json.specs.Written.{number_text, outline, items_outline, members_outline, compact_text}
use Rattle.serde_json.proofs.Numbers.{number_of-decimal, number_of-negative}
use Rattle.serde_json.proofs.Texts.{print-outline}
use Rattle.osb_text.specs.Whole.{is_whole_number, is_whole, items_are_whole, members_are_whole}

-- ---- the tree gives the value

abbrev or_zero : Option Num → Num
or_zero None = unsigned 0
or_zero (Some n) = n

abbrev mutual
  value_of_tree : json.Json → Data
  value_of_tree json.null = null
  value_of_tree (json.boolean b) = boolean b
  value_of_tree (json.number s) = number (or_zero (number_of s))
  value_of_tree (json.string s) = string s
  value_of_tree (json.array js) = array (items_of_tree js)
  value_of_tree (json.object ms) = object (members_of_tree ms)

  items_of_tree : json.Items → Items
  items_of_tree json.no_items = no_items
  items_of_tree (json.item j js) = item (value_of_tree j) (items_of_tree js)

  members_of_tree : json.Members → Members
  members_of_tree json.no_members = no_members
  members_of_tree (json.member name j ms) = member name (value_of_tree j) (members_of_tree ms)

number-number_text : (n : Num) → is_whole_number n ≡ true → or_zero (number_of (number_text n)) ≡ n
number-number_text (unsigned n) whole = ap or_zero (number_of-decimal n (ltb-true _ _ whole))
number-number_text (negative (pos n)) whole = absurd (true≢false (sym whole))
number-number_text (negative (negsuc n)) whole = ap or_zero (number_of-negative n (ltb-true _ _ whole))
number-number_text (float x) whole = absurd (true≢false (sym whole))

mutual
  value_of_tree-outline : (d : Data) → is_whole d ≡ true → value_of_tree (outline d) ≡ d
  value_of_tree-outline null whole = refl
  value_of_tree-outline (boolean b) whole = refl
  value_of_tree-outline (number n) whole = ap number (number-number_text n whole)
  value_of_tree-outline (string s) whole = refl
  value_of_tree-outline (array ds) whole = ap array (items_of_tree-outline ds whole)
  value_of_tree-outline (object ms) whole = ap object (members_of_tree-outline ms whole)

  items_of_tree-outline : (ds : Items) → items_are_whole ds ≡ true → items_of_tree (items_outline ds) ≡ ds
  items_of_tree-outline no_items whole = refl
  items_of_tree-outline (item d ds) whole = let p = and_parts (is_whole d) _ whole in ap₂ item (value_of_tree-outline d p.0) (items_of_tree-outline ds p.1)

  members_of_tree-outline : (ms : Members) → members_are_whole ms ≡ true → members_of_tree (members_outline ms) ≡ ms
  members_of_tree-outline no_members whole = refl
  members_of_tree-outline (member name d ms) whole = let p = and_parts (is_whole d) _ whole in ap₂ (member name) (value_of_tree-outline d p.0) (members_of_tree-outline ms p.1)

-- ---- the text gives the tokens, and these the tree

IsNumber-number_text : (n : Num) → is_whole_number n ≡ true → IsNumber (number_text n)
IsNumber-number_text (unsigned n) whole = IsNumber-decimal n (ltb-true _ _ whole)
IsNumber-number_text (negative (pos n)) whole = absurd (true≢false (sym whole))
IsNumber-number_text (negative (negsuc n)) whole = let small = ltb-true n (2 ^ 63) whole in IsNumber-signed_decimal (negsuc n) (omega arith)
IsNumber-number_text (float x) whole = absurd (true≢false (sym whole))

mutual
  HasNumbers-outline : (d : Data) → is_whole d ≡ true → tree.HasNumbers (outline d)
  HasNumbers-outline null whole = tt
  HasNumbers-outline (boolean b) whole = tt
  HasNumbers-outline (number n) whole = IsNumber-number_text n whole
  HasNumbers-outline (string s) whole = tt
  HasNumbers-outline (array ds) whole = ItemsHaveNumbers-outline ds whole
  HasNumbers-outline (object ms) whole = MembersHaveNumbers-outline ms whole

  ItemsHaveNumbers-outline : (ds : Items) → items_are_whole ds ≡ true → tree.ItemsHaveNumbers (items_outline ds)
  ItemsHaveNumbers-outline no_items whole = tt
  ItemsHaveNumbers-outline (item d ds) whole = let p = and_parts (is_whole d) _ whole in (HasNumbers-outline d p.0, ItemsHaveNumbers-outline ds p.1)

  MembersHaveNumbers-outline : (ms : Members) → members_are_whole ms ≡ true → tree.MembersHaveNumbers (members_outline ms)
  MembersHaveNumbers-outline no_members whole = tt
  MembersHaveNumbers-outline (member name d ms) whole = let p = and_parts (is_whole d) _ whole in (HasNumbers-outline d p.0, MembersHaveNumbers-outline ms p.1)

pub tokens-compact_text : (d : Data) → is_whole d ≡ true → tokens (compact_text d) ≡ tree.json_tokens (outline d)
tokens-compact_text d whole = ap tokens (sym (print-outline d)) ∙ tokens-print _ (ArePrintable-json_tokens _ (HasNumbers-outline d whole))

abbrev first_tree : Option (json.Json × List Token) → json.Json
first_tree None = json.null
first_tree (Some p) = p.0

one_tree : (j k : json.Json) → tree.json_tokens j ≡ tree.json_tokens k → j ≡ k
one_tree j k same =
    let deep = tree.depth j + tree.depth k in
    ap first_tree (sym (value-json_tokens j deep [] (omega arith))) ∙ ap (λ ts. first_tree (json.value deep (ts ++ []))) same ∙ ap first_tree (value-json_tokens k deep [] (omega arith))

one_outline : (v w : Data) → is_whole v ≡ true → is_whole w ≡ true → compact_text v ≡ compact_text w → outline v ≡ outline w
one_outline v w whole_v whole_w same = one_tree (outline v) (outline w) (sym (tokens-compact_text v whole_v) ∙ ap tokens same ∙ tokens-compact_text w whole_w)

pub one_value : (v w : Data) → is_whole v ≡ true → is_whole w ≡ true → (compact_text v ≡ compact_text w) ↔ (v ≡ w)
one_value v w whole_v whole_w = (
  λ same. sym (value_of_tree-outline v whole_v) ∙ ap value_of_tree (one_outline v w whole_v whole_w same) ∙ value_of_tree-outline w whole_w,
  λ same. ap compact_text same,
)
