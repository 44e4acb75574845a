-- Texts of values, and the objects and arrays that are made of them.
use Prim.Native.String.{String}
use Rattle.std.proofs.Common.{◌≡◌, ℕ, ◌<◌, ◌^◌, ◌==◌, Bool, true, false, not, ◌&&◌, List, [], ◌∷◌, ◌++◌, map, codes, Ok, Err, Some, None, Option, cond, nat_le, nat_cmp, refl, sym, ap, ap₂, ◌∙◌, append_assoc, arith}
use Rattle.std.specs.Fmt.{decimal}
use Rattle.std.specs.List.{list_all, AllByRecursion}
use Rattle.std.specs.Str.Parse.{AllDigits}
use Rattle.std.specs.Ordering.{is_lt}
use Rattle.std.specs.declared.cmp.Ordering.{Ordering}
use Rattle.std.specs.declared.cmp.Ordering.TheVariants.{Less, Equal, Greater}
use Rattle.std.specs.Cmp.Lexicographic.{slice_cmp}
use Rattle.std.proofs.lemmas.Bool.{and_parts, and_from, true≢false, lt-ltb, ne_eqb, leb-true, le-leb}
use Rattle.std.proofs.lemmas.Fmt.{decimal_is_IsNumeral}
use Rattle.std.proofs.lemmas.Str.Parse.{digit_from_value}
use Rattle.std.proofs.lemmas.Slice.Eq.{bytes_eq-Decides}
use Rattle.json.specs.Print.{escape_byte, escape, quoted}
use Rattle.json.proofs.Printed.Strings.{escape_byte_plain}
use Rattle.serde_json.specs.Data.{Data, number, unsigned, string, array, object, Items, no_items, item, Members, no_members, member}
use Rattle.serde_json.specs.Read.{read}
use Rattle.serde_json.specs.Written.{compact_text, items_text, members_text, comma_if}
use Rattle.osb_text.specs.declared.fault.TextFault.TheVariants.{NotObject, Number}
use Rattle.osb_text.specs.ObjectText.{is_text_of, is_object_text}
use Rattle.osb_text.specs.Order.{IsBefore, IsInByteOrder, ItemsInByteOrder, MembersInByteOrder}
use Rattle.osb_text.specs.Reading.{is_object, object_if}
use Rattle.osb_text.specs.Whole.{is_whole, items_are_whole, members_are_whole}
use Rattle.osb_machine.specs.Texts.{with_commas, object_text, in_quotes}
use Rattle.osb_laws.specs.Bodies.{IsObjectBody}
use Rattle.osb_text.proofs.Orders.{order-read}

-- the compact text of a value in which numbers are whole and names in order
pub record IsValue (text : List ℕ) : Type 0 where
  pub value : Data
  pub is : text ≡ compact_text value
  pub ordered : IsInByteOrder value
  pub whole : is_whole value ≡ true

pub quoted_value : (text : List ℕ) → IsValue (quoted text)
quoted_value text = record { value = string text; is = refl; ordered = tt; whole = refl }

pub decimal_value : (n : ℕ) → n < 2 ^ 64 → IsValue (decimal n)
decimal_value n small = record { value = number (unsigned n); is = refl; ordered = tt; whole = lt-ltb _ _ small }

pub body_value : (text : List ℕ) → IsObjectBody text → IsValue text
body_value text body = record { value = object body.members; is = body.text; ordered = body.ordered; whole = body.whole }

-- ---- strings that have no escapes

abbrev has_no_escape : ℕ → Bool
has_no_escape x = nat_le 32 x && (not (x == 34) && not (x == 92))

abbrev pub has_no_escapes : List ℕ → Bool
has_no_escapes text = list_all has_no_escape text

plain_byte : (x : ℕ) → has_no_escape x ≡ true → escape_byte x ≡ x ∷ []
plain_byte x plain =
    let low = and_parts (nat_le 32 x) _ plain in
    let marks = and_parts (not (x == 34)) _ low.1 in
    escape_byte_plain x (λ e. absurd (true≢false (sym marks.0 ∙ ap (λ n. not (n == 34)) e)))
    (λ e. absurd (true≢false (sym marks.1 ∙ ap (λ n. not (n == 92)) e))) (leb-true 32 x low.0)

pub escape_none : (text : List ℕ) → has_no_escapes text ≡ true → escape text ≡ text
escape_none [] plain = refl
escape_none (x ∷ xs) plain =
    let p = and_parts (has_no_escape x) (has_no_escapes xs) plain in
    ap₂ (λ (a b : List ℕ). a ++ b) (plain_byte x p.0) (escape_none xs p.1)

pub quoted_plain : (text : List ℕ) → has_no_escapes text ≡ true → quoted text ≡ in_quotes text
quoted_plain text plain = ap (λ (t : List ℕ). 34 ∷ (t ++ 34 ∷ [])) (escape_none text plain)

pub plain_value : (text : List ℕ) → has_no_escapes text ≡ true → IsValue (in_quotes text)
plain_value text plain = record { value = string text; is = sym (quoted_plain text plain); ordered = tt; whole = refl }

digits_plain : (text : List ℕ) → AllDigits 10 text → has_no_escapes text ≡ true
digits_plain [] digits = refl
digits_plain (x ∷ xs) digits =
    let r = digit_from_value x digits.0 in
    and_from _ _ (and_from _ _ (le-leb 32 x (omega (arith, r))) (and_from _ _ (ap not (ne_eqb x 34 (λ e. omega (arith, r)))) (ap not (ne_eqb x 92 (λ e. omega (arith, r)))))) (digits_plain xs digits.1)

pub decimal_plain : (n : ℕ) → n < 2 ^ 64 → has_no_escapes (decimal n) ≡ true
decimal_plain n small = digits_plain (decimal n) (decimal_is_IsNumeral n small).0.1

-- ---- compact texts of objects

object_found : (text : List ℕ) (v : Option Data) → is_text_of text (object_if v) ≡ true → read text ≡ v → IsObjectBody text
object_found text None is found = absurd (true≢false (sym is))
object_found text (Some v) is found = by v (is_object v) (is_whole v) refl refl is found
  where
    by : (v : Data) (kind whole : Bool) → is_object v ≡ kind → is_whole v ≡ whole
        → is_text_of text (cond kind (cond whole (Ok v) (Err Number)) (Err NotObject)) ≡ true → read text ≡ Some v → IsObjectBody text
    by (object ms) true true kind whole is found = record { members = ms; text = (bytes_eq-Decides text (compact_text (object ms))).0 is; ordered = order-read text (object ms) found; whole = whole }
    by v true false kind whole is found = absurd (true≢false (sym is))
    by v false whole kind numbers is found = absurd (true≢false (sym is))
    by v true true kind whole is found = absurd (true≢false (sym kind))

pub object_is : (text : List ℕ) → is_object_text text ≡ true → IsObjectBody text
object_is text is = object_found text (read text) is refl

pub object_value : (text : List ℕ) → is_object_text text ≡ true → IsValue text
object_value text is = body_value text (object_is text is)

-- ---- objects by their members

abbrev Member : Type 0
Member = String × List ℕ

abbrev HasValue : Member → Type 0
HasValue m = IsValue m.1

-- names that have no escapes, each before the next
abbrev pub ascend : List String → Bool
ascend [] = true
ascend (name ∷ []) = has_no_escapes (codes name)
ascend (name ∷ next ∷ names) = has_no_escapes (codes name) && (is_lt (slice_cmp nat_cmp (codes name) (codes next)) && ascend (next ∷ names))

abbrev names_of : List Member → List String
names_of = map (λ m. m.0)

abbrev with_values : (members : List Member) → AllByRecursion HasValue members → Members
with_values [] values = no_members
with_values (m ∷ ms) values = member (codes m.0) values.0.value (with_values ms values.1)

pub less : (o : Ordering) → is_lt o ≡ true → o ≡ Less
less Less is = refl
less Equal is = absurd (true≢false (sym is))
less Greater is = absurd (true≢false (sym is))

first_plain : (m : Member) (ms : List Member) → ascend (m.0 ∷ names_of ms) ≡ true → has_no_escapes (codes m.0) ≡ true
first_plain m [] is = is
first_plain m (next ∷ ms) is = (and_parts (has_no_escapes (codes m.0)) _ is).0

rest_ascends : (m : Member) (ms : List Member) → ascend (m.0 ∷ names_of ms) ≡ true → ascend (names_of ms) ≡ true
rest_ascends m [] is = refl
rest_ascends m (next ∷ ms) is = (and_parts _ _ (and_parts (has_no_escapes (codes m.0)) _ is).1).1

first_before : (m : Member) (ms : List Member) (values : AllByRecursion HasValue ms) → ascend (m.0 ∷ names_of ms) ≡ true → IsBefore (codes m.0) (with_values ms values)
first_before m [] values is = tt
first_before m (next ∷ ms) values is = less _ (and_parts _ _ (and_parts (has_no_escapes (codes m.0)) _ is).1).0

members_ordered : (ms : List Member) (values : AllByRecursion HasValue ms) → ascend (names_of ms) ≡ true → MembersInByteOrder (with_values ms values)
members_ordered [] values is = tt
members_ordered (m ∷ ms) values is = (first_before m ms values.1 is, values.0.ordered, members_ordered ms values.1 (rest_ascends m ms is))

members_whole : (ms : List Member) (values : AllByRecursion HasValue ms) → members_are_whole (with_values ms values) ≡ true
members_whole [] values = refl
members_whole (m ∷ ms) values = and_from _ _ values.0.whole (members_whole ms values.1)

abbrev member_text : Member → List ℕ
member_text m = codes "\"" ++ codes m.0 ++ codes "\":" ++ m.1

member_then : (name : String) (text rest : List ℕ) → has_no_escapes (codes name) ≡ true → member_text (name, text) ++ rest ≡ quoted (codes name) ++ 58 ∷ (text ++ rest)
member_then name text rest plain =
    ap (λ (t : List ℕ). 34 ∷ t)
    (append_assoc (codes name ++ 34 ∷ 58 ∷ []) text rest ∙ append_assoc (codes name) (34 ∷ 58 ∷ []) (text ++ rest)
    ∙ sym (append_assoc (codes name) (34 ∷ []) (58 ∷ (text ++ rest))))
    ∙ ap (λ (t : List ℕ). t ++ 58 ∷ (text ++ rest)) (sym (quoted_plain (codes name) plain))

members_texts : (later : Bool) (ms : List Member) (values : AllByRecursion HasValue ms) → ascend (names_of ms) ≡ true
    → with_commas (comma_if later) (map member_text ms) (codes "}") ≡ members_text later (with_values ms values)
members_texts later [] values is = refl
members_texts later (m ∷ ms) values is =
    append_assoc (comma_if later) (member_text m) _
    ∙ ap (λ (t : List ℕ). comma_if later ++ t)
    (member_then m.0 m.1 _ (first_plain m ms is)
    ∙ ap₂ (λ (a b : List ℕ). quoted (codes m.0) ++ 58 ∷ (a ++ b)) values.0.is (members_texts true ms values.1 (rest_ascends m ms is)))

pub object_of_members : (ms : List Member) → ascend (names_of ms) ≡ true → AllByRecursion HasValue ms → IsObjectBody (object_text ms)
object_of_members ms is values = record {
  members = with_values ms values;
  text = ap (λ (t : List ℕ). 123 ∷ t) (members_texts false ms values is);
  ordered = members_ordered ms values is;
  whole = members_whole ms values;
}

-- ---- arrays

abbrev with_items : (texts : List (List ℕ)) → AllByRecursion IsValue texts → Items
with_items [] values = no_items
with_items (t ∷ ts) values = item values.0.value (with_items ts values.1)

items_ordered : (ts : List (List ℕ)) (values : AllByRecursion IsValue ts) → ItemsInByteOrder (with_items ts values)
items_ordered [] values = tt
items_ordered (t ∷ ts) values = (values.0.ordered, items_ordered ts values.1)

items_whole : (ts : List (List ℕ)) (values : AllByRecursion IsValue ts) → items_are_whole (with_items ts values) ≡ true
items_whole [] values = refl
items_whole (t ∷ ts) values = and_from _ _ values.0.whole (items_whole ts values.1)

items_texts : (later : Bool) (ts : List (List ℕ)) (values : AllByRecursion IsValue ts) → with_commas (comma_if later) ts (codes "]") ≡ items_text later (with_items ts values)
items_texts later [] values = refl
items_texts later (t ∷ ts) values = append_assoc (comma_if later) t _ ∙ ap₂ (λ (a b : List ℕ). comma_if later ++ (a ++ b)) values.0.is (items_texts true ts values.1)

pub array_value : (ts : List (List ℕ)) → AllByRecursion IsValue ts → IsValue (codes "[" ++ with_commas [] ts (codes "]"))
array_value ts values = record {
  value = array (with_items ts values);
  is = ap (λ (t : List ℕ). 91 ∷ t) (items_texts false ts values);
  ordered = items_ordered ts values;
  whole = items_whole ts values;
}
