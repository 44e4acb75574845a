-- In a value that was read, each number that is no float is whole and in range.
use Rattle.std.proofs.Common.{◌≡◌, ℕ, zero, suc, ◌^◌, ◌<◌, ◌≤◌, ◌&&◌, ◌||◌, ◌==◌, List, Bool, true, false, not, Some, Ordering, Less, Equal, Greater, refl, ap₂, ◌∙◌, arith, nat_lt, nat_le, slice_index, drop}
use Rattle.std.specs.Prelude.{⊤}
use Rattle.std.proofs.lemmas.Bool.{and_parts, lt-ltb, ltb-true, leb-true, cond_both}
use Rattle.std.specs.Float.{binary64, float_is_finite}
use Rattle.std.specs.Ordering.{match_ordering}
use Rattle.fast_float.specs.Text.{minus, Parts, scan, digits_of, nearest, with_sign}
use Rattle.serde_json.specs.Data.{Num, negative, Data, null, boolean, number, string, array, object, Items, no_items, item, Members, no_members, member, put}
use Rattle.serde_json.specs.Find.{is_float}
use Rattle.serde_json.specs.Read.{is_integer, float_of, number_from, number_of, read}
use Rattle.serde_json.specs.Written.{has_float, items_have_float, members_have_float}
use Rattle.osb_text.specs.Whole.{is_whole_number, is_whole, items_are_whole, members_are_whole}
use Rattle.osb_text.proofs.ReadLemmas.{IfFound, kept-read}

-- a float, or in range
abbrev IsFine : Num → Type 0
IsFine n = is_whole_number n ≡ not (is_float n)

abbrev mutual
  AreFine : Data → Type 0
  AreFine null = ⊤
  AreFine (boolean b) = ⊤
  AreFine (number n) = IsFine n
  AreFine (string s) = ⊤
  AreFine (array ds) = ItemsAreFine ds
  AreFine (object ms) = MembersAreFine ms

  ItemsAreFine : Items → Type 0
  ItemsAreFine no_items = ⊤
  ItemsAreFine (item d ds) = AreFine d × ItemsAreFine ds

  MembersAreFine : Members → Type 0
  MembersAreFine no_members = ⊤
  MembersAreFine (member name d ms) = AreFine d × MembersAreFine ms

-- ---- the numbers that are read

fine_float : (sign : Bool) (p : Parts) → IfFound IsFine (float_of sign p)
fine_float sign p = cond_both (float_is_finite (nearest binary64 sign p)) _ _ (IfFound IsFine) (λ e. refl) (λ e. tt)

fine_negative : (n : ℕ) → 0 < n → n ≤ 2 ^ 63 → IsFine (negative (with_sign true n))
fine_negative zero some bound = absurd (omega arith)
fine_negative (suc n) some bound = lt-ltb n (2 ^ 63) (omega arith)

fine_from : (sign : Bool) (p : Parts) → IfFound IsFine (number_from sign p)
fine_from false p =
    cond_both (is_integer p && nat_lt (digits_of p) (2 ^ 64)) _ _ (IfFound IsFine)
    (λ e. (and_parts (is_integer p) _ e).1) (λ e. fine_float false p)
fine_from true p =
    cond_both (is_integer p && nat_lt 0 (digits_of p) && nat_le (digits_of p) (2 ^ 63)) _ _ (IfFound IsFine)
    (λ e. let both = and_parts (is_integer p && nat_lt 0 (digits_of p)) _ e in
    fine_negative (digits_of p) (ltb-true _ _ (and_parts (is_integer p) _ both.0).1) (leb-true _ _ both.1))
    (λ e. fine_float true p)

fine_number : (s : List ℕ) → IfFound IsFine (number_of s)
unfolding number_of
fine_number s = cond_both (slice_index s 0 == minus) _ _ (IfFound IsFine) (λ e. fine_from true (scan (drop 1 s))) (λ e. fine_from false (scan s))

-- ---- the members that are put in

fine-match_ordering : (o : Ordering) (a b c : Members) → MembersAreFine a → MembersAreFine b → MembersAreFine c → MembersAreFine (match_ordering o a b c)
fine-match_ordering Less a b c p q r = p
fine-match_ordering Equal a b c p q r = q
fine-match_ordering Greater a b c p q r = r

fine-put : (name : List ℕ) (d : Data) (ms : Members) → AreFine d → MembersAreFine ms → MembersAreFine (put name d ms)
fine-put name d no_members new h = (new, tt)
fine-put name d (member next e ms) new h =
    fine-match_ordering _ (member name d (member next e ms)) (member next d ms) (member next e (put name d ms))
    (new, h) (new, h.1) (h.0, fine-put name d ms new h.1)

fine-read : (text : List ℕ) (v : Data) → read text ≡ Some v → AreFine v
fine-read = kept-read AreFine ItemsAreFine MembersAreFine (record {
  at_null = tt;
  at_boolean = λ b. tt;
  at_number = fine_number;
  at_string = λ s. tt;
  at_array = λ ds h. h;
  at_object = λ ms h. h;
  at_no_items = tt;
  at_item = λ d ds h rest. (h, rest);
  at_no_members = tt;
  at_put = fine-put;
})

-- ---- the two tests agree

neither : (a b : Bool) → (not a && not b) ≡ not (a || b)
neither true b = refl
neither false b = refl

mutual
  whole-fine : (d : Data) → AreFine d → is_whole d ≡ not (has_float d)
  whole-fine null h = refl
  whole-fine (boolean b) h = refl
  whole-fine (number n) h = h
  whole-fine (string s) h = refl
  whole-fine (array ds) h = whole-fine_items ds h
  whole-fine (object ms) h = whole-fine_members ms h

  whole-fine_items : (ds : Items) → ItemsAreFine ds → items_are_whole ds ≡ not (items_have_float ds)
  whole-fine_items no_items h = refl
  whole-fine_items (item d ds) h = ap₂ (λ a b. a && b) (whole-fine d h.0) (whole-fine_items ds h.1) ∙ neither (has_float d) (items_have_float ds)

  whole-fine_members : (ms : Members) → MembersAreFine ms → members_are_whole ms ≡ not (members_have_float ms)
  whole-fine_members no_members h = refl
  whole-fine_members (member name d ms) h = ap₂ (λ a b. a && b) (whole-fine d h.0) (whole-fine_members ms h.1) ∙ neither (has_float d) (members_have_float ms)

-- a value that was read is whole exactly where it has no float
pub whole_read : (text : List ℕ) (v : Data) → read text ≡ Some v → is_whole v ≡ not (has_float v)
whole_read text v is = whole-fine v (fine-read text v is)
