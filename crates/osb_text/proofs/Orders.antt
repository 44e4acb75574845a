-- What is read has its names in the order of their bytes.
use Rattle.std.proofs.Common.{◌≡◌, ℕ, List, Option, Some, None, Ok, Ordering, Less, Equal, Greater, nat_cmp, refl, ap, ◌∙◌}
use Rattle.std.specs.Str.{is_utf8}
use Rattle.std.proofs.lemmas.Bool.{cond_both}
use Rattle.std.proofs.lemmas.Cmp.{nat_list_cmp_total}
use Rattle.std.specs.Ordering.{match_ordering, ordering_reverse}
use Rattle.std.specs.Cmp.Lexicographic.{slice_cmp}
use Rattle.serde_json.specs.Data.{Num, Data, number, Members, no_members, member, put}
use Rattle.serde_json.specs.Read.{number_of, read}
use Rattle.osb_text.specs.Order.{IsBefore, IsInByteOrder, ItemsInByteOrder, MembersInByteOrder}
use Rattle.osb_text.specs.Reading.{value_of, object_of}
use Rattle.osb_text.proofs.Exactly.{exactly}
use Rattle.osb_text.proofs.ReadLemmas.{IfFound, kept-read}

before_at : (o : Ordering) (first name next : List ℕ) (d e : Data) (ms rest : Members)
    → slice_cmp nat_cmp first next ≡ Less → slice_cmp nat_cmp first name ≡ Less
    → IsBefore first (match_ordering o (member name d (member next e ms)) (member next d ms) (member next e rest))
before_at Less first name next d e ms rest h new = new
before_at Equal first name next d e ms rest h new = h
before_at Greater first name next d e ms rest h new = h

before-put : (first name : List ℕ) (d : Data) (ms : Members) → IsBefore first ms → slice_cmp nat_cmp first name ≡ Less → IsBefore first (put name d ms)
before-put first name d no_members h new = new
before-put first name d (member next e ms) h new = before_at (slice_cmp nat_cmp name next) first name next d e ms (put name d ms) h new

order_at : (o : Ordering) (name next : List ℕ) (d e : Data) (ms rest : Members) → slice_cmp nat_cmp name next ≡ o
    → IsInByteOrder d → MembersInByteOrder (member next e ms)
    → (slice_cmp nat_cmp next name ≡ Less → IsBefore next rest) → MembersInByteOrder rest
    → MembersInByteOrder (match_ordering o (member name d (member next e ms)) (member next d ms) (member next e rest))
order_at Less name next d e ms rest is new h before more = (is, new, h)
order_at Equal name next d e ms rest is new h before more = (h.0, new, h.2)
order_at Greater name next d e ms rest is new h before more = (before (nat_list_cmp_total.antisymm next name ∙ ap ordering_reverse is), h.1, more)

order-put : (name : List ℕ) (d : Data) (ms : Members) → IsInByteOrder d → MembersInByteOrder ms → MembersInByteOrder (put name d ms)
order-put name d no_members new h = (tt, new, tt)
order-put name d (member next e ms) new h =
    order_at _ name next d e ms (put name d ms) refl new h (before-put next name d ms h.0) (order-put name d ms new h.2)

any_number : (o : Option Num) → IfFound (λ n. IsInByteOrder (number n)) o
any_number None = tt
any_number (Some n) = tt

pub order-read : (text : List ℕ) (v : Data) → read text ≡ Some v → IsInByteOrder v
order-read = kept-read IsInByteOrder ItemsInByteOrder MembersInByteOrder (record {
  at_null = tt;
  at_boolean = λ b. tt;
  at_number = λ s. any_number (number_of s);
  at_string = λ s. tt;
  at_array = λ ds h. h;
  at_object = λ ms h. h;
  at_no_items = tt;
  at_item = λ d ds h rest. (h, rest);
  at_no_members = tt;
  at_put = order-put;
})

order-value_of : (bytes : List ℕ) (v : Data) → value_of bytes ≡ Some v → IsInByteOrder v
order-value_of bytes v = cond_both (is_utf8 bytes) (read bytes) None (λ o. o ≡ Some v → IsInByteOrder v) (λ e is. order-read bytes v is) (λ e is. cc)

pub order-object_of : (bytes : List ℕ) (v : Data) → object_of bytes ≡ Ok v → IsInByteOrder v
order-object_of bytes v is = order-value_of bytes v ((exactly bytes v).0 is).value
