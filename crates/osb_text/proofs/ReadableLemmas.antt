-- Which values are readable, and what their compact texts are.
use Rattle.std.proofs.Common.{◌≡◌, ◌≤◌, ℕ, List, true, Option, Some, None, Ok, Err, Ordering, Less, Equal, Greater, cond, nat_cmp, refl, ap, ◌∙◌, arith, codes, lit≤}
use Rattle.std.specs.Ordering.{match_ordering}
use Rattle.std.specs.Cmp.Lexicographic.{slice_cmp}
use Rattle.std.specs.Str.{is_utf8}
use Rattle.std.proofs.lemmas.Bool.{cond_both}
use Rattle.std.proofs.lemmas.Cmp.{nat_list_eq_equiv}
use Rattle.serde_json.specs.Data.{Data, null, boolean, number, string, array, object, Members, no_members, member, depth, members_depth}
use Rattle.serde_json.specs.Find.{get, get_member}
use Rattle.serde_json.specs.Read.{read, max_depth}
use Rattle.serde_json.specs.Written.{compact_text}
use Rattle.serde_json.proofs.Nesting.{depth-read}
use Rattle.osb_text.specs.declared.fault.TextFault.TheVariants.{NotObject, Number}
use Rattle.osb_text.specs.ObjectText.{is_text_of, is_object_text, IsReadable}
use Rattle.osb_text.specs.Order.{IsInByteOrder, MembersInByteOrder}
use Rattle.osb_text.specs.Reading.{value_of, is_object, object_if, object_of}
use Rattle.osb_text.specs.Whole.{is_whole}
use Rattle.osb_text.proofs.BackLemmas.{read-compact_text}
use Rattle.osb_text.proofs.Exactly.{exactly}
use Rattle.osb_text.proofs.Orders.{order-object_of}
use Rattle.osb_text.proofs.Parts.{whole_member}

depth-value_of : (bytes : List ℕ) (v : Data) → value_of bytes ≡ Some v → depth v ≤ max_depth
depth-value_of bytes v = cond_both (is_utf8 bytes) (read bytes) None (λ o. o ≡ Some v → depth v ≤ max_depth) (λ e is. depth-read bytes v is) (λ e is. cc)

-- what is read is readable
pub readable : (bytes : List ℕ) (v : Data) → object_of bytes ≡ Ok v → IsReadable v
readable bytes v is =
    let has = (exactly bytes v).0 is in
    record { whole = has.numbers; shallow = depth-value_of bytes v has.value; ordered = order-object_of bytes v is }

-- ---- a member of a readable value

shallow_at : (o : Ordering) (e d : Data) (later : Option Data) (n : ℕ) → depth e ≤ n → (later ≡ Some d → depth d ≤ n)
    → match_ordering o later (Some e) later ≡ Some d → depth d ≤ n
shallow_at Less e d later n here there is = there is
shallow_at Greater e d later n here there is = there is
shallow_at Equal e d later n here there is = let same : e ≡ d = cc in rw same at here

shallow-get_member : (name : List ℕ) (ms : Members) (d : Data) (n : ℕ) → members_depth ms ≤ n → get_member name ms ≡ Some d → depth d ≤ n
shallow-get_member name no_members d n shallow is = cc
shallow-get_member name (member next e ms) d n shallow is =
    shallow_at (slice_cmp nat_cmp name next) e d (get_member name ms) n (omega arith) (shallow-get_member name ms d n (omega arith)) is

ordered_at : (o : Ordering) (e d : Data) (later : Option Data) → IsInByteOrder e → (later ≡ Some d → IsInByteOrder d)
    → match_ordering o later (Some e) later ≡ Some d → IsInByteOrder d
ordered_at Less e d later here there is = there is
ordered_at Greater e d later here there is = there is
ordered_at Equal e d later here there is = let same : e ≡ d = cc in rw same at here

ordered-get_member : (name : List ℕ) (ms : Members) (d : Data) → MembersInByteOrder ms → get_member name ms ≡ Some d → IsInByteOrder d
ordered-get_member name no_members d ordered is = cc
ordered-get_member name (member next e ms) d ordered is =
    ordered_at (slice_cmp nat_cmp name next) e d (get_member name ms) ordered.1 (ordered-get_member name ms d ordered.2) is

pub readable_member : (name : List ℕ) (v d : Data) → get name v ≡ Some d → IsReadable v → IsReadable d
readable_member name null d is readable = cc
readable_member name (boolean b) d is readable = cc
readable_member name (number n) d is readable = cc
readable_member name (string s) d is readable = cc
readable_member name (array ds) d is readable = cc
readable_member name (object ms) d is readable =
    let within = readable.shallow in
    record {
      whole = whole_member name (object ms) d is readable.whole;
      shallow = shallow-get_member name ms d max_depth (omega arith) is;
      ordered = ordered-get_member name ms d readable.ordered is;
    }

-- ---- its compact text

pub reads_back : (v : Data) → IsReadable v → read (compact_text v) ≡ Some v
reads_back v readable = read-compact_text v readable.whole readable.shallow readable.ordered

pub object_text : (v : Data) → IsReadable v → is_object v ≡ true → is_object_text (compact_text v) ≡ true
object_text v readable kind =
    ap (λ o. is_text_of (compact_text v) (object_if o)) (reads_back v readable)
    ∙ ap (λ a. is_text_of (compact_text v) (cond a (cond (is_whole v) (Ok v) (Err Number)) (Err NotObject))) kind
    ∙ ap (λ a. is_text_of (compact_text v) (cond a (Ok v) (Err Number))) readable.whole
    ∙ nat_list_eq_equiv.refl (compact_text v)

pub empty_object : is_object_text (codes "{}") ≡ true
empty_object = object_text (object no_members) (record { whole = refl; shallow = lit≤ tt; ordered = tt }) refl
