-- The catalog of a settings file is the compact text of an object.
use Rattle.std.proofs.Common.{◌≡◌, ◌≤◌, ℕ, Bool, true, ◌&&◌, List, [], ◌∷◌, Option, None, Some, nat_cmp, refl, option_and_then, unwrap_or, arith}
use Rattle.std.specs.List.{list_all, AllByRecursion}
use Rattle.std.specs.Ordering.{is_lt}
use Rattle.std.specs.Cmp.Lexicographic.{slice_cmp}
use Rattle.std.proofs.lemmas.Bool.{and_parts, and_from}
use Rattle.serde_json.specs.Data.{Data, null, boolean, number, string, array, object, Items, no_items, item, Members, items_depth}
use Rattle.serde_json.specs.Find.{get}
use Rattle.serde_json.specs.Read.{max_depth}
use Rattle.osb_text.specs.Member.{unless_null}
use Rattle.osb_text.specs.ObjectText.{IsReadable}
use Rattle.osb_text.specs.Order.{IsBefore, IsInByteOrder, ItemsInByteOrder, MembersInByteOrder}
use Rattle.osb_text.specs.Whole.{is_whole, items_are_whole, members_are_whole}
use Rattle.osb_text.proofs.ReadableLemmas.{readable_member}
use Rattle.osb_catalog.specs.declared.field.Field.{Field}
use Rattle.osb_catalog.specs.declared.field.Field.TheVariants as the
use Rattle.osb_catalog.specs.Fields.{field_name, value_at}
use Rattle.osb_catalog.specs.Catalog.{with_member, shown_members, shown, each_item, shown_list, whole, shown_in_maintenance_info, shown_in_plan, shown_in_service, shown_in_catalog, catalog_text}
use Rattle.osb_laws.specs.Bodies.{IsObjectBody}
use Rattle.osb_laws.proofs.ValueLemmas.{less}

-- what a value that is shown has to be
record IsShowable (v : Data) : Type 0 where
  ordered : IsInByteOrder v
  numbers : is_whole v ≡ true

abbrev Shows : (Data → Data) → Type 0
Shows show = (v : Data) → IsReadable v → IsShowable (show v)

shows_whole : Shows whole
shows_whole v readable = record { ordered = readable.ordered; numbers = readable.whole }

-- ---- what is in a value that was read

unless_null_is : (o : Option Data) (d : Data) → option_and_then unless_null o ≡ Some d → o ≡ Some d
unless_null_is None d is = is
unless_null_is (Some null) d is = cc
unless_null_is (Some (boolean b)) d is = is
unless_null_is (Some (number n)) d is = is
unless_null_is (Some (string s)) d is = is
unless_null_is (Some (array ds)) d is = is
unless_null_is (Some (object ms)) d is = is

readable_at : (field : Field) (v d : Data) → IsReadable v → value_at field v ≡ Some d → IsReadable d
readable_at field v d readable is = readable_member (field_name field) v d (unless_null_is (get (field_name field) v) d is) readable

null_is_readable : IsReadable null
null_is_readable = record { whole = refl; shallow = omega arith; ordered = tt }

or_null : (o : Option Data) → ((d : Data) → o ≡ Some d → IsReadable d) → IsReadable (unwrap_or o null)
or_null None readable = null_is_readable
or_null (Some d) readable = readable d refl

-- ---- lists

items_show : (f : Data → Data) → Shows f → (ds : Items) → items_are_whole ds ≡ true → items_depth ds ≤ max_depth → ItemsInByteOrder ds
    → ItemsInByteOrder (each_item f ds) × (items_are_whole (each_item f ds) ≡ true)
items_show f shows no_items numbers shallow ordered = (tt, refl)
items_show f shows (item d ds) numbers shallow ordered =
    let p = and_parts (is_whole d) (items_are_whole ds) numbers in
    let first = shows d (record { whole = p.0; shallow = omega (arith, shallow); ordered = ordered.0 }) in
    let rest = items_show f shows ds p.1 (omega (arith, shallow)) ordered.1 in
    ((first.ordered, rest.0), and_from _ _ first.numbers rest.1)

no_items_show : IsShowable (array no_items)
no_items_show = record { ordered = tt; numbers = refl }

-- ---- objects

abbrev Shown : Type 0
Shown = Field × (Data → Data)

-- the name is before each of these
abbrev is_before : List ℕ → List Shown → Bool
is_before name fields = list_all (λ (f : Shown). is_lt (slice_cmp nat_cmp name (field_name f.0))) fields

abbrev ascend : List Shown → Bool
ascend [] = true
ascend (f ∷ fs) = is_before (field_name f.0) fs && ascend fs

before_member : (name : List ℕ) (f : Shown) (o : Option Data) (others : Members) → is_lt (slice_cmp nat_cmp name (field_name f.0)) ≡ true → IsBefore name others
    → IsBefore name (with_member f.0 f.1 o others)
before_member name f None others is before = before
before_member name f (Some d) others is before = less _ is

before_shown : (name : List ℕ) (fs : List Shown) (v : Data) → is_before name fs ≡ true → IsBefore name (shown_members fs v)
before_shown name [] v is = tt
before_shown name (f ∷ fs) v is =
    let p = and_parts (is_lt (slice_cmp nat_cmp name (field_name f.0))) (is_before name fs) is in
    before_member name f (value_at f.0 v) (shown_members fs v) p.0 (before_shown name fs v p.1)

abbrev AreShowable : Members → Type 0
AreShowable ms = MembersInByteOrder ms × (members_are_whole ms ≡ true)

member_shows : (f : Shown) (o : Option Data) (others : Members) → ((d : Data) → o ≡ Some d → IsShowable (f.1 d)) → IsBefore (field_name f.0) others → AreShowable others
    → AreShowable (with_member f.0 f.1 o others)
member_shows f None others first before rest = rest
member_shows f (Some d) others first before rest = ((before, (first d refl).ordered, rest.0), and_from _ _ (first d refl).numbers rest.1)

members_show : (fs : List Shown) (v : Data) → ascend fs ≡ true → AllByRecursion (λ f. Shows f.1) fs → IsReadable v → AreShowable (shown_members fs v)
members_show [] v is shows readable = (tt, refl)
members_show (f ∷ fs) v is shows readable =
    let p = and_parts (is_before (field_name f.0) fs) (ascend fs) is in
    member_shows f (value_at f.0 v) (shown_members fs v) (λ d there. shows.0 d (readable_at f.0 v d readable there)) (before_shown (field_name f.0) fs v p.0)
    (members_show fs v p.1 shows.1 readable)

shows_object : (fs : List Shown) → ascend fs ≡ true → AllByRecursion (λ f. Shows f.1) fs → Shows (shown fs)
shows_object fs is shows v readable = let all = members_show fs v is shows readable in record { ordered = all.0; numbers = all.1 }

shows_list : (fs : List Shown) → ascend fs ≡ true → AllByRecursion (λ f. Shows f.1) fs → Shows (shown_list fs)
shows_list fs is shows null readable = no_items_show
shows_list fs is shows (boolean b) readable = no_items_show
shows_list fs is shows (number n) readable = no_items_show
shows_list fs is shows (string s) readable = no_items_show
shows_list fs is shows (object ms) readable = no_items_show
shows_list fs is shows (array ds) readable =
    let all = items_show (shown fs) (shows_object fs is shows) ds readable.whole (omega (arith, readable.shallow)) readable.ordered in
    record { ordered = all.0; numbers = all.1 }

-- ---- the catalog

abbrev w : Shows whole
w = shows_whole

plans_show : Shows (shown_list shown_in_plan)
plans_show = shows_list shown_in_plan refl (w, (w, (w, (w, (shows_object shown_in_maintenance_info refl (w, (w, tt)), (w, (w, (w, (w, tt)))))))))

services_show : Shows (shown_list shown_in_service)
services_show = shows_list shown_in_service refl (w, (w, (w, (w, (w, (w, (w, (w, (w, (plans_show, (w, tt)))))))))))

pub catalogs_are_objects : (file : Data) → IsReadable file → IsObjectBody (catalog_text file)
catalogs_are_objects file readable =
    let catalog = unwrap_or (value_at the.Catalog file) null in
    let all = members_show shown_in_catalog catalog refl (services_show, tt) (or_null (value_at the.Catalog file) (λ d is. readable_at the.Catalog file d readable is)) in
    record { members = shown_members shown_in_catalog catalog; text = refl; ordered = all.0; whole = all.1 }
