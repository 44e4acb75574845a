-- Values whose objects have their names in the order of their bytes, each name once.
use Rattle.std.specs.Prelude.{◌≡◌, ℕ, List, ⊤}
use Rattle.std.specs.declared.cmp.Ordering.TheVariants.{Less}
use Rattle.std.specs.Ordering.{nat_cmp}
use Rattle.std.specs.Cmp.Lexicographic.{slice_cmp}
use Rattle.serde_json.specs.Data.{Data, null, boolean, number, string, array, object, Items, no_items, item, Members, no_members, member}

-- the name comes before that of the first member
abbrev pub IsBefore : List ℕ → Members → Type 0
IsBefore name no_members = ⊤
IsBefore name (member next d ms) = slice_cmp nat_cmp name next ≡ Less

-- in each object in the value, each name comes before the next
abbrev mutual
  pub IsInByteOrder : Data → Type 0
  IsInByteOrder null = ⊤
  IsInByteOrder (boolean b) = ⊤
  IsInByteOrder (number n) = ⊤
  IsInByteOrder (string s) = ⊤
  IsInByteOrder (array ds) = ItemsInByteOrder ds
  IsInByteOrder (object ms) = MembersInByteOrder ms

  pub ItemsInByteOrder : Items → Type 0
  ItemsInByteOrder no_items = ⊤
  ItemsInByteOrder (item d ds) = IsInByteOrder d × ItemsInByteOrder ds

  pub MembersInByteOrder : Members → Type 0
  MembersInByteOrder no_members = ⊤
  MembersInByteOrder (member name d ms) = IsBefore name ms × IsInByteOrder d × MembersInByteOrder ms
