-- Values whose numbers are all whole and in range. RFC 8259, section 6, leaves the range of numbers to the
-- reader: here it is what 64 bits hold, so that a compact text is exact.
use Rattle.std.specs.Prelude.{◌^◌, pos, negsuc, Bool, true, false, ◌&&◌, nat_lt}
use Rattle.serde_json.specs.Data.{Num, unsigned, negative, float, Data, null, boolean, number, string, array, object, Items, no_items, item, Members, no_members, member}

-- from -2^63 to 2^64 - 1; `negsuc n` is -(n + 1)
abbrev pub is_whole_number : Num → Bool
is_whole_number (unsigned n) = nat_lt n (2 ^ 64)
is_whole_number (negative (pos n)) = false
is_whole_number (negative (negsuc n)) = nat_lt n (2 ^ 63)
is_whole_number (float x) = false

-- each number anywhere in the value is whole and in range
abbrev mutual
  pub is_whole : Data → Bool
  is_whole null = true
  is_whole (boolean b) = true
  is_whole (number n) = is_whole_number n
  is_whole (string s) = true
  is_whole (array ds) = items_are_whole ds
  is_whole (object ms) = members_are_whole ms

  pub items_are_whole : Items → Bool
  items_are_whole no_items = true
  items_are_whole (item d ds) = is_whole d && items_are_whole ds

  pub members_are_whole : Members → Bool
  members_are_whole no_members = true
  members_are_whole (member name d ms) = is_whole d && members_are_whole ms
