-- The path of the first number in a file that isn't whole or in range, as `catalog.services[0].metadata.cost`.
use Rattle.std.specs.Prelude.{ℕ, List, [], ◌+◌, ◌++◌, codes, decimal, Option, Some, None, option_map, option_and_then, if◌then◌else◌}
use Rattle.std.specs.Option.{option_or}
use Rattle.serde_json.specs.Data.{Data, null, boolean, number, string, array, object, Items, no_items, item, Members, no_members, member}
use Rattle.serde_json.specs.Find.{as_object, is_float}
use Rattle.osb_advice.specs.Past.{shown}

abbrev pub item_path : ℕ → List ℕ → List ℕ
item_path at path = codes "[" ++ (decimal at ++ (codes "]" ++ path))

-- the first member of an object has no dot before its name
abbrev pub member_path : List ℕ → List ℕ → List ℕ → List ℕ
member_path dot name path = dot ++ (shown name ++ path)

-- in a file that was read, a number that isn't whole or in range is a float
abbrev mutual
  pub path_in : Data → Option (List ℕ)
  path_in null = None
  path_in (boolean b) = None
  path_in (number n) = if is_float n then Some [] else None
  path_in (string s) = None
  path_in (array ds) = path_in_items 0 ds
  path_in (object ms) = path_in_members (codes ".") ms

  -- the items are counted from a number
  pub path_in_items : ℕ → Items → Option (List ℕ)
  path_in_items at no_items = None
  path_in_items at (item d ds) =
      option_or (option_map (item_path at) (path_in d)) (path_in_items (at + 1) ds)

  pub path_in_members : List ℕ → Members → Option (List ℕ)
  path_in_members dot no_members = None
  path_in_members dot (member name d ms) =
      option_or (option_map (member_path dot name) (path_in d)) (path_in_members dot ms)

abbrev pub number_path : Data → Option (List ℕ)
number_path file = option_and_then (path_in_members []) (as_object file)
