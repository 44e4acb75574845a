-- Going over the items of a JSON list and the members of a JSON object.
use Rattle.std.specs.Prelude.{ℕ, List, [], ◌∷◌, ◌++◌, Bool, true, false, ◌&&◌, ◌||◌, Option, None}
use Rattle.std.specs.Option.{option_or}
use Rattle.serde_json.specs.Data.{Data, Items, no_items, item, Members, no_members, member}

-- the first answer that f has for an item
abbrev pub first_in : {A : Type 0} → (Data → Option A) → Items → Option A
first_in f no_items = None
first_in f (item d ds) = option_or (f d) (first_in f ds)

-- the first answer that f has for the value of a member
abbrev pub first_of_members : {A : Type 0} → (Data → Option A) → Members → Option A
first_of_members f no_members = None
first_of_members f (member name d ms) = option_or (f d) (first_of_members f ms)

-- the first answer of several
abbrev pub first_of : {A : Type 0} → List (Option A) → Option A
first_of [] = None
first_of (o ∷ os) = option_or o (first_of os)

abbrev pub any_item : (Data → Bool) → Items → Bool
any_item p no_items = false
any_item p (item d ds) = p d || any_item p ds

abbrev pub all_items : (Data → Bool) → Items → Bool
all_items p no_items = true
all_items p (item d ds) = p d && all_items p ds

-- p is asked of the name and the value of each member
abbrev pub any_member : (List ℕ → Data → Bool) → Members → Bool
any_member p no_members = false
any_member p (member name d ms) = p name d || any_member p ms

abbrev pub all_members : (Data → Bool) → Members → Bool
all_members p no_members = true
all_members p (member name d ms) = p d && all_members p ms

-- what f makes of each item
abbrev pub each : {A : Type 0} → (Data → A) → Items → List A
each f no_items = []
each f (item d ds) = f d ∷ each f ds

-- what f makes of each item, one list after the other
abbrev pub all_of_each : {A : Type 0} → (Data → List A) → Items → List A
all_of_each f no_items = []
all_of_each f (item d ds) = f d ++ all_of_each f ds
