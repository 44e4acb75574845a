-- What a look-up of a member by its name gives.
use Rattle.std.specs.Prelude.{◌≡◌, ℕ, Option, Some, None, Result, Ok, Err, option_map, option_and_then, ok_or, is_some, if◌then◌else◌}
use Rattle.std.specs.Option.{option_transpose}
use Rattle.serde_json.specs.Data.{Data, object}
use Rattle.serde_json.specs.Find.{get, as_null, as_number, as_u64, as_object}
use Rattle.osb_text.specs.Names.{Bytes}
use Rattle.osb_text.specs.declared.fault.TextFault.{TextFault}
use Rattle.osb_text.specs.declared.fault.TextFault.TheVariants.{WrongKind}

-- a null counts as absent
abbrev pub unless_null : Data → Option Data
unless_null d = if is_some (as_null d) then None else Some d

-- the member of the name, if the value is an object that has one
abbrev pub member_of : Bytes → Data → Option Data
member_of name v = option_and_then unless_null (get name v)

-- what is read of a value that may be absent
abbrev pub if_given : {A B F : Type 0} → (A → Result B F) → Option A → Result (Option B) F
if_given read value = option_transpose (option_map read value)

-- The member of the name as a value of the kind: none where it is absent or null.
abbrev pub field : {A : Type 0} → (Data → Option A) → Bytes → Data → Result (Option A) TextFault
field kind name v = if_given (λ d. ok_or (kind d) WrongKind) (member_of name v)

-- a number that is whole and not negative
abbrev pub as_whole : Data → Option ℕ
as_whole d = option_and_then as_u64 (as_number d)

-- the value itself, where it is an object
abbrev pub object_value : Data → Option Data
object_value d = option_map object (as_object d)

-- The look-up's result, seen by `view`, is what is found.
abbrev pub Gives : {X Y : Type 0} → (X → Y) → Result (Option X) TextFault →
    Result (Option Y) TextFault → Type 0
Gives view (Ok o) found = found ≡ Ok (option_map view o)
Gives view (Err fault) found = found ≡ Err fault
