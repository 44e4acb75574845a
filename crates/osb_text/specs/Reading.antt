-- The object that a text has, and the fault of a text that has none.
use Rattle.std.specs.Prelude.{◌≡◌, Bool, true, Option, Some, None, Result, Ok, Err, is_some, if◌then◌else◌}
use Rattle.std.specs.Str.{is_utf8}
use Rattle.serde_json.specs.Data.{Data}
use Rattle.serde_json.specs.Find.{as_object}
use Rattle.serde_json.specs.Read.{read}
use Rattle.osb_text.specs.Names.{Bytes}
use Rattle.osb_text.specs.Whole.{is_whole}
use Rattle.osb_text.specs.declared.fault.TextFault.{TextFault}
use Rattle.osb_text.specs.declared.fault.TextFault.TheVariants.{NotJson, NotObject, Number}

-- the value that the bytes are a JSON text of (RFC 8259), as `serde_json` reads them
abbrev pub value_of : Bytes → Option Data
value_of bytes = if is_utf8 bytes then read bytes else None

abbrev pub is_object : Data → Bool
is_object v = is_some (as_object v)

-- the object that was read, or the first fault: nothing was read, no object was, or a number isn't whole
abbrev pub object_if : Option Data → Result Data TextFault
object_if None = Err NotJson
object_if (Some v) = if is_object v then (if is_whole v then Ok v else Err Number) else Err NotObject

-- the object that the bytes have, or their first fault
abbrev pub object_of : Bytes → Result Data TextFault
object_of bytes = object_if (value_of bytes)

-- The bytes have the object `v`: they are read as `v`, it is an object, and each number in it is whole and in range.
pub record HasObject (bytes : Bytes) (v : Data) : Type 0 where
  pub value : value_of bytes ≡ Some v
  pub kind : is_object v ≡ true
  pub numbers : is_whole v ≡ true
