-- Compact texts of objects, and the values whose compact text is read as the value again.
use Rattle.std.specs.Prelude.{◌≡◌, ◌≤◌, ℕ, List, Bool, true, false, Result, Ok, Err}
use Rattle.std.specs.Str.{bytes_eq}
use Rattle.serde_json.specs.Data.{Data, depth}
use Rattle.serde_json.specs.Read.{read, max_depth}
use Rattle.serde_json.specs.Written.{compact_text}
use Rattle.osb_text.specs.Order.{IsInByteOrder}
use Rattle.osb_text.specs.Reading.{object_if}
use Rattle.osb_text.specs.Whole.{is_whole}
use Rattle.osb_text.specs.declared.fault.TextFault.{TextFault}

abbrev pub is_text_of : List ℕ → Result Data TextFault → Bool
is_text_of text (Ok v) = bytes_eq text (compact_text v)
is_text_of text (Err fault) = false

-- the text has an object, and is its compact text
abbrev pub is_object_text : List ℕ → Bool
is_object_text text = is_text_of text (object_if (read text))

-- a value such as an object that was read has in it
pub record IsReadable (v : Data) : Type 0 where
  pub whole : is_whole v ≡ true
  pub shallow : depth v ≤ max_depth
  pub ordered : IsInByteOrder v
