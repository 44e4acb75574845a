-- The reason why a settings file has no object.
use Rattle.std.specs.Prelude.{◌≡◌, ℕ, List, [], ◌++◌, codes, decimal, Option, Some, None, Result, Err, option_map, unwrap_or}
use Rattle.serde_json.specs.Data.{Data}
use Rattle.osb_text.specs.Reading.{value_of, object_of}
use Rattle.osb_text.specs.declared.fault.TextFault.{TextFault}
use Rattle.osb_text.specs.declared.fault.TextFault.TheVariants as a
use Rattle.osb_advice.specs.Paths.{number_path}

-- some line and some column are named
pub record NamesPosition (text : List ℕ) : Type 0 where
  pub line : ℕ
  pub column : ℕ
  pub is : text ≡ codes "not JSON: line " ++ (decimal line ++ (codes ", column " ++ decimal column))

abbrev pub NamesPositionIn : Option (List ℕ) → Type 0
NamesPositionIn (Some text) = NamesPosition text
NamesPositionIn None = ⊥

-- with the path of the first such number in the value
abbrev pub number_line : Data → List ℕ
number_line v = codes "a number isn't whole, or out of range, at " ++ unwrap_or (number_path v) []

-- by the value that was read, and the fault of the text
abbrev pub IsReasonOf : Option Data → Result Data TextFault → Option (List ℕ) → Type 0
IsReasonOf value (Err a.NotJson) reason = NamesPositionIn reason
IsReasonOf value (Err a.NotObject) reason = reason ≡ Some (codes "not an object")
IsReasonOf value (Err a.Number) reason = reason ≡ option_map number_line value
IsReasonOf value _ reason = reason ≡ None

-- a line without its end, for a file that has no object
abbrev pub IsReason : List ℕ → Option (List ℕ) → Type 0
IsReason bytes reason = IsReasonOf (value_of bytes) (object_of bytes) reason
