-- How the catalog's text is put together. For contracts inside the crate.
use Rattle.std.specs.Prelude.{ℕ, List, [], ◌∷◌, ◌++◌, codes, Bool, true, false, Option, Some, None}
use Rattle.serde_json.specs.Data.{Data, Items, no_items, item}
use Rattle.serde_json.specs.Written.{compact_text, comma_if}
use Rattle.osb_catalog.specs.declared.field.Field.{Field}
use Rattle.osb_catalog.specs.Fields.{field_name, value_at}

-- "NAME":TEXT
abbrev pub member_text : Field → List ℕ → List ℕ
member_text field text = codes "\"" ++ (field_name field ++ (codes "\":" ++ text))

-- the member's text, where it is there
abbrev pub piece : (Data → Data) → Field → Option Data → List (List ℕ)
piece show field None = []
piece show field (Some d) = member_text field (compact_text (show d)) ∷ []

abbrev pub pieces : List (Field × (Data → Data)) → Data → List (List ℕ)
pieces [] v = []
pieces (f ∷ fs) v = piece f.1 f.0 (value_at f.0 v) ++ pieces fs v

-- the pieces of fields that are shown whole
abbrev pub whole_pieces : List Field → Data → List (List ℕ)
whole_pieces [] v = []
whole_pieces (f ∷ fs) v = piece (λ d. d) f (value_at f v) ++ whole_pieces fs v

abbrev pub item_pieces : (Data → Data) → Items → List (List ℕ)
item_pieces show no_items = []
item_pieces show (item d ds) = compact_text (show d) ∷ item_pieces show ds

-- with commas between them, and one before the first where something comes before
abbrev pub joined_by_commas : Bool → List (List ℕ) → List ℕ
joined_by_commas later [] = []
joined_by_commas later (t ∷ ts) = (comma_if later ++ t) ++ joined_by_commas true ts

abbrev pub enclosed : List ℕ → List (List ℕ) → List ℕ → List ℕ
enclosed before texts after = before ++ (joined_by_commas false texts ++ after)
