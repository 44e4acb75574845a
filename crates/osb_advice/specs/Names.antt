-- Plans of one name in one service.
use Rattle.std.specs.Prelude.{ℕ, List, [], ◌∷◌, ◌+◌, ◌++◌, codes, decimal, if◌then◌else◌}
use Rattle.std.specs.List.{concat}
use Rattle.serde_json.specs.Data.{Data}
use Rattle.osb_catalog.specs.declared.field.Field.TheVariants as the
use Rattle.osb_catalog.specs.Fields.{text_at, services_of, plans_of}
use Rattle.osb_catalog.specs.Ids.{is_among}
use Rattle.osb_catalog.specs.Items.{each}
use Rattle.osb_advice.specs.Past.{lines_of}

abbrev pub name_line : ℕ → ℕ → List ℕ
name_line number at =
    concat (codes "two plans of one name: catalog.services[" ∷ decimal number ∷ codes "].plans["
    ∷ decimal at ∷ codes "]\n" ∷ [])

-- of the plans from `at` on, by their names, and those of the plans before
abbrev pub name_lines : ℕ → List (List ℕ) → ℕ → List (List ℕ) → List ℕ
name_lines number before at [] = []
name_lines number before at (name ∷ names) =
    (if is_among name before then name_line number at else [])
    ++ name_lines number (name ∷ before) (at + 1) names

abbrev pub service_names : ℕ → Data → List ℕ
service_names number service = name_lines number [] 0 (each (text_at the.Name) (plans_of service))

-- a line for each plan whose service has an earlier plan of its name
abbrev pub same_names : Data → List ℕ
same_names file = lines_of service_names 0 (services_of file)
