-- Names of services and plans with a space.
use Rattle.std.specs.Prelude.{ℕ, List, [], ◌∷◌, ◌++◌, ◌==◌, codes, decimal, Bool, if◌then◌else◌}
use Rattle.std.specs.List.{concat, list_any}
use Rattle.serde_json.specs.Data.{Data}
use Rattle.osb_catalog.specs.declared.field.Field.TheVariants as the
use Rattle.osb_catalog.specs.Fields.{text_at, services_of, plans_of}
use Rattle.osb_advice.specs.Past.{lines_of}

-- of a service or a plan
abbrev pub name_has_space : Data → Bool
name_has_space named = list_any (λ byte. byte == 32) (text_at the.Name named)

abbrev pub service_line : ℕ → List ℕ
service_line at =
    concat (codes "a space in a name: catalog.services[" ∷ decimal at ∷ codes "]\n" ∷ [])

abbrev pub plan_line : ℕ → ℕ → List ℕ
plan_line number at =
    concat (codes "a space in a name: catalog.services[" ∷ decimal number ∷ codes "].plans["
    ∷ decimal at ∷ codes "]\n" ∷ [])

abbrev pub plan_spaces : ℕ → ℕ → Data → List ℕ
plan_spaces number at plan = if name_has_space plan then plan_line number at else []

-- of the service, and of its plans
abbrev pub service_spaces : ℕ → Data → List ℕ
service_spaces at service =
    (if name_has_space service then service_line at else [])
    ++ lines_of (plan_spaces at) 0 (plans_of service)

-- a line for each service and each plan whose name has a space
abbrev pub spaces : Data → List ℕ
spaces file = lines_of service_spaces 0 (services_of file)
