-- Ids, and those that are there twice.
use Rattle.std.specs.Prelude.{ℕ, List, [], ◌∷◌, bytes_eq, Bool, false, ◌||◌}
use Rattle.std.specs.List.{list_any}
use Rattle.serde_json.specs.Data.{Data, Items}
use Rattle.osb_catalog.specs.declared.field.Field.TheVariants as the
use Rattle.osb_catalog.specs.Fields.{text_at, services_of, plans_of}
use Rattle.osb_catalog.specs.Items.{each, all_of_each}

abbrev pub is_among : List ℕ → List (List ℕ) → Bool
is_among id ids = list_any (bytes_eq id) ids

-- some id is there twice
abbrev pub has_double : List (List ℕ) → Bool
has_double [] = false
has_double (id ∷ ids) = is_among id ids || has_double ids

abbrev pub ids_of : Items → List (List ℕ)
ids_of = each (text_at the.Id)

-- the ids of the plans of all services
abbrev pub plan_ids : Items → List (List ℕ)
plan_ids = all_of_each (λ service. ids_of (plans_of service))

-- two services, or two plans of the catalog, have one id
abbrev pub has_double_id : Data → Bool
has_double_id file =
    has_double (ids_of (services_of file)) || has_double (plan_ids (services_of file))
