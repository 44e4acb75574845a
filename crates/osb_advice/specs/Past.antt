-- The members of a settings file that the broker reads past, since their names aren't listed.
use Rattle.std.specs.Prelude.{ℕ, List, [], ◌∷◌, ◌+◌, ◌++◌, codes, decimal, bytes_eq, Bool, ◌||◌, if◌then◌else◌}
use Rattle.std.specs.List.{concat, list_any}
use Rattle.std.specs.Option.{option_map_or}
use Rattle.serde_json.specs.Data.{Data, Items, no_items, item, Members, no_members, member}
use Rattle.serde_json.specs.Find.{as_object}
use Rattle.osb_text.specs.Id.{has_no_controls}
use Rattle.osb_catalog.specs.declared.field.Field.{Field}
use Rattle.osb_catalog.specs.declared.field.Field.TheVariants as the
use Rattle.osb_catalog.specs.declared.table.FieldRule.{FieldRule}
use Rattle.osb_catalog.specs.Fields.{field_name, value_at, services_of, plans_of, modes_of}
use Rattle.osb_catalog.specs.Tables.{file_rules, catalog_rules, service_rules, plan_rules, mode_rules, service_left_out_rules, plan_left_out_rules}
use Rattle.osb_advice.specs.declared.object_kind.ObjectKind.{ObjectKind}
use Rattle.osb_advice.specs.declared.object_kind.ObjectKind.TheVariants as an

-- the name, or a question mark if it has a control character, which could break the line
abbrev pub shown : List ℕ → List ℕ
shown name = if has_no_controls name then name else codes "?"

abbrev pub is_in : List ℕ → List Field → Bool
is_in name fields = list_any (λ field. bytes_eq (field_name field) name) fields

abbrev pub is_in_rules : List ℕ → List FieldRule → Bool
is_in_rules name rules = list_any (λ rule. bytes_eq (field_name rule.field) name) rules

-- whether the object lists the name: the broker reads it there, or refuses it there
abbrev pub lists : ObjectKind → List ℕ → Bool
lists an.File name = is_in_rules name file_rules
lists an.Login name = is_in name (the.User ∷ the.Password ∷ the.Also ∷ [])
lists an.SecondLogin name = is_in name (the.User ∷ the.Password ∷ [])
lists an.Catalog name = is_in_rules name catalog_rules
lists an.Service name = is_in_rules name service_rules || is_in_rules name service_left_out_rules
lists an.Plan name = is_in_rules name plan_rules || is_in_rules name plan_left_out_rules
lists an.MaintenanceInfo name = is_in name (the.Version ∷ the.Description ∷ [])
lists an.Mode name = is_in_rules name mode_rules

-- ---- of one object: its path ends in a dot, and that of the file is empty

unfoldable pub past_line : ObjectKind → List ℕ → List ℕ → List ℕ
past_line kind path name =
    if lists kind name then []
    else concat (codes "read past: " ∷ path ∷ shown name ∷ codes "\n" ∷ [])

abbrev pub past_members : ObjectKind → List ℕ → Members → List ℕ
past_members kind path no_members = []
past_members kind path (member name d ms) = past_line kind path name ++ past_members kind path ms

abbrev pub past_in : ObjectKind → List ℕ → Data → List ℕ
past_in kind path v = option_map_or (past_members kind path) (as_object v) []

-- of the object that another one has under the field
abbrev pub past_at : ObjectKind → List ℕ → Field → Data → List ℕ
past_at kind path field v = option_map_or (past_in kind path) (value_at field v) []

-- ---- of all objects

-- the lines that f has for each item, counted from a number
abbrev pub lines_of : (ℕ → Data → List ℕ) → ℕ → Items → List ℕ
lines_of f at no_items = []
lines_of f at (item d ds) = f at d ++ lines_of f (at + 1) ds

abbrev pub past_in_login : List ℕ → List ℕ → Data → List ℕ
past_in_login path also login =
    past_in an.Login path login ++ past_at an.SecondLogin also the.Also login

abbrev pub past_in_logins : Data → List ℕ
past_in_logins file =
    option_map_or (past_in_login (codes "platform.") (codes "platform.also."))
    (value_at the.Platform file) []
    ++ option_map_or (past_in_login (codes "backend.") (codes "backend.also."))
    (value_at the.Backend file) []

abbrev pub service_path : ℕ → List ℕ
service_path at = concat (codes "catalog.services[" ∷ decimal at ∷ codes "]." ∷ [])

abbrev pub plan_path : ℕ → ℕ → List ℕ
plan_path number at =
    concat (codes "catalog.services[" ∷ decimal number ∷ codes "].plans[" ∷ decimal at ∷ codes "]."
    ∷ [])

abbrev pub past_in_info : List ℕ → Data → List ℕ
past_in_info path plan =
    past_at an.MaintenanceInfo (path ++ codes "maintenance_info.") the.MaintenanceInfo plan

-- of the plan with that path, and of its `maintenance_info`
abbrev pub past_in_plan_at : List ℕ → Data → List ℕ
past_in_plan_at path plan = past_in an.Plan path plan ++ past_in_info path plan

abbrev pub past_in_plan : ℕ → ℕ → Data → List ℕ
past_in_plan number at plan = past_in_plan_at (plan_path number at) plan

-- of the service, and of its plans
abbrev pub past_in_service : ℕ → Data → List ℕ
past_in_service at service =
    past_in an.Service (service_path at) service ++ lines_of (past_in_plan at) 0 (plans_of service)

abbrev pub past_in_mode : List ℕ → Data → List ℕ
past_in_mode name mode =
    past_in an.Mode (concat (codes "modes." ∷ shown name ∷ codes "." ∷ [])) mode

abbrev pub past_in_modes : Members → List ℕ
past_in_modes no_members = []
past_in_modes (member name mode ms) = past_in_mode name mode ++ past_in_modes ms

-- a line for each member whose name its object doesn't list; none for members inside `metadata` and `credentials`
abbrev pub past : Data → List ℕ
past file =
    past_in an.File [] file
    ++ past_in_logins file
    ++ past_at an.Catalog (codes "catalog.") the.Catalog file
    ++ lines_of past_in_service 0 (services_of file)
    ++ past_in_modes (modes_of file)
