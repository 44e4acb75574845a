-- Plans whose bindings are made at once and give nothing.
use Rattle.std.specs.Prelude.{ℕ, List, [], ◌∷◌, ◌++◌, codes, decimal, Bool, true, false, not, ◌&&◌, Option, Some, None, if◌then◌else◌}
use Rattle.std.specs.List.{concat}
use Rattle.serde_json.specs.Data.{Data, Members, no_members, member}
use Rattle.serde_json.specs.Find.{as_object}
use Rattle.osb_catalog.specs.declared.field.Field.TheVariants as the
use Rattle.osb_catalog.specs.Contents.{flag_over}
use Rattle.osb_catalog.specs.Fields.{text_at, value_at, services_of, plans_of, mode_of_plan}
use Rattle.osb_catalog.specs.Kinds.{is_none_or, is_some_and}
use Rattle.osb_catalog.specs.Modes.{is_asynchronous, timing_at}
use Rattle.osb_advice.specs.Past.{lines_of}

abbrev pub has_no_members : Members → Bool
has_no_members no_members = true
has_no_members (member name d ms) = false

abbrev pub is_empty_object : Data → Bool
is_empty_object d = is_some_and has_no_members (as_object d)

-- the mode has no credentials, or `{}`
abbrev pub gives_nothing : Data → Bool
gives_nothing mode = is_none_or is_empty_object (value_at the.Credentials mode)

abbrev pub is_later : Data → Bool
is_later mode = is_asynchronous (timing_at the.Bindings mode)

-- bindings of this mode are made at once and give nothing
abbrev pub binds_with_nothing : Data → Bool
binds_with_nothing mode = not (is_later mode) && gives_nothing mode

-- and a plan that has it may be bound
abbrev pub binds_to_nothing : Data → Data → Data → Bool
binds_to_nothing file service plan =
    flag_over the.Bindable plan service
    && binds_with_nothing (mode_of_plan file (text_at the.Id plan))

abbrev pub nothing_line : ℕ → ℕ → List ℕ
nothing_line number at =
    concat (codes "bindings give {}: catalog.services[" ∷ decimal number ∷ codes "].plans["
    ∷ decimal at ∷ codes "]\n" ∷ [])

unfoldable pub plan_nothing : Data → Data → ℕ → ℕ → Data → List ℕ
plan_nothing file service number at plan =
    if binds_to_nothing file service plan then nothing_line number at else []

abbrev pub service_nothing : Data → ℕ → Data → List ℕ
service_nothing file number service =
    lines_of (plan_nothing file service number) 0 (plans_of service)

-- a line for each such plan
abbrev pub nothing : Data → List ℕ
nothing file = lines_of (service_nothing file) 0 (services_of file)
