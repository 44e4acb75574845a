-- Whether the orders of each plan of a settings file are carried out at once, or later.
use Rattle.std.specs.Prelude.{ℕ, List, [], ◌∷◌, codes}
use Rattle.std.specs.List.{concat}
use Rattle.serde_json.specs.Data.{Data}
use Rattle.osb_catalog.specs.declared.field.Field.TheVariants as the
use Rattle.osb_catalog.specs.declared.plan.Timing.{Timing}
use Rattle.osb_catalog.specs.declared.plan.Timing.TheVariants.{Synchronous, Asynchronous}
use Rattle.osb_catalog.specs.Fields.{text_at, services_of, plans_of, mode_of_plan}
use Rattle.osb_catalog.specs.Items.{all_of_each}
use Rattle.osb_catalog.specs.Modes.{timing_at}
use Rattle.osb_advice.specs.Past.{shown}

abbrev pub timing_name : Timing → List ℕ
timing_name Synchronous = codes "synchronous"
timing_name Asynchronous = codes "asynchronous"

-- of the plan with that id, which has this mode
abbrev pub timing_line : List ℕ → Data → List ℕ
timing_line id mode =
    concat (codes "plan " ∷ shown id ∷ codes ": instances "
    ∷ timing_name (timing_at the.Instances mode)
    ∷ codes ", bindings " ∷ timing_name (timing_at the.Bindings mode) ∷ codes "\n" ∷ [])

unfoldable pub plan_timing : Data → Data → List ℕ
plan_timing file plan = timing_line (text_at the.Id plan) (mode_of_plan file (text_at the.Id plan))

abbrev pub service_timings : Data → Data → List ℕ
service_timings file service = all_of_each (plan_timing file) (plans_of service)

-- a line for each plan
abbrev pub timings : Data → List ℕ
timings file = all_of_each (service_timings file) (services_of file)
