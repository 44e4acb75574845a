-- Modes that name no plan, and asynchronous bindings that no platform could fetch.
use Rattle.std.specs.Prelude.{ℕ, List, codes, bytes_eq, Bool, true, false, not, ◌&&◌, ◌||◌, if◌then◌else◌}
use Rattle.serde_json.specs.Data.{Data, Items}
use Rattle.osb_catalog.specs.declared.field.Field.{Field}
use Rattle.osb_catalog.specs.declared.field.Field.TheVariants as the
use Rattle.osb_catalog.specs.declared.plan.Timing.{Timing}
use Rattle.osb_catalog.specs.declared.plan.Timing.TheVariants.{Synchronous, Asynchronous}
use Rattle.osb_catalog.specs.Fields.{text_at, flag_at, services_of, plans_of, modes_of, mode_of_plan}
use Rattle.osb_catalog.specs.Kinds.{is_null}
use Rattle.osb_catalog.specs.Ids.{is_among, plan_ids}
use Rattle.osb_catalog.specs.Items.{any_item, any_member}

-- synchronous where the mode doesn't say
abbrev pub timing_at : Field → Data → Timing
timing_at field mode =
    if bytes_eq (text_at field mode) (codes "asynchronous") then Asynchronous else Synchronous

abbrev pub is_asynchronous : Timing → Bool
is_asynchronous Synchronous = false
is_asynchronous Asynchronous = true

-- a null counts as absent, whatever its name
abbrev pub names_no_plan : Items → List ℕ → Data → Bool
names_no_plan services id mode = not (is_null mode) && not (is_among id (plan_ids services))

abbrev pub binds_later : Data → Data → Bool
binds_later file plan =
    is_asynchronous (timing_at the.Bindings (mode_of_plan file (text_at the.Id plan)))

-- some plan of the service has asynchronous bindings, and its bindings can't be fetched
abbrev pub has_lost_bindings : Data → Data → Bool
has_lost_bindings file service =
    not (flag_at the.BindingsRetrievable service) && any_item (binds_later file) (plans_of service)

abbrev pub refuses_modes : Data → Bool
refuses_modes file =
    any_member (names_no_plan (services_of file)) (modes_of file)
    || any_item (has_lost_bindings file) (services_of file)
