use Rattle.std.proofs.Common.{◌≡◌}
use Rattle.serde_json.specs.View.{items_view, members_view}
use Rattle.osb_catalog.specs.Items.{any_member}
use Rattle.osb_catalog.specs.Modes.{names_no_plan}
use Rattle.osb_catalog.proofs.mode.some_names_no_plan.Given as goal

abbrev pub invariant-loop-id : goal.invariant-loop-id
invariant-loop-id l = any_member (names_no_plan (items_view l.services)) (members_view l.id-iterator) ≡ any_member (names_no_plan (items_view l.services)) (members_view l.modes.entries)
