use Rattle.std.proofs.Common.{◌≡◌, ◌++◌, drop, string_bytes}
use Rattle.serde_json.specs.View.{view, items_view}
use Rattle.osb_catalog.specs.Items.{all_of_each}
use Rattle.osb_advice.specs.Timings.{plan_timing}
use Rattle.osb_advice.proofs.timings.push_plans.Given as goal

abbrev pub invariant-loop-plan : goal.invariant-loop-plan
invariant-loop-plan l = string_bytes l.text ++ all_of_each (plan_timing (view l.file)) (items_view (drop l.plan-index l.plans)) ≡ string_bytes l.initial.text ++ all_of_each (plan_timing (view l.file)) (items_view l.plans)
