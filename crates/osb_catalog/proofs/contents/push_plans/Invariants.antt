use Rattle.std.proofs.Common.{◌≡◌, ◌++◌, drop}
use Rattle.serde_json.specs.View.{view, items_view}
use Rattle.osb_catalog.specs.Items.{each}
use Rattle.osb_catalog.specs.Contents.{plan_of}
use Rattle.osb_catalog.proofs.contents.push_plans.Given as goal

abbrev pub invariant-loop-plan : goal.invariant-loop-plan
invariant-loop-plan l = l.all.items ++ each (plan_of (view l.file) (view l.service)) (items_view (drop l.plan-index l.plans)) ≡ l.initial.all.items ++ each (plan_of (view l.file) (view l.service)) (items_view l.plans)
