use Rattle.std.proofs.Common.{◌≡◌, ◌++◌, drop, string_bytes}
use Rattle.serde_json.specs.View.{view, items_view}
use Rattle.osb_advice.specs.Nothing.{plan_nothing}
use Rattle.osb_advice.specs.Past.{lines_of}
use Rattle.osb_advice.proofs.nothing.push_plans.Given as goal

abbrev pub invariant-loop-at : goal.invariant-loop-at
invariant-loop-at l = string_bytes l.text ++ lines_of (plan_nothing (view l.file) (view l.service) l.number) l.at (items_view (drop l.at l.plans)) ≡ string_bytes l.initial.text ++ lines_of (plan_nothing (view l.file) (view l.service) l.number) 0 (items_view l.plans)
