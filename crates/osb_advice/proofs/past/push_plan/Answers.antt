use Rattle.std.proofs.Common.{ap, ◌∙◌}
use Rattle.serde_json.specs.View.{view}
use Rattle.osb_advice.specs.Past.{past_in_plan_at}
use Rattle.osb_advice.proofs.Pushed.{pushed_as}
use Rattle.osb_advice.proofs.past.push_plan.Goals as goal

pub returns : goal.returns
returns c = pushed_as c.push_plan_at.result _ _ _ _ (ap (λ path. past_in_plan_at path (view c.args.plan.now)) (c.as_str.ensures.value ∙ c.in_ok-path.ensures.ok)) c.push_plan_at.ensures
