use Rattle.std.proofs.Common.{ap, ◌∙◌}
use Rattle.serde_json.specs.View.{view}
use Rattle.osb_advice.specs.Past.{past_in}
use Rattle.osb_advice.specs.declared.object_kind.ObjectKind.TheVariants as an
use Rattle.osb_advice.proofs.Pushed.{pushed_as}
use Rattle.osb_advice.proofs.past.push_service_members.Goals as goal

pub returns : goal.returns
returns c = pushed_as c.push_object.result _ _ _ _ (ap (λ path. past_in an.Service path (view c.args.service.now)) (c.as_str.ensures.value ∙ c.in_ok-path.ensures.ok)) c.push_object.ensures
