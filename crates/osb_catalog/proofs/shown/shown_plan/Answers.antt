use Rattle.std.proofs.Common.{◌∙◌}
use Rattle.serde_json.specs.View.{view}
use Rattle.osb_catalog.specs.Catalog.{shown_in_plan}
use Rattle.osb_catalog.proofs.CatalogTexts.{shown_is}
use Rattle.osb_catalog.proofs.shown.shown_plan.Goals as goal

pub returns : goal.returns
returns c = shown_is c.object_text.result shown_in_plan (view c.args.plan.now) _ (c.as_slice.ensures.value ∙ c.in_ok-members.ensures) c.object_text.ensures
