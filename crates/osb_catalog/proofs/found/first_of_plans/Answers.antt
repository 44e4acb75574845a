use Rattle.std.proofs.Common.{◌≡◌, IfOk, ap, subst, ◌∙◌}
use Rattle.serde_json.specs.View.{view}
use Rattle.osb_catalog.specs.IdSet.{texts}
use Rattle.osb_catalog.specs.Ids.{plan_ids}
use Rattle.osb_catalog.specs.Found.{first_planned}
use Rattle.osb_catalog.proofs.found.first_of_plans.Goals as goal

pub returns : goal.returns
returns c =
    let ids = ap texts c.deref.ensures.value ∙ c.in_ok-ids.ensures ∙ ap plan_ids c.services_of.ensures.found in
    subst (λ ids. IfOk c.first_planned.result (λ place. place ≡ first_planned ids c.args.fault (view c.args.file.now))) ids c.first_planned.ensures
