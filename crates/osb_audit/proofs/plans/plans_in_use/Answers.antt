use Rattle.std.proofs.Common.{◌∙◌}
use Rattle.std.proofs.lemmas.Result.{IfOk-weaker}
use Rattle.osb_audit.proofs.PlanLemmas.{gathered}
use Rattle.osb_audit.proofs.plans.plans_in_use.Goals as goal

pub returns : goal.returns
returns c = λ lives limit instances h rises stand room listed added.
    IfOk-weaker c.listed.result _ _ (λ plans items. items ∙ gathered lives limit instances c.args.running.now c.args.standing c.add_updating.new.plans h rises stand room listed
    added c.in_ok-add_updating.ensures c.listed.ensures.ordered) c.listed.ensures.items
