use Rattle.osb_audit.specs.Plans.{pair_in}
use Rattle.osb_audit.proofs.SetLemmas.{adds_one}
use Rattle.osb_audit.proofs.plans.add.Goals as goal

pub returns : goal.returns
returns c = adds_one (pair_in c.args.attributes.now) _ c.args.plans.now c.insert.new.self (λ i. (c.in_ok-service.ensures.cases i, c.in_ok-plan.ensures.cases i)) c.in_ok-insert.ensures.updates.0
