use Rattle.std.proofs.Common.{◌≡◌, IfOk, subst}
use Rattle.osb_catalog.specs.Rules.{rules_of}
use Rattle.osb_orders.specs.ViewData.{data_in}
use Rattle.osb_machine.specs.Opened.{Opening, opened}
use Rattle.osb_machine.specs.Steps.{decision}
use Rattle.osb_machine.proofs.unbind.open_unbinding.Goals as goal

pub returns : goal.returns
returns c = subst (λ (opening : Opening). IfOk c.open.result (λ step. decision step ≡ opened (rules_of c.args.settings.now) (data_in c.args.view.now) opening)) c.in_ok-opening.ensures c.open.ensures
