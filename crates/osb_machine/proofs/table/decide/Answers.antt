use Rattle.std.proofs.Common.{◌≡◌, subst, IfOk}
use Rattle.osb_catalog.specs.Rules.{rules_of}
use Rattle.osb_orders.specs.ViewData.{ViewData}
use Rattle.osb_machine.specs.Answer.{answer}
use Rattle.osb_machine.specs.Steps.{decision}
use Rattle.osb_machine.proofs.table.decide.Goals as goal

pub returns-clause-machine : goal.returns-clause-machine
returns-clause-machine c = λ lives same.
    subst (λ (facts : ViewData). IfOk c.by_table.result (λ step. decision step ≡ answer (rules_of c.args.settings.now) facts c.args.ask.now)) same c.by_table.ensures.table
