-- The machine: an ask is answered from the lives of all instances, and takes a step on them.
use Rattle.osb_catalog.specs.Rules.{Rules}
use Rattle.osb_asks.specs.declared.ask.Ask.{Ask}
use Rattle.osb_orders.specs.Lives.{Lives}
use Rattle.osb_asks.specs.Subjects.{instance_id_of}
use Rattle.osb_orders.specs.ViewData.{view_of}
use Rattle.osb_orders.specs.Changed.{after_change}
use Rattle.osb_machine.specs.Decision.{Decision}
use Rattle.osb_machine.specs.Answer.{answer}

abbrev pub answer_to : Rules → Lives → Ask → Decision
answer_to rules lives ask = answer rules (view_of lives ask) ask

-- the change is made to the life of the instance that the ask names; all others stay
abbrev pub after_step : Rules → Lives → Ask → Lives
after_step rules lives ask = after_change (answer_to rules lives ask).change lives (instance_id_of ask)
