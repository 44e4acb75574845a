-- What the broker answers to an ask, and what it does to the life that the ask names: a function of the settings, the
-- facts of the lives and the ask.
use Rattle.osb_catalog.specs.Rules.{Rules}
use Rattle.osb_replies.specs.declared.status.Status.TheVariants as status
use Rattle.osb_asks.specs.declared.ask.Ask.{Ask}
use Rattle.osb_asks.specs.declared.ask.Ask.TheVariants as the
use Rattle.osb_orders.specs.declared.order.OrderKind.TheVariants.{Delete, Unbind}
use Rattle.osb_orders.specs.ViewData.{ViewData}
use Rattle.osb_machine.specs.Decision.{Decision, says}
use Rattle.osb_machine.specs.Provision.{provision}
use Rattle.osb_machine.specs.Fetch.{fetch}
use Rattle.osb_machine.specs.Update.{update}
use Rattle.osb_machine.specs.Deprovision.{deprovision}
use Rattle.osb_machine.specs.Polls.{poll}
use Rattle.osb_machine.specs.Bind.{bind}
use Rattle.osb_machine.specs.FetchBinding.{fetch_binding}
use Rattle.osb_machine.specs.Unbind.{unbind}
use Rattle.osb_machine.specs.Listed.{orders_body}
use Rattle.osb_machine.specs.Report.{report}

-- the catalog is that of the settings (OSB API 2.17, "Catalog Management")
abbrev pub answer : Rules → ViewData → Ask → Decision
answer rules facts the.Catalog = says status.Ok rules.catalog
answer rules facts (the.Provision ask) = provision rules facts ask
answer rules facts (the.Fetch ask) = fetch facts.standing
answer rules facts (the.Update ask) = update rules facts ask
answer rules facts (the.Deprovision ask) = deprovision rules facts ask
answer rules facts (the.InstanceOp ask) = poll Delete ask.operation facts.named facts.subject_last
answer rules facts (the.Bind ask) = bind rules facts ask
answer rules facts (the.FetchBinding ask) = fetch_binding facts.binding
answer rules facts (the.Unbind ask) = unbind rules facts ask
answer rules facts (the.BindingOp ask) = poll Unbind ask.operation facts.named facts.subject_last
answer rules facts (the.Orders ask) = says status.Ok (orders_body facts.listing)
answer rules facts (the.Report ask) = report ask facts.named
