-- The rows of the answer table, by the resource that is there.
use Rattle.std.proofs.Common.{Option}
use Rattle.std.specs.Option.{option_map_or}
use Rattle.osb_catalog.specs.Rules.{Rules}
use Rattle.osb_asks.specs.declared.ask.Provision.{Provision}
use Rattle.osb_asks.specs.declared.ask.Update.{Update}
use Rattle.osb_asks.specs.declared.ask.Deprovision.{Deprovision}
use Rattle.osb_asks.specs.declared.ask.Bind.{Bind}
use Rattle.osb_asks.specs.declared.ask.Unbind.{Unbind}
use Rattle.osb_orders.specs.declared.view.Standing.{Standing}
use Rattle.osb_orders.specs.declared.view.BindingNow.{BindingNow}
use Rattle.osb_orders.specs.ViewData.{ViewData}
use Rattle.osb_machine.specs.Decision.{Decision, gone, not_found}
use Rattle.osb_machine.specs.Opened.{opened}
use Rattle.osb_machine.specs.Same.{is_same_instance}
use Rattle.osb_machine.specs.Provision.{creation, provision_over}
use Rattle.osb_machine.specs.Update.{target, update_over}
use Rattle.osb_machine.specs.Deprovision.{deprovision_over}
use Rattle.osb_machine.specs.Bind.{bind_over}
use Rattle.osb_machine.specs.Unbind.{unbind_over}

module _ (rules : Rules) (facts : ViewData) where
  abbrev pub provision_at : Provision → Option Standing → Decision
  provision_at ask standing = option_map_or (λ there. provision_over facts ask there.phase (is_same_instance ask there.attributes)) standing (opened rules facts (creation rules ask))

  abbrev pub update_at : Update → Option Standing → Decision
  update_at ask standing = option_map_or (λ there. update_over rules facts ask there.attributes (target rules there.attributes ask) there.phase) standing not_found

  abbrev pub deprovision_at : Deprovision → Option Standing → Decision
  deprovision_at ask standing = option_map_or (λ there. deprovision_over rules facts ask there.phase there.attributes) standing gone

  abbrev pub bind_at : Bind → Option Standing → Decision
  bind_at ask standing = option_map_or (λ there. bind_over rules facts ask there.phase there.attributes facts.binding) standing not_found

  abbrev pub unbind_at : Unbind → Option BindingNow → Decision
  unbind_at ask found = option_map_or (λ there. unbind_over rules facts ask there.phase there) found gone
