-- What every update has to meet.
use Rattle.std.proofs.Common.{◌≡◌, true, false, not, bytes_eq, refl}
use Rattle.osb_catalog.specs.Rules.{Rules}
use Rattle.osb_replies.specs.declared.fixed_error.FixedError.TheVariants.{MaintenanceInfoConflict}
use Rattle.osb_asks.specs.declared.ask.Update.{Update}
use Rattle.osb_orders.specs.declared.order.Attributes.{Attributes}
use Rattle.osb_orders.specs.ViewData.{ViewData}
use Rattle.osb_machine.specs.Decision.{Decision, refuses}
use Rattle.osb_machine.specs.Plans.{catalog_version}
use Rattle.osb_machine.specs.Opened.{is_unlike}
use Rattle.osb_machine.specs.Update.{target_plan, target, update_checked}

module _ (rules : Rules) (facts : ViewData) (ask : Update) (instance : Attributes) (next : Decision) (here : not (bytes_eq ask.service instance.service) ≡ false) where
  pub checked_refuses : is_unlike ask.maintenance (catalog_version rules instance.service (target_plan instance ask)) ≡ true → update_checked rules facts ask instance (target rules instance ask) next ≡ refuses MaintenanceInfoConflict
  checked_refuses unlike = rw (here, unlike) refl

  pub checked_goes : is_unlike ask.maintenance (catalog_version rules instance.service (target_plan instance ask)) ≡ false → update_checked rules facts ask instance (target rules instance ask) next ≡ next
  checked_goes alike = rw (here, alike) refl
