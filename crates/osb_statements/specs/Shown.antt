-- The state of an instance, as columns show it. For contracts inside the crate.
use Rattle.std.specs.Prelude.{◌≡◌, Option}
use Rattle.osb_orders.specs.declared.view.Standing.{Standing}
use Rattle.osb_statements.specs.declared.instances.StandingColumns.{StandingColumns}
use Rattle.osb_statements.specs.Instances.{standing_number, attributes_shown}

pub record AreColumnsOf (standing : Option Standing) (columns : StandingColumns) : Type 0 where
  pub phase : columns.phase ≡ standing_number standing
  pub service : columns.service.now ≡ (attributes_shown standing).service
  pub plan : columns.plan.now ≡ (attributes_shown standing).plan
  pub organization : columns.organization.now ≡ (attributes_shown standing).place
  pub space : columns.space.now ≡ (attributes_shown standing).spot
  pub parameters : columns.parameters.now ≡ (attributes_shown standing).parameters
  pub maintenance : columns.maintenance.now ≡ (attributes_shown standing).maintenance
