-- What `Settings` keeps, and how contracts see it: for its `Model`, inside the crate.
use Rattle.std.specs.Prelude.{map}
use Rattle.osb_catalog.specs.declared.plan.Plan.{Plan}
use Rattle.osb_catalog.specs.declared.plan.Service.{Service}
use Rattle.osb_catalog.specs.declared.settings.Settings.TheInside.{Inside}
use Rattle.osb_catalog.specs.SettingsData.{SettingsData}
use Rattle.osb_catalog.specs.IdPositions.{AreIdPositionsOf}
use Rattle.osb_catalog.specs.Sound.{IsSettings}

abbrev pub data_of : Inside → SettingsData
data_of s = record {
  catalog = s.catalog;
  services = s.services.items;
  plans = s.plans.items;
  order_limit = s.order_limit;
  platform_tokens = s.platform_tokens.items;
  backend_tokens = s.backend_tokens.items;
}

-- the settings are sound, and their services and plans are at the places that are kept of their ids
pub record AreIndexed (s : Inside) : Type 0 where
  pub sound : IsSettings (data_of s)
  pub services : AreIdPositionsOf s.service_places
      (map (λ (service : Service). service.id) s.services.items)
  pub plans : AreIdPositionsOf s.plan_places (map (λ (plan : Plan). plan.id) s.plans.items)
