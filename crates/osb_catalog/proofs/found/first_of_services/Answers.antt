use Rattle.std.proofs.Common.{ap, ap₂, ◌∙◌}
use Rattle.osb_catalog.specs.IdSet.{texts}
use Rattle.osb_catalog.specs.Ids.{ids_of}
use Rattle.osb_catalog.specs.Found.{first_place, service_place}
use Rattle.osb_catalog.proofs.found.first_of_services.Goals as goal

pub returns : goal.returns
returns c =
    let services = c.services_of-services.ensures.found in
    let ids = ap texts c.deref.ensures.value ∙ c.in_ok-ids.ensures ∙ ap ids_of services in
    c.first_service.ensures ∙ ap₂ (λ ids items. first_place (service_place ids c.args.fault) 0 items) ids services
