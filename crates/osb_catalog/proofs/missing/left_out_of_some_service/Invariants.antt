use Rattle.std.proofs.Common.{◌≡◌, drop}
use Rattle.serde_json.specs.View.{items_view}
use Rattle.osb_catalog.specs.Items.{first_in}
use Rattle.osb_catalog.specs.Missing.{left_out_of_service}
use Rattle.osb_catalog.proofs.missing.left_out_of_some_service.Given as goal

abbrev pub invariant-loop-service : goal.invariant-loop-service
invariant-loop-service l = first_in left_out_of_service (items_view (drop l.service-index l.services)) ≡ first_in left_out_of_service (items_view l.services)
