use Rattle.std.proofs.Common.{◌≡◌, ◌++◌, drop}
use Rattle.serde_json.specs.View.{items_view}
use Rattle.osb_catalog.specs.Items.{each}
use Rattle.osb_catalog.specs.Contents.{service_of}
use Rattle.osb_catalog.proofs.contents.read_services.Given as goal

abbrev pub invariant-loop-service : goal.invariant-loop-service
invariant-loop-service l = l.all.items ++ each service_of (items_view (drop l.service-index l.services)) ≡ each service_of (items_view l.services)
