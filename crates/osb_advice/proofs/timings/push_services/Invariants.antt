use Rattle.std.proofs.Common.{◌≡◌, ◌++◌, drop, string_bytes}
use Rattle.serde_json.specs.View.{view, items_view}
use Rattle.osb_catalog.specs.Items.{all_of_each}
use Rattle.osb_advice.specs.Timings.{service_timings}
use Rattle.osb_advice.proofs.timings.push_services.Given as goal

abbrev pub invariant-loop-service : goal.invariant-loop-service
invariant-loop-service l = string_bytes l.text ++ all_of_each (service_timings (view l.file)) (items_view (drop l.service-index l.services)) ≡ string_bytes l.initial.text ++ all_of_each (service_timings (view l.file)) (items_view l.services)
