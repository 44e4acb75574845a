use Rattle.std.proofs.Common.{◌≡◌, ◌++◌, drop, string_bytes}
use Rattle.serde_json.specs.View.{view, items_view}
use Rattle.osb_advice.specs.Nothing.{service_nothing}
use Rattle.osb_advice.specs.Past.{lines_of}
use Rattle.osb_advice.proofs.nothing.push_services.Given as goal

abbrev pub invariant-loop-number : goal.invariant-loop-number
invariant-loop-number l = string_bytes l.text ++ lines_of (service_nothing (view l.file)) l.number (items_view (drop l.number l.services)) ≡ string_bytes l.initial.text ++ lines_of (service_nothing (view l.file)) 0 (items_view l.services)
