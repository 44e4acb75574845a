use Rattle.std.proofs.Common.{◌≡◌, length}
use Rattle.std.specs.List.{AllByRecursion}
use Rattle.osb_broker.specs.Inside.{IsBlank}
use Rattle.osb_broker.proofs.runs.blank_outputs.Given as goal

abbrev pub invariant-loop : goal.invariant-loop
invariant-loop l = record {
  count : length l.outputs.items ≡ l.counter;
  blank : AllByRecursion IsBlank l.outputs.items;
}
