use Rattle.std.proofs.Common.{◌≡◌, ◌≤◌, ◌+◌, length, map, take, drop, vec_items, vec_len, vec_capacity, ℕ}
use Rattle.std.specs.List.{AllByRecursion}
use Rattle.osb_broker.specs.Steps.{capped}
use Rattle.osb_broker.specs.Inside.{given_rules, IsBlank, ServesMore}
use Rattle.osb_broker.proofs.setup.Setup.serve_groups.Given as goal

abbrev pub decreases-loop-rest : goal.decreases-loop-rest
decreases-loop-rest g l = length l.rest

abbrev pub invariant-loop-rest : goal.invariant-loop-rest
invariant-loop-rest g l = record {
  blank : AllByRecursion IsBlank l.blanks.items;
  enough : length l.rest ≤ length l.blanks.items;
  room : vec_len l.outputs + length l.rest ≤ vec_capacity l.outputs;
  count : vec_len l.outputs + length l.rest ≡ vec_len l.fn.outputs + length l.connections;
  serves : (done : ℕ) × (l.rest ≡ drop done l.connections) × ServesMore g.S.Store (capped (given_rules l.self)) l.limits l.most.number (map vec_items (take done l.connections)) l.fn.outputs.items l.outputs.items l.fn.records l.records;
}
