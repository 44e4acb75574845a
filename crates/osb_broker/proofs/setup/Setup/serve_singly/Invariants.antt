use Rattle.std.proofs.Common.{◌≡◌, ◌≤◌, ◌+◌, length, map, take, vec_items, vec_len, vec_capacity}
use Rattle.std.specs.List.{AllByRecursion}
use Rattle.osb_broker.specs.Steps.{capped}
use Rattle.osb_broker.specs.Inside.{given_rules, IsBlank, ServesMore}
use Rattle.osb_broker.proofs.setup.Setup.serve_singly.Given as goal

abbrev pub invariant-loop-connection : goal.invariant-loop-connection
invariant-loop-connection g l = record {
  blank : AllByRecursion IsBlank l.blanks.items;
  fewer : length l.blanks.items + l.connection-index ≡ length l.fn.blanks.items;
  count : vec_len l.outputs ≡ vec_len l.fn.outputs + l.connection-index;
  room : vec_capacity l.fn.outputs ≤ vec_capacity l.outputs;
  serves : ServesMore g.S.Store (capped (given_rules l.self)) l.limits l.most.number (map vec_items (take l.connection-index l.connections)) l.fn.outputs.items l.outputs.items l.fn.records l.records;
}
