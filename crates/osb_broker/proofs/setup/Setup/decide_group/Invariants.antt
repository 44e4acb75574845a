use Rattle.std.proofs.Common.{◌≡◌, ◌≤◌, ◌<◌, length, map, take, vec_items, vec_len, vec_capacity, IsTrue}
use Rattle.std.specs.List.{AllByRecursion}
use Rattle.sqlite.specs.Held.{state}
use Rattle.sqlite.specs.State.{HasCleanDisk}
use Rattle.osb_records.specs.Changes.{ChangesSomething}
use Rattle.osb_statements.specs.Steps.{stored}
use Rattle.osb_broker.specs.BrokerState.{Works}
use Rattle.osb_broker.specs.Groups.{IsGroup}
use Rattle.osb_broker.specs.Inside.{given_rules, LivesStay}
use Rattle.osb_broker.proofs.setup.Setup.decide_group.Given as goal

abbrev pub invariant-loop-connection : goal.invariant-loop-connection
invariant-loop-connection g l = record {
  count : vec_len l.group.outputs ≡ l.connection-index;
  room : length l.connections ≤ vec_capacity l.group.outputs;
  some : AllByRecursion ChangesSomething l.group.changes.items;
  stays : LivesStay (state g.S.Store l.fn.records) (state g.S.Store l.records);
  open_before : HasCleanDisk (state g.S.Store l.records) → 0 < l.connection-index → IsTrue (state g.S.Store l.fn.records).is_open;
  decided : Works (state g.S.Store l.fn.records) → HasCleanDisk (state g.S.Store l.records) → IsGroup (given_rules l.self) l.limits l.most.number (stored (state g.S.Store l.fn.records)) (map vec_items (take l.connection-index l.connections)) (map vec_items l.group.outputs.items) l.group.changes.items;
}
