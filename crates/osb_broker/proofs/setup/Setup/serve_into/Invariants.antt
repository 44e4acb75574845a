use Rattle.std.proofs.Common.{◌≤◌}
use Rattle.sqlite.specs.Held.{state}
use Rattle.sqlite.specs.State.{HasCleanDisk}
use Rattle.osb_frames.specs.InMemory.{bytes_of, room_of}
use Rattle.osb_orders.specs.Lives.{Lives}
use Rattle.osb_statements.specs.Steps.{stored}
use Rattle.osb_broker.specs.Steps.{capped}
use Rattle.osb_broker.specs.BrokerState.{LivesGo, Works}
use Rattle.osb_broker.specs.Crashes.{LeavesLives}
use Rattle.osb_broker.specs.Inside.{given_rules, Worked}
use Rattle.osb_broker.proofs.OneByOne.{WrittenSoFar}
use Rattle.osb_broker.proofs.setup.Setup.serve_into.Given as goal

abbrev pub decreases-loop-left : goal.decreases-loop-left
decreases-loop-left g l = l.left

abbrev pub invariant-loop-left : goal.invariant-loop-left
invariant-loop-left g l = record {
  room : 512 ≤ room_of l.output;
  worked : Worked (state g.S.Store l.fn.records) (state g.S.Store l.records);
  leaves : Works (state g.S.Store l.fn.records) → HasCleanDisk (state g.S.Store l.records) → LeavesLives (state g.S.Store l.records) (λ lives. WrittenSoFar (capped (given_rules l.self)) l.limits l.fn.most.number (stored (state g.S.Store l.fn.records)) l.bytes (bytes_of l.fn.output) l.left (bytes_of l.output) lives l.rest);
  reached : (before after : Lives) → LivesGo (state g.S.Store l.fn.records) (state g.S.Store l.records) before after → WrittenSoFar (capped (given_rules l.self)) l.limits l.fn.most.number before l.bytes (bytes_of l.fn.output) l.left (bytes_of l.output) after l.rest;
}
