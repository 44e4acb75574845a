use Rattle.std.proofs.Common.{◌≡◌, ◌≤◌, ◌+◌, ◌-◌, ◌*◌, List, false, cond, length, take}
use Rattle.sqlite.specs.Held.{state}
use Rattle.sqlite.specs.State.{HasCleanDisk}
use Rattle.osb_frames.specs.Calls.{Call, all_bytes}
use Rattle.osb_orders.specs.Lives.{Lives}
use Rattle.osb_statements.specs.Steps.{stored}
use Rattle.osb_broker.specs.Steps.{machine}
use Rattle.osb_broker.specs.BrokerState.{LivesGo, Works}
use Rattle.osb_broker.specs.Crashes.{LeavesLives}
use Rattle.osb_broker.specs.Inside.{given_most, given_rules, Worked}
use Rattle.osb_broker.specs.Serving.{EachWasNeeded, ReadsMade, RequestsPassed}
use Rattle.osb_broker.proofs.HoldLemmas.{ReadSoFar}
use Rattle.osb_broker.proofs.ReadLemmas.{SoFar}
use Rattle.osb_broker.proofs.setup.Setup.serve_in.Given as goal

abbrev pub decreases-loop-left : goal.decreases-loop-left
decreases-loop-left g l = l.left * (length l.room + 2) + ((length l.room - l.filled) + cond l.ended 0 1)

abbrev pub invariant-loop-left : goal.invariant-loop-left
invariant-loop-left g l =
    let sink = g.W.Sink in
    let source = g.R.Source in
    record {
      kept : sink.failed_or_empty l.sink ≡ sink.failed_or_empty l.fn.sink;
      failed : source.failures l.source ≡ source.failures l.fn.source;
      inside : l.filled ≤ length l.room;
      met : l.met_fault ≡ false;
      worked : Worked (state g.S.Store l.fn.records) (state g.S.Store l.records);
      holding : (calls : List Call) × ReadsMade (source.calls l.fn.source) (source.calls l.source) (source.rest l.fn.source) (source.rest l.source) calls
          × RequestsPassed l.limits (given_most l.self) (all_bytes calls) l.left (take l.filled l.room)
          × ((before after : Lives) → LivesGo (state g.S.Store l.fn.records) (state g.S.Store l.records) before after → ReadSoFar (machine (given_rules l.self)) l.limits (given_most l.self) before (all_bytes calls) (sink.taken l.fn.sink) l.left (sink.taken l.sink) after (take l.filled l.room))
          × SoFar l.ended calls
          × EachWasNeeded l.limits (given_most l.self) (length l.fn.room) calls
          × (Works (state g.S.Store l.fn.records) → HasCleanDisk (state g.S.Store l.records) → LeavesLives (state g.S.Store l.records) (λ lives. ReadSoFar (machine (given_rules l.self)) l.limits (given_most l.self) (stored (state g.S.Store l.fn.records)) (all_bytes calls) (sink.taken l.fn.sink) l.left (sink.taken l.sink) lives (take l.filled l.room)));
    }
