use Rattle.std.proofs.Common.{◌≡◌, ◌≤◌, ◌+◌, ◌-◌, List, false, cond, length, take}
use Rattle.osb_frames.specs.Calls.{Call, all_bytes}
use Rattle.osb_broker.proofs.ReadLemmas.{SoFar}
use Rattle.osb_broker.specs.Serving.{EachWasNeeded, ReadsMade}
use Rattle.osb_broker.proofs.setup.Setup.begin_in.Given as goal

abbrev pub decreases-loop-request : goal.decreases-loop-request
decreases-loop-request g l = (length l.room - l.filled) + cond l.ended 0 1

abbrev pub invariant-loop-request : goal.invariant-loop-request
invariant-loop-request g l =
    let source = g.R.Source in
    record {
      records : l.records ≡ l.fn.records;
      sink : l.sink ≡ l.fn.sink;
      met : l.met_fault ≡ false;
      waiting : l.waiting ≡ l.fn.waiting;
      staying : l.staying ≡ l.fn.staying;
      inside : l.filled ≤ length l.room;
      received : (calls : List Call) × ReadsMade (source.calls l.fn.source) (source.calls l.source) (source.rest l.fn.source) (source.rest l.source) calls
          × (take l.filled l.room ≡ all_bytes calls)
          × SoFar l.ended calls
          × EachWasNeeded l.limits 1 (length l.fn.room) calls;
    }
