use Rattle.std.proofs.Common.{◌≡◌, ◌≤◌, ◌<◌, ◌+◌, ◌-◌, ◌++◌, length, take}
use Rattle.osb_frames.proofs.send.send_all.Given as goal

abbrev pub decreases-loop-done : goal.decreases-loop-done
decreases-loop-done g l = length l.piece - l.done

abbrev pub invariant-loop-done : goal.invariant-loop-done
invariant-loop-done g l =
    let sink = g.W.Sink in
    record {
      inside : l.done ≤ length l.piece;
      sent : sink.taken l.sink ≡ sink.taken l.fn.sink ++ take l.done l.piece;
      quiet : sink.failed_or_empty l.sink ≡ sink.failed_or_empty l.fn.sink;
      room : sink.room l.fn.sink ≤ sink.room l.sink + l.done;
      silent : l.done ≡ 0 → sink.writes l.sink ≡ sink.writes l.fn.sink;
      once : length l.piece ≤ sink.room l.fn.sink → 0 < l.done → (l.done ≡ length l.piece) × (sink.writes l.sink ≡ sink.writes l.fn.sink + 1);
    }
