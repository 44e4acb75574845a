use Rattle.std.proofs.Common.{List, ℕ, ◌++◌, take}
use Rattle.osb_replies.specs.Pieces.{text_of}
use Rattle.osb_replies.specs.Sending.{Seen, seen}
use Rattle.osb_replies.specs.Staging.{Carries}
use Rattle.osb_replies.proofs.write.put_all.Given as goal

abbrev pub invariant-loop-piece : goal.invariant-loop-piece
invariant-loop-piece g l =
    let sink = g.W.Sink in
    let old = seen (sink.taken l.fn.sink) (sink.writes l.fn.sink) (sink.failed_or_empty l.fn.sink) (sink.room l.fn.sink) in
    let now = seen (sink.taken l.sink) (sink.writes l.sink) (sink.failed_or_empty l.sink) (sink.room l.sink) in
    (start : Seen) (text : List ℕ) → Carries start text old l.fn.stage → Carries start (text ++ text_of (take l.piece-index l.pieces)) now l.stage
