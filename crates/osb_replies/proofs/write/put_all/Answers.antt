use Rattle.std.proofs.Common.{List, ℕ, subst}
use Rattle.osb_replies.specs.Sending.{seen}
use Rattle.osb_replies.specs.Staging.{Carries}
use Rattle.osb_replies.proofs.PiecesLemmas.{one_more}
use Rattle.osb_replies.proofs.write.put_all.Goals as goal

pub loop-piece-preserved : goal.loop-piece-preserved
loop-piece-preserved g c = λ start text was.
    let sink = g.W.Sink in
    let now = seen (sink.taken c.put.new.sink) (sink.writes c.put.new.sink) (sink.failed_or_empty c.put.new.sink) (sink.room c.put.new.sink) in
    subst (λ (text : List ℕ). Carries start text now c.put.new.self) (one_more c.args.pieces.now c.loop-piece.piece-index _ text c.loop-piece-test.true)
    (c.put.ensures start _ (c.loop-piece.invariant start text was))
