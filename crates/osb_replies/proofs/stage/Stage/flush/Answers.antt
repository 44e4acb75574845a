use Rattle.std.proofs.Common.{List, ℕ, subst}
use Rattle.osb_replies.specs.Sending.{Out, seen}
use Rattle.osb_replies.proofs.stage.Stage.flush.Goals as goal

pub returns-clause-out : goal.returns-clause-out
returns-clause-out g c = λ start text held.
    let sink = g.W.Sink in
    let after = seen (sink.taken c.send.new.sink) (sink.writes c.send.new.sink) (sink.failed_or_empty c.send.new.sink) (sink.room c.send.new.sink) in
    subst (λ (all : List ℕ). Out start all after c.send.new.self) held.whole (c.send.ensures.out start held.sent held.out)
