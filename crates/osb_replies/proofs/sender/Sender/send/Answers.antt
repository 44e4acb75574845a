use Rattle.std.proofs.Common.{subst}
use Rattle.osb_replies.specs.Sending.{OutIf, seen}
use Rattle.osb_replies.proofs.SendingLemmas.{stopped_in}
use Rattle.osb_replies.proofs.sender.Sender.send.Goals as goal

pub returns-in-Err-clause-out : goal.returns-in-Err-clause-out
returns-in-Err-clause-out g c = λ start text was.
    let sink = g.W.Sink in
    let now = seen (sink.taken c.args.sink.now) (sink.writes c.args.sink.now) (sink.failed_or_empty c.args.sink.now) (sink.room c.args.sink.now) in
    let after = seen (sink.taken c.send_all.new.sink) (sink.writes c.send_all.new.sink) (sink.failed_or_empty c.send_all.new.sink) (sink.room c.send_all.new.sink) in
    let whole = subst (OutIf start text now c.args.self.now.written) c.if-self.false was in
    stopped_in start text c.args.piece.now now after _ _ c.in-Err.done whole c.in-Err.ensures.inside c.in-Err.ensures.cut c.in-Err.ensures.cause c.in-Err.ensures.short c.saturating_add-self-in-Err.ensures
