use Rattle.std.proofs.Common.{sym, subst}
use Rattle.osb_replies.specs.Parts.{parts}
use Rattle.osb_replies.specs.Sending.{seen, Out, OutIf}
use Rattle.osb_replies.specs.Text.{reply_text}
use Rattle.osb_replies.proofs.TextLemmas.{some_text}
use Rattle.osb_replies.proofs.write.write_reply.Goals as goal

pub returns-then-sender : goal.returns-then-sender
returns-then-sender g c =
    let sink = g.W.Sink in
    let text = reply_text (parts c.args.reply.now) in
    let start = seen (sink.taken c.args.sink.now) (sink.writes c.args.sink.now) (sink.failed_or_empty c.args.sink.now) (sink.room c.args.sink.now) in
    let after = seen (sink.taken c.flush.new.sink) (sink.writes c.flush.new.sink) (sink.failed_or_empty c.flush.new.sink) (sink.room c.flush.new.sink) in
    let carried = c.put_reply.ensures start _ (c.new-stage.ensures start) in
    let out = subst (Out start text after) (sym c.sender-sender.ensures) (c.flush.ensures.out start text carried) in
    let stopped = subst (OutIf start text after c.sender-sender.result.written) c.if-sender.true out in
    record {
      sent = tt;
      quiet = tt;
      cut = record { count = stopped.count; inside = stopped.inside; bytes = stopped.taken; counted = stopped.counted };
      cause = stopped.cause;
      short = stopped.short;
      room_left = tt;
      once = c.flush.ensures.once start text carried (some_text (parts c.args.reply.now));
    }

pub returns : goal.returns
returns g c =
    let sink = g.W.Sink in
    let text = reply_text (parts c.args.reply.now) in
    let start = seen (sink.taken c.args.sink.now) (sink.writes c.args.sink.now) (sink.failed_or_empty c.args.sink.now) (sink.room c.args.sink.now) in
    let after = seen (sink.taken c.flush.new.sink) (sink.writes c.flush.new.sink) (sink.failed_or_empty c.flush.new.sink) (sink.room c.flush.new.sink) in
    let carried = c.put_reply.ensures start _ (c.new-stage.ensures start) in
    let out = subst (Out start text after) (sym c.sender-sender.ensures) (c.flush.ensures.out start text carried) in
    let whole = subst (OutIf start text after c.sender-sender.result.written) c.if-sender.false out in
    record {
      sent = whole.taken;
      quiet = whole.quiet;
      cut = tt;
      cause = tt;
      short = tt;
      room_left = whole.room;
      once = c.flush.ensures.once start text carried (some_text (parts c.args.reply.now));
    }
