use Rattle.std.proofs.Common.{◌++◌, ◌-◌, length, take, drop, ap, ◌∙◌, arith}
use Rattle.std.proofs.lemmas.Grind.{common_steps}
use Rattle.osb_frames.proofs.SendLemmas.{take_more}
use Rattle.osb_frames.proofs.send.send_all.Goals as goal

pub loop-done-preserved : goal.loop-done-preserved
loop-done-preserved g c =
    let piece = c.args.piece.now in
    let done = c.loop-done.done in
    record {
      inside = grind (arith, common_steps);
      sent = c.in-Ok.ensures.bytes ∙ ap (λ out. out ++ take c.in-Ok.count (take (length piece - done) (drop done piece))) c.loop-done.invariant.sent ∙ take_more _ piece done c.in-Ok.count;
      quiet = grind (arith, common_steps, c.in-Ok.ensures.took);
      room = grind (arith, common_steps, c.in-Ok.ensures.room_left);
      silent = λ none. absurd (omega arith);
      once = λ fits some. grind (arith, common_steps, c.in-Ok.ensures.roomy, c.in-Ok.ensures.counted, c.loop-done.invariant.once fits);
    }
