use Rattle.std.proofs.Common.{◌++◌, ◌∙◌, ap, take, arith}
use Rattle.std.proofs.lemmas.List.{length-append, append-nil}
use Rattle.osb_replies.proofs.stage.Stage.put.Goals as goal

-- the piece is longer than all that is gathered: it was sent after the rest
pub returns-else-piece-le-SIZE : goal.returns-else-piece-le-SIZE
returns-else-piece-le-SIZE g c = λ start text held.
    let all = text ++ c.args.piece.now in
    record {
      sent = all;
      out = c.send.ensures.out start text (c.flush.ensures.out start text held);
      whole = ap (λ used. all ++ take used c.flush.new.self.bytes) c.flush.ensures.used ∙ append-nil all;
      short = λ little. absurd (omega (arith, little, length-append text c.args.piece.now));
    }
