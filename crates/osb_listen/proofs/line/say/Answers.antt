use Rattle.std.proofs.Common.{refl, ◌∙◌, subst, ◌<◌}
use Rattle.osb_listen.proofs.PartLemmas.{sent_in_part}
use Rattle.osb_listen.proofs.PieceLemmas.{all_sent, err_of, from_first, last_piece, ok_of, one_piece_more}
use Rattle.osb_listen.proofs.line.say.Goals as goal

pub loop-piece-init : goal.loop-piece-init
loop-piece-init g c = record { before = from_first _ _; same = refl }

pub loop-piece-preserved : goal.loop-piece-preserved
loop-piece-preserved g c = record {
  before = one_piece_more _ _ c.args.pieces.now c.loop-piece.piece-index _ c.loop-piece-test.true c.loop-piece.invariant.before _ c.as_bytes.result.now c.as_bytes.ensures.value
      (ok_of c.send_all.result c.is_err.result c.if-is_err.false c.is_err.ensures.value c.send_all.ensures.sent);
  same = ok_of c.send_all.result c.is_err.result c.if-is_err.false c.is_err.ensures.value c.send_all.ensures.quiet ∙ c.loop-piece.invariant.same;
}

pub returns-then-is_err : goal.returns-then-is_err
returns-then-is_err g c =
    last_piece _ _ c.args.pieces.now c.loop-piece.piece-index _ c.loop-piece-test.true c.loop-piece.invariant.before _ c.as_bytes.result.now _ _ c.as_bytes.ensures.value
    (sent_in_part c.send_all.result c.as_bytes.result.now _ _ c.send_all.ensures.sent c.send_all.ensures.cut)
    (subst (λ it. it < g.E.Sink.failed_or_empty c.send_all.new.sink) c.loop-piece.invariant.same
    (err_of c.send_all.result c.is_err.result c.if-is_err.true c.is_err.ensures.value c.send_all.ensures.cause))

pub returns : goal.returns
returns g c = all_sent _ _ c.args.pieces.now c.loop-piece.piece-index _ _ c.loop-piece-test.false c.loop-piece.invariant.same c.loop-piece.invariant.before
