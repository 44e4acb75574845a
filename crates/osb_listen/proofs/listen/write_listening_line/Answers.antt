use Rattle.std.proofs.Common.{◌++◌, codes}
use Rattle.std.proofs.lemmas.Result.{on_ok_weaker, on_err_weaker}
use Rattle.osb_listen.proofs.PartLemmas.{on_err, part_of_first, part_of_later, three_pieces}
use Rattle.osb_listen.proofs.listen.write_listening_line.Goals as goal

pub returns-in_err-write_piece-clause-part : goal.returns-in_err-write_piece-clause-part
returns-in_err-write_piece-clause-part g c =
    on_err c.from_residual.result (part_of_first (codes "listening on ") (c.args.address.now ++ codes "\n") (g.W.Sink.taken c.args.output.now) (g.W.Sink.taken c.write_piece.new.output) c.in_err-write_piece.ensures.part)

pub returns-in_err-write_piece-2-clause-part : goal.returns-in_err-write_piece-2-clause-part
returns-in_err-write_piece-2-clause-part g c =
    on_err c.from_residual-in_err-write_piece-2.result (part_of_later (codes "listening on ") (c.args.address.now ++ codes "\n") (g.W.Sink.taken c.args.output.now) (g.W.Sink.taken c.write_piece.new.output) (g.W.Sink.taken c.write_piece-2.new.output) c.in_ok-write_piece.ensures.ok
    (part_of_first c.args.address.now (codes "\n") (g.W.Sink.taken c.write_piece.new.output) (g.W.Sink.taken c.write_piece-2.new.output) c.in_err-write_piece-2.ensures.part))

pub returns-clause-ok : goal.returns-clause-ok
returns-clause-ok g c =
    on_ok_weaker c.write_piece-3.result (λ whole. three_pieces (codes "listening on ") c.args.address.now (codes "\n") (g.W.Sink.taken c.args.output.now) (g.W.Sink.taken c.write_piece.new.output) (g.W.Sink.taken c.write_piece-2.new.output) (g.W.Sink.taken c.write_piece-3.new.output) c.in_ok-write_piece.ensures.ok c.in_ok-write_piece-2.ensures.ok whole) c.write_piece-3.ensures.ok

pub returns-clause-part : goal.returns-clause-part
returns-clause-part g c =
    on_err_weaker c.write_piece-3.result (λ part. part_of_later (codes "listening on ") (c.args.address.now ++ codes "\n") (g.W.Sink.taken c.args.output.now) (g.W.Sink.taken c.write_piece.new.output) (g.W.Sink.taken c.write_piece-3.new.output) c.in_ok-write_piece.ensures.ok
    (part_of_later c.args.address.now (codes "\n") (g.W.Sink.taken c.write_piece.new.output) (g.W.Sink.taken c.write_piece-2.new.output) (g.W.Sink.taken c.write_piece-3.new.output) c.in_ok-write_piece-2.ensures.ok part)) c.write_piece-3.ensures.part
