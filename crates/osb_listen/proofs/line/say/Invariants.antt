use Rattle.std.proofs.Common.{◌≡◌, drop}
use Rattle.osb_listen.proofs.PieceLemmas.{Continues, texts}
use Rattle.osb_listen.proofs.line.say.Given as goal

abbrev pub invariant-loop-piece : goal.invariant-loop-piece
invariant-loop-piece g l = record {
  before : Continues (g.E.Sink.taken l.fn.errors) (g.E.Sink.taken l.errors) (texts (drop l.piece-index l.pieces)) (texts l.pieces);
  same : g.E.Sink.failed_or_empty l.errors ≡ g.E.Sink.failed_or_empty l.fn.errors;
}
