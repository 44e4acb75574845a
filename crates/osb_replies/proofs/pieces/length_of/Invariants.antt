use Rattle.std.proofs.Common.{◌≡◌, ◌≤◌, ◌+◌, ◌-◌, length, drop}
use Rattle.std.specs.Prelude.{◌^◌, min}
use Rattle.osb_replies.specs.Pieces.{text_of}
use Rattle.osb_replies.proofs.pieces.length_of.Given as goal

abbrev pub invariant-loop-piece : goal.invariant-loop-piece
invariant-loop-piece l = record {
  left : min (l.sum + length (text_of (drop l.piece-index l.pieces))) (2 ^ 64 - 1) ≡ min (length (text_of l.pieces)) (2 ^ 64 - 1);
  small : l.sum ≤ 2 ^ 64 - 1;
}
