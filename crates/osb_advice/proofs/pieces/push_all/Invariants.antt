use Rattle.std.proofs.Common.{◌≡◌, ◌++◌, drop, string_bytes}
use Rattle.std.specs.List.{concat}
use Rattle.osb_catalog.specs.IdSet.{texts}
use Rattle.osb_advice.proofs.pieces.push_all.Given as goal

abbrev pub invariant-loop-piece : goal.invariant-loop-piece
invariant-loop-piece l = string_bytes l.text ++ concat (texts (drop l.piece-index l.pieces)) ≡ string_bytes l.initial.text ++ concat (texts l.pieces)
