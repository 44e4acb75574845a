use Rattle.std.proofs.Common.{◌≡◌, ◌++◌, drop, false, string_bytes}
use Rattle.osb_catalog.specs.Pieces.{joined_by_commas}
use Rattle.osb_catalog.proofs.shown.push_joined.Given as goal

abbrev pub invariant-loop-text : goal.invariant-loop-text
invariant-loop-text l = string_bytes l.whole ++ joined_by_commas l.later (drop l.text-index l.texts) ≡ string_bytes l.initial.whole ++ joined_by_commas false l.texts
