use Rattle.sqlite.specs.Held.{state}
use Rattle.osb_file.proofs.TrimmingLemmas.{HasCopied}
use Rattle.osb_file.proofs.trimming.copy_lives.Given as goal

abbrev pub invariant-loop : goal.invariant-loop
invariant-loop g l = HasCopied (state g.S.Store l.fn.source) (state g.S.Store l.source) (state g.T.Store l.fn.target) (state g.T.Store l.target) l.after
