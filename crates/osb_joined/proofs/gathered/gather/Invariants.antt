use Rattle.std.proofs.Common.{drop}
use Rattle.osb_joined.proofs.GatherLemmas.{Gathers}
use Rattle.osb_joined.proofs.gathered.gather.Given as goal

abbrev pub invariant-loop-entry : goal.invariant-loop-entry
invariant-loop-entry l = Gathers l.instances l.orders l.contexts.items l.rows (drop l.entry-index l.orders)
