use Rattle.std.proofs.Common.{take}
use Rattle.osb_audit.specs.Gathered.{pairs_in_rows, Adds}
use Rattle.osb_audit.proofs.plans.add_standing.Given as goal

abbrev pub invariant-loop-row : goal.invariant-loop-row
invariant-loop-row l = Adds (pairs_in_rows (take l.row-index l.instances)) l.fn.plans l.plans
