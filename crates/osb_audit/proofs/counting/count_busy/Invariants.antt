use Rattle.std.proofs.Common.{◌≡◌, ◌≤◌, ◌+◌, drop, filter, length}
use Rattle.osb_audit.specs.Instances.{InstanceEntry}
use Rattle.osb_audit.proofs.counting.count_busy.Given as goal

abbrev pub invariant-loop-row : goal.invariant-loop-row
invariant-loop-row l =
    (l.count + length (filter (λ (entry : InstanceEntry). entry.1.busy) (drop l.row-index l.instances)) ≡ length (filter (λ (entry : InstanceEntry). entry.1.busy) l.instances))
    × (l.count ≤ l.row-index)
