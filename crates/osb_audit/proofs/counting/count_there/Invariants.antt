use Rattle.std.proofs.Common.{◌≡◌, ◌≤◌, ◌+◌, drop, filter, length, is_some}
use Rattle.osb_audit.specs.Instances.{InstanceEntry}
use Rattle.osb_audit.proofs.counting.count_there.Given as goal

abbrev pub invariant-loop-row : goal.invariant-loop-row
invariant-loop-row l =
    (l.count + length (filter (λ (entry : InstanceEntry). is_some entry.1.standing) (drop l.row-index l.instances)) ≡ length (filter (λ (entry : InstanceEntry). is_some entry.1.standing) l.instances))
    × (l.count ≤ l.row-index)
