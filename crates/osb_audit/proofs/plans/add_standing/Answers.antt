use Rattle.osb_audit.specs.Instances.{InstanceEntry}
use Rattle.osb_audit.specs.Gathered.{pairs_in_row}
use Rattle.osb_audit.proofs.SetLemmas.{adds_more}
use Rattle.osb_audit.proofs.plans.add_standing.Goals as goal

pub loop-row-preserved : goal.loop-row-preserved
loop-row-preserved c =
    adds_more (λ (entry : InstanceEntry). pairs_in_row entry.1) c.args.instances.now c.loop-row.row-index c.loop-row-item.result _ c.loop-row.plans c.add_row.new.plans c.loop-row-test.true c.loop-row-item.is c.loop-row.invariant c.in_ok-add_row.ensures
