use Rattle.osb_contexts.specs.Reads.{behind}
use Rattle.osb_contexts.proofs.StepLemmas.{clean_before, if_ok_with}
use Rattle.osb_statements.proofs.PlanLemmas.{some_rows}
use Rattle.osb_statements.proofs.plans.some_instances.Goals as goal

pub returns-clause-ok : goal.returns-clause-ok
returns-clause-ok g c clean =
    let old = behind g.S.Store c.args.tx.now in
    let new = behind g.S.Store c.read_instances_between.new.tx in
    if_ok_with c.read_instances_between.result (λ entries same list.
    let records = c.requires (clean_before old new _ c.read_instances_between.ensures.reads.survives clean) same.0.was_open in
    some_rows old.now records c.args.after.now _ entries.items list)
    (c.read_instances_between.ensures.reads.same clean) (c.read_instances_between.ensures.ok clean)
