use Rattle.sqlite.specs.Held.{state}
use Rattle.osb_rows.proofs.ResultLemmas.{then_ok}
use Rattle.osb_statements.proofs.StandLemmas.{both_written, both_stand}
use Rattle.osb_bare.specs.Bare.{bare_order}
use Rattle.osb_statements.proofs.standing.write_standing.Goals as goal
use Rattle.osb_contexts.proofs.StepLemmas.{clean_before}

pub returns-clause-ok : goal.returns-clause-ok
returns-clause-ok g c clean =
    let first = state g.S.Store c.args.tx.now.conn.now in
    let mid = state g.S.Store c.write_instance.new.tx.conn.now in
    let new = state g.S.Store c.write_bindings.new.tx.conn.now in
    let id = c.args.instance.now in
    let order = bare_order c.args.order.now in
    let row = c.in_ok-write_instance.ensures.ok (clean_before mid new _ c.write_bindings.ensures.inside.survives clean) in
    then_ok c.write_bindings.result (λ bindings. record {
      steps = both_written first mid new id order row.steps bindings;
      stands = λ change written stood. both_stand first mid new id order row.steps bindings change written stood (row.stands change written stood.instances);
    }) (c.write_bindings.ensures.ok clean row.steps.within.is_open row.steps.within.inside row.steps.sound)
