use Rattle.std.proofs.Common.{subst}
use Rattle.std.specs.Prelude.{option_copied}
use Rattle.sqlite.specs.Held.{state}
use Rattle.osb_audit.specs.Instances.{IsRowOf}
use Rattle.osb_statements.specs.Steps.{content}
use Rattle.osb_rows.proofs.ResultLemmas.{then_ok}
use Rattle.osb_statements.proofs.PutLemmas.{inserted, updated}
use Rattle.osb_bare.specs.Bare.{bare_row}
use Rattle.osb_statements.proofs.standing.put_instance.Goals as goal
use Rattle.osb_contexts.proofs.StepLemmas.{clean_before}

pub returns-in-None-clause-ok : goal.returns-in-None-clause-ok
returns-in-None-clause-ok g c clean =
    let old = state g.S.Store c.args.tx.now.conn.now in
    let new = state g.S.Store c.insert_instance.new.tx.conn.now in
    let id = c.args.instance.now in
    let before = clean_before old new _ c.insert_instance.ensures.inside.survives clean in
    then_ok c.insert_instance.result (λ steps. inserted old new id (bare_row c.args.row.now) (c.requires.tables before steps.within.was_open) (subst (λ found. IsRowOf id (option_copied found) (content old).instances) c.in-None.is (c.requires.there before steps.within.was_open)) steps)
    (c.insert_instance.ensures.ok clean)

pub returns-in-Some-clause-ok : goal.returns-in-Some-clause-ok
returns-in-Some-clause-ok g c clean =
    let old = state g.S.Store c.args.tx.now.conn.now in
    let new = state g.S.Store c.update_instance.new.tx.conn.now in
    let id = c.args.instance.now in
    let before = clean_before old new _ c.update_instance.ensures.inside.survives clean in
    then_ok c.update_instance.result (λ steps. updated old new id (bare_row c.args.row.now) c.in-Some.field-0.now (subst (λ found. IsRowOf id (option_copied found) (content old).instances) c.in-Some.is (c.requires.there before steps.within.was_open)) steps)
    (c.update_instance.ensures.ok clean)
