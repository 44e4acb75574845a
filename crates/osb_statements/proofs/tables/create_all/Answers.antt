use Rattle.osb_contexts.specs.Reads.{behind}
use Rattle.osb_rows.proofs.ResultLemmas.{then_ok}
use Rattle.osb_statements.proofs.StoredLivesLemmas.{new_tables}
use Rattle.osb_statements.proofs.tables.create_all.Goals as goal
use Rattle.osb_contexts.proofs.StepLemmas.{clean_before}

pub returns-clause-ok : goal.returns-clause-ok
returns-clause-ok g c clean =
    let old = behind g.S.Store c.args.tx.now in
    let mid = behind g.S.Store c.create_tables.new.tx in
    let next = behind g.S.Store c.reshape.new.tx in
    let new = behind g.S.Store c.set_version.new.tx in
    let clean_next = clean_before next new _ c.set_version.ensures.inside.survives clean in
    let clean_mid = clean_before mid next _ c.reshape.ensures.inside.survives clean_next in
    then_ok c.set_version.result (λ versioned. new_tables old mid next new (c.in_ok-create_tables.ensures.ok clean_mid) (c.in_ok-reshape.ensures.ok clean_next) versioned) (c.set_version.ensures.ok clean)
