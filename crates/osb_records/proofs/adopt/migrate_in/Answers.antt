use Rattle.osb_contexts.specs.Reads.{behind}
use Rattle.std.proofs.lemmas.Result.{on_ok_weaker}
use Rattle.osb_records.proofs.OpenedLemmas.{migrate_writes}
use Rattle.osb_records.proofs.adopt.migrate_in.Goals as goal
use Rattle.osb_contexts.proofs.StepLemmas.{clean_before}

pub returns-clause-ok : goal.returns-clause-ok
returns-clause-ok g c clean =
    let old = behind g.S.Store c.args.tx.now in
    let mid = behind g.S.Store c.reshape.new.tx in
    let new = behind g.S.Store c.migrate_first.new.tx in
    let clean_mid = clean_before mid new _ c.migrate_first.ensures.inside.survives clean in
    on_ok_weaker c.migrate_first.result (λ done. migrate_writes old mid new (c.in_ok-reshape.ensures.ok clean_mid) done.0 done.1) (c.migrate_first.ensures.ok clean)
