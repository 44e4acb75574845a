use Rattle.osb_contexts.specs.Reads.{behind}
use Rattle.osb_rows.proofs.ResultLemmas.{if_ok}
use Rattle.osb_statements.proofs.ContextLemmas.{shows_records, shows_contexts, still_shown, same_contexts, read_joined}
use Rattle.osb_statements.proofs.view.read_joined.Goals as goal
use Rattle.osb_contexts.proofs.StepLemmas.{clean_before}

pub read_for-requires : goal.read_for-requires
read_for-requires g c = shows_records (behind g.S.Store c.args.tx.now) c.requires

pub join_read-requires : goal.join_read-requires
join_read-requires g c =
    let old = behind g.S.Store c.args.tx.now in
    still_shown old (behind g.S.Store c.read_for.new.tx) c.read_for.ensures.reads.survives (shows_contexts old c.requires) c.in_ok-read.ensures.reads.same

pub returns-clause-ok : goal.returns-clause-ok
returns-clause-ok g c clean =
    let old = behind g.S.Store c.args.tx.now in
    let mid = behind g.S.Store c.read_for.new.tx in
    let new = behind g.S.Store c.join_read.new.tx in
    let before = clean_before mid new _ c.join_read.ensures.reads.survives clean in
    let unchanged = c.in_ok-read.ensures.reads.same before in
    let has = c.requires (clean_before old mid _ c.read_for.ensures.reads.survives before) unchanged.0.was_open in
    if_ok c.join_read.result (λ joined joins. read_joined old.now has c.args.instance.now c.args.ask.now c.in_ok-read.read joined (c.in_ok-read.ensures.ok before) joins)
    (rw (same_contexts old mid unchanged) at (c.join_read.ensures.ok clean unchanged.0.is_open))
