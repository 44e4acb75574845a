use Rattle.std.proofs.Common.{ap, map, ◌∙◌}
use Rattle.osb_joined.specs.Joined.{joined_entry}
use Rattle.osb_contexts.specs.Reads.{behind}
use Rattle.osb_contexts.specs.Steps.{contexts}
use Rattle.osb_rows.proofs.ResultLemmas.{if_ok}
use Rattle.osb_statements.proofs.ContextLemmas.{shows_records, shows_contexts, still_shown, same_contexts, listing_read}
use Rattle.osb_statements.proofs.reading.list_joined.Goals as goal
use Rattle.osb_contexts.proofs.StepLemmas.{clean_before}

pub list_running-requires : goal.list_running-requires
list_running-requires g c = shows_records (behind g.S.Store c.args.tx.now) c.requires

pub join_entries-requires : goal.join_entries-requires
join_entries-requires g c =
    let old = behind g.S.Store c.args.tx.now in
    still_shown old (behind g.S.Store c.list_running.new.tx) c.list_running.ensures.reads.survives (shows_contexts old c.requires) c.in_ok-listed.ensures.reads.same

pub returns-clause-ok : goal.returns-clause-ok
returns-clause-ok g c clean =
    let old = behind g.S.Store c.args.tx.now in
    let mid = behind g.S.Store c.list_running.new.tx in
    let new = behind g.S.Store c.join_entries.new.tx in
    let before = clean_before mid new _ c.join_entries.ensures.reads.survives clean in
    let unchanged = c.in_ok-listed.ensures.reads.same before in
    let has = c.requires (clean_before old mid _ c.list_running.ensures.reads.survives before) unchanged.0.was_open in
    if_ok c.join_entries.result (λ pairs is.
    is ∙ ap (λ entries. map (joined_entry entries) c.in_ok-listed.listed.items) (same_contexts old mid unchanged) ∙ ap (map (joined_entry (contexts old))) (c.in_ok-listed.ensures.ok before) ∙ listing_read old.now has c.args.after.now c.args.limit)
    (rw (c.deref.ensures.value) at (c.join_entries.ensures.ok clean unchanged.0.is_open))
