use Rattle.std.proofs.Common.{◌∙◌}
use Rattle.osb_contexts.specs.Reads.{behind}
use Rattle.osb_contexts.proofs.MigrationLemmas.{next_free, next_inserted}
use Rattle.osb_contexts.proofs.migration.insert_contexts.Goals as goal

pub insert_context-requires-clause-no_row : goal.insert_context-requires-clause-no_row
insert_context-requires-clause-no_row g c =
    rw (c.as_str.ensures)
    (next_free (behind g.S.Store c.args.tx.now) (behind g.S.Store c.loop-entry.tx) c.args.entries.now c.loop-entry.entry-index c.entry-item.result c.loop-entry.invariant.1 c.requires.rising c.loop-entry-test.true c.entry-item.is)

pub loop-entry-preserved : goal.loop-entry-preserved
loop-entry-preserved g c =
    let old = behind g.S.Store c.args.tx.now in
    let now = behind g.S.Store c.loop-entry.tx in
    let next = behind g.S.Store c.insert_context.new.tx in
    let inside = c.in_ok-insert_context.ensures.inside in (
      inside.same_reference ∙ c.loop-entry.invariant.0,
      next_inserted old now next c.args.entries.now c.loop-entry.entry-index c.loop-entry.invariant.1 inside.survives inside.kept c.entry-item.result c.requires.rising c.loop-entry-test.true c.entry-item.is
          (λ clean. rw (c.as_str.ensures, c.as_str-in-loop-entry.ensures) at (c.in_ok-insert_context.ensures.ok clean)),
    )
