use Rattle.std.proofs.Common.{rules, refl}
use Rattle.osb_contexts.specs.Reads.{behind}
use Rattle.osb_rows.proofs.ResultLemmas.{then_ok}
use Rattle.osb_statements.proofs.MigratedLemmas.{none_migrated, still_migrated, next_migrated, all_migrated}
use Rattle.osb_statements.proofs.StoredPieceLemmas.{below_beyond}
use Rattle.osb_statements.proofs.WholeTexts.{select_end_plain}
use Rattle.osb_statements.proofs.first.migrate_pieces.Goals as goal

pub loop-init : goal.loop-init
loop-init g c = (refl, none_migrated (behind g.S.Store c.args.tx.now) c.new-after.result c.new-after.ensures c.requires.migrating c.requires.blank)

pub loop-preserved : goal.loop-preserved
loop-preserved g c =
    let old = behind g.S.Store c.args.tx.now in
    let now = behind g.S.Store c.loop.tx in
    let mid = behind g.S.Store c.end_of_piece.new.tx in
    let new = behind g.S.Store c.migrate_next.new.tx in
    let so_far = still_migrated old now mid c.loop.after c.loop.invariant.1 c.in_ok-to.ensures.reads.survives c.in_ok-to.ensures.reads.same in
    (search rules, next_migrated old mid new c.loop.after so_far c.migrate_next.ensures.inside.survives c.in-Some.to c.in_ok-migrate_next.ensures.ok)

pub end_of_piece-requires-clause-plain : goal.end_of_piece-requires-clause-plain
end_of_piece-requires-clause-plain g c = select_end_plain

pub migrate_piece-requires-clause-order : goal.migrate_piece-requires-clause-order
migrate_piece-requires-clause-order g c = rw (c.as_str-in_default.ensures) (below_beyond c.loop.after)

pub returns-in_default-clause-ok : goal.returns-in_default-clause-ok
returns-in_default-clause-ok g c clean =
    let old = behind g.S.Store c.args.tx.now in
    let now = behind g.S.Store c.loop.tx in
    let mid = behind g.S.Store c.end_of_piece.new.tx in
    let new = behind g.S.Store c.migrate_piece.new.tx in
    let so_far = still_migrated old now mid c.loop.after c.loop.invariant.1 c.in_ok-to.ensures.reads.survives c.in_ok-to.ensures.reads.same in
    then_ok c.migrate_piece.result (λ it. all_migrated old mid new c.loop.after so_far c.migrate_piece.ensures.inside.survives c.requires.migrating (λ _. it) clean) (c.migrate_piece.ensures.ok clean)
