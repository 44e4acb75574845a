use Rattle.std.proofs.Common.{refl, ◌∙◌}
use Rattle.osb_contexts.specs.Reads.{behind}
use Rattle.osb_contexts.proofs.StepLemmas.{clean_before, if_ok_with}
use Rattle.osb_statements.proofs.PlanLemmas.{records_schema, no_rows_counted, still_counted, next_rows_counted, bindings_counted}
use Rattle.osb_statements.proofs.WholeTexts.{select_end_of_bindings_plain}
use Rattle.osb_statements.proofs.counting.count_bindings.Goals as goal

pub loop-init : goal.loop-init
loop-init g c = (refl, no_rows_counted (behind g.S.Store c.args.tx.now) c.new-after.result c.new-after.ensures c.requires)

pub end_of_piece-requires-clause-schema : goal.end_of_piece-requires-clause-schema
end_of_piece-requires-clause-schema g c = records_schema (behind g.S.Store c.loop.tx) c.loop.invariant.1.passed.shows

pub end_of_piece-requires-clause-plain : goal.end_of_piece-requires-clause-plain
end_of_piece-requires-clause-plain g c = select_end_of_bindings_plain

pub count_some_bindings-requires : goal.count_some_bindings-requires
count_some_bindings-requires g c =
    records_schema (behind g.S.Store c.end_of_piece.new.tx) (still_counted (behind g.S.Store c.args.tx.now) (behind g.S.Store c.loop.tx) (behind g.S.Store c.end_of_piece.new.tx) c.loop.after c.loop.counted c.loop.invariant.1 c.in_ok-to.ensures.reads.survives c.in_ok-to.ensures.reads.kept c.in_ok-to.ensures.reads.same).passed.shows

pub count_next_bindings-requires : goal.count_next_bindings-requires
count_next_bindings-requires g c =
    records_schema (behind g.S.Store c.end_of_piece.new.tx) (still_counted (behind g.S.Store c.args.tx.now) (behind g.S.Store c.loop.tx) (behind g.S.Store c.end_of_piece.new.tx) c.loop.after c.loop.counted c.loop.invariant.1 c.in_ok-to.ensures.reads.survives c.in_ok-to.ensures.reads.kept c.in_ok-to.ensures.reads.same).passed.shows

pub loop-preserved : goal.loop-preserved
loop-preserved g c =
    let old = behind g.S.Store c.args.tx.now in
    let now = behind g.S.Store c.loop.tx in
    let mid = behind g.S.Store c.end_of_piece.new.tx in
    let next = behind g.S.Store c.count_next_bindings.new.tx in
    let so_far = still_counted old now mid c.loop.after c.loop.counted c.loop.invariant.1 c.in_ok-to.ensures.reads.survives c.in_ok-to.ensures.reads.kept c.in_ok-to.ensures.reads.same in
    let reads = c.in_ok-counted.ensures.reads in (
      reads.same_reference ∙ c.in_ok-to.ensures.reads.same_reference ∙ c.loop.invariant.0,
      next_rows_counted old mid next c.loop.after c.loop.counted so_far reads.survives reads.kept reads.same c.in-Some.to c.in_ok-counted.counted c.in_ok-counted.ensures.below c.in_ok-counted.ensures.ok,
    )

pub returns-in_default-clause-ok : goal.returns-in_default-clause-ok
returns-in_default-clause-ok g c clean =
    let old = behind g.S.Store c.args.tx.now in
    let now = behind g.S.Store c.loop.tx in
    let mid = behind g.S.Store c.end_of_piece.new.tx in
    let new = behind g.S.Store c.count_some_bindings.new.tx in
    let so_far = still_counted old now mid c.loop.after c.loop.counted c.loop.invariant.1 c.in_ok-to.ensures.reads.survives c.in_ok-to.ensures.reads.kept c.in_ok-to.ensures.reads.same in
    let reads = c.count_some_bindings.ensures.reads in
    if_ok_with c.count_some_bindings.result
    (λ sum same sums. bindings_counted old mid new c.loop.after c.loop.counted so_far reads.survives reads.kept (λ _. same) sum c.requires (λ _. sums) clean (so_far.passed.was_open (clean_before mid new _ reads.survives clean) same.0.was_open))
    (reads.same clean)
    (rw (c.as_str-in_default.ensures) at (c.count_some_bindings.ensures.ok clean))
