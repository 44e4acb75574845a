use Rattle.std.proofs.Common.{refl, ◌∙◌}
use Rattle.osb_contexts.specs.Reads.{behind}
use Rattle.osb_contexts.proofs.StepLemmas.{if_ok_with}
use Rattle.osb_statements.proofs.PlanLemmas.{records_schema, none_counted, still_passed, next_counted, all_counted}
use Rattle.osb_statements.proofs.WholeTexts.{select_end_of_instances_plain}
use Rattle.osb_statements.proofs.counting.count_instances.Goals as goal

pub loop-init : goal.loop-init
loop-init g c = (refl, none_counted (behind g.S.Store c.args.tx.now) c.new-after.result c.new-after.ensures c.requires)

pub end_of_piece-requires-clause-schema : goal.end_of_piece-requires-clause-schema
end_of_piece-requires-clause-schema g c = records_schema (behind g.S.Store c.loop.tx) c.loop.invariant.1.shows

pub end_of_piece-requires-clause-plain : goal.end_of_piece-requires-clause-plain
end_of_piece-requires-clause-plain g c = select_end_of_instances_plain

pub count_some-requires : goal.count_some-requires
count_some-requires g c = (still_passed (behind g.S.Store c.args.tx.now) (behind g.S.Store c.loop.tx) (behind g.S.Store c.end_of_piece.new.tx) _ c.loop.invariant.1 c.in_ok-to.ensures.reads.survives c.in_ok-to.ensures.reads.same).shows

pub count_next-requires : goal.count_next-requires
count_next-requires g c = (still_passed (behind g.S.Store c.args.tx.now) (behind g.S.Store c.loop.tx) (behind g.S.Store c.end_of_piece.new.tx) _ c.loop.invariant.1 c.in_ok-to.ensures.reads.survives c.in_ok-to.ensures.reads.same).shows

pub loop-preserved : goal.loop-preserved
loop-preserved g c =
    let old = behind g.S.Store c.args.tx.now in
    let now = behind g.S.Store c.loop.tx in
    let mid = behind g.S.Store c.end_of_piece.new.tx in
    let next = behind g.S.Store c.count_next.new.tx in
    let so_far = still_passed old now mid _ c.loop.invariant.1 c.in_ok-to.ensures.reads.survives c.in_ok-to.ensures.reads.same in
    let reads = c.in_ok-counted.ensures.reads in (
      reads.same_reference ∙ c.in_ok-to.ensures.reads.same_reference ∙ c.loop.invariant.0,
      next_counted old mid next c.loop.after c.loop.counted c.in_ok-counted.counted so_far reads.survives reads.same c.in-Some.to c.in_ok-counted.ensures.below c.in_ok-counted.ensures.ok,
    )

pub returns-in_default-clause-ok : goal.returns-in_default-clause-ok
returns-in_default-clause-ok g c clean live =
    let old = behind g.S.Store c.args.tx.now in
    let now = behind g.S.Store c.loop.tx in
    let mid = behind g.S.Store c.end_of_piece.new.tx in
    let new = behind g.S.Store c.count_some.new.tx in
    let so_far = still_passed old now mid _ c.loop.invariant.1 c.in_ok-to.ensures.reads.survives c.in_ok-to.ensures.reads.same in
    let reads = c.count_some.ensures.reads in
    if_ok_with c.count_some.result (λ sum same sums. all_counted old mid new c.loop.after c.loop.counted sum so_far reads.survives (λ _. same) (λ _. sums) c.requires clean live) (reads.same clean)
    (rw (c.as_str-in_default.ensures) at (c.count_some.ensures.ok clean))
