use Rattle.std.proofs.Common.{refl, ◌∙◌}
use Rattle.osb_contexts.specs.Reads.{behind}
use Rattle.osb_statements.proofs.PlanLemmas.{records_schema, none_gathered, still_passed, next_gathered, all_gathered}
use Rattle.osb_statements.proofs.WholeTexts.{select_end_of_instances_plain}
use Rattle.osb_statements.proofs.plans.standing_plans.Goals as goal

pub loop-init : goal.loop-init
loop-init g c = (refl, none_gathered (behind g.S.Store c.args.tx.now) c.new-after.result c.new-plans.result c.new-after.ensures c.new-plans.ensures.empty c.requires)

pub end_of_piece-requires-clause-schema : goal.end_of_piece-requires-clause-schema
end_of_piece-requires-clause-schema g c = records_schema (behind g.S.Store c.loop.tx) c.loop.invariant.1.shows

pub end_of_piece-requires-clause-plain : goal.end_of_piece-requires-clause-plain
end_of_piece-requires-clause-plain g c = select_end_of_instances_plain

pub add_some-requires : goal.add_some-requires
add_some-requires g c =
    let old = behind g.S.Store c.args.tx.now in
    (still_passed old (behind g.S.Store c.loop.tx) (behind g.S.Store c.end_of_piece.new.tx) _ c.loop.invariant.1 c.in_ok-to.ensures.reads.survives c.in_ok-to.ensures.reads.same).shows

pub add_next-requires : goal.add_next-requires
add_next-requires g c =
    let old = behind g.S.Store c.args.tx.now in
    (still_passed old (behind g.S.Store c.loop.tx) (behind g.S.Store c.end_of_piece.new.tx) _ c.loop.invariant.1 c.in_ok-to.ensures.reads.survives c.in_ok-to.ensures.reads.same).shows

pub loop-preserved : goal.loop-preserved
loop-preserved g c =
    let old = behind g.S.Store c.args.tx.now in
    let now = behind g.S.Store c.loop.tx in
    let mid = behind g.S.Store c.end_of_piece.new.tx in
    let next = behind g.S.Store c.add_next.new.tx in
    let so_far = still_passed old now mid _ c.loop.invariant.1 c.in_ok-to.ensures.reads.survives c.in_ok-to.ensures.reads.same in
    let reads = c.in_ok-add_next.ensures.reads in (
      reads.same_reference ∙ c.in_ok-to.ensures.reads.same_reference ∙ c.loop.invariant.0,
      next_gathered old mid next c.loop.after c.loop.plans c.add_next.new.plans so_far reads.survives reads.same c.in-Some.to c.in_ok-add_next.ensures.below c.in_ok-add_next.ensures.ok,
    )

pub returns-in_default-clause-ok : goal.returns-in_default-clause-ok
returns-in_default-clause-ok g c clean live =
    let old = behind g.S.Store c.args.tx.now in
    let now = behind g.S.Store c.loop.tx in
    let mid = behind g.S.Store c.end_of_piece.new.tx in
    let new = behind g.S.Store c.add_some.new.tx in
    let so_far = still_passed old now mid _ c.loop.invariant.1 c.in_ok-to.ensures.reads.survives c.in_ok-to.ensures.reads.same in
    let reads = c.in_ok-add_some.ensures.reads in
    all_gathered old mid new c.loop.after c.loop.plans c.add_some.new.plans so_far reads.survives reads.same (rw (c.as_str-in_default.ensures) at c.in_ok-add_some.ensures.ok) c.requires clean live
