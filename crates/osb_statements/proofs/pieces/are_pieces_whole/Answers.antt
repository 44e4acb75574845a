use Rattle.std.proofs.Common.{rules, refl, ◌∙◌}
use Rattle.sqlite.specs.declared.types.Value.TheVariants.{Text}
use Rattle.osb_contexts.specs.Reads.{behind}
use Rattle.osb_contexts.specs.Pieces.{beyond}
use Rattle.osb_contexts.proofs.StepLemmas.{clean_before}
use Rattle.osb_rows.proofs.ResultLemmas.{if_ok}
use Rattle.osb_statements.proofs.JudgedLemmas.{none_judged, still_judged, one_judged, piece_stored, none_stored, all_judged}
use Rattle.osb_statements.proofs.WholeTexts.{select_end_plain}
use Rattle.osb_statements.proofs.pieces.are_pieces_whole.Goals as goal

pub loop-init : goal.loop-init
loop-init g c = (refl, none_judged (behind g.S.Store c.args.tx.now) c.new-after.result c.new-after.ensures c.requires.schema c.requires.cut)

pub end_of_piece-requires-clause-schema : goal.end_of_piece-requires-clause-schema
end_of_piece-requires-clause-schema g c = c.loop.invariant.1.schema

pub end_of_piece-requires-clause-plain : goal.end_of_piece-requires-clause-plain
end_of_piece-requires-clause-plain g c = select_end_plain

pub loop-preserved : goal.loop-preserved
loop-preserved g c =
    let old = behind g.S.Store c.args.tx.now in
    let now = behind g.S.Store c.loop.tx in
    let mid = behind g.S.Store c.end_of_piece.new.tx in
    let next = behind g.S.Store c.is_next_whole.new.tx in
    let judged = still_judged old now mid c.loop.after c.loop.invariant.1 c.in_ok-to.ensures.reads.survives c.in_ok-to.ensures.reads.same in
    let reads = c.in_ok-is_next_whole.ensures.reads in (
      reads.same_reference ∙ c.in_ok-to.ensures.reads.same_reference ∙ c.loop.invariant.0,
      one_judged old mid next c.loop.after c.in-Some.to c.in_ok-is_next_whole.field-0 c.requires.cut judged reads.survives reads.same c.in_ok-is_next_whole.ensures.ok c.if-not-branch.false,
    )

pub returns-in_err-is_next_whole-clause-known : goal.returns-in_err-is_next_whole-clause-known
returns-in_err-is_next_whole-clause-known g c clean live stores is =
    let old = behind g.S.Store c.args.tx.now in
    let now = behind g.S.Store c.loop.tx in
    let mid = behind g.S.Store c.end_of_piece.new.tx in
    let next = behind g.S.Store c.is_next_whole.new.tx in
    let before = clean_before mid next _ c.is_next_whole.ensures.reads.survives clean in
    let judged = still_judged old now mid c.loop.after c.loop.invariant.1 c.in_ok-to.ensures.reads.survives c.in_ok-to.ensures.reads.same in
    c.in_err-is_next_whole.ensures.known clean (piece_stored old mid c.loop.after c.requires.cut judged before live (Text c.in-Some.to) stores) (search rules)

pub returns-then-not-branch-clause-ok : goal.returns-then-not-branch-clause-ok
returns-then-not-branch-clause-ok g c clean live =
    let old = behind g.S.Store c.args.tx.now in
    let now = behind g.S.Store c.loop.tx in
    let mid = behind g.S.Store c.end_of_piece.new.tx in
    let next = behind g.S.Store c.is_next_whole.new.tx in
    let before = clean_before mid next _ c.is_next_whole.ensures.reads.survives clean in
    let judged = still_judged old now mid c.loop.after c.loop.invariant.1 c.in_ok-to.ensures.reads.survives c.in_ok-to.ensures.reads.same in
    none_stored old mid c.loop.after c.requires.cut judged before live (Text c.in-Some.to) c.in_ok-is_next_whole.field-0 (c.in_ok-is_next_whole.ensures.ok clean).1 c.if-not-branch.true

pub returns-in_default-clause-ok : goal.returns-in_default-clause-ok
returns-in_default-clause-ok g c clean live =
    let old = behind g.S.Store c.args.tx.now in
    let now = behind g.S.Store c.loop.tx in
    let mid = behind g.S.Store c.end_of_piece.new.tx in
    let new = behind g.S.Store c.is_piece_whole.new.tx in
    let before = clean_before mid new _ c.is_piece_whole.ensures.reads.survives clean in
    let judged = still_judged old now mid c.loop.after c.loop.invariant.1 c.in_ok-to.ensures.reads.survives c.in_ok-to.ensures.reads.same in
    if_ok c.is_piece_whole.result (λ answer says. all_judged old mid c.loop.after c.requires.cut judged before live answer says) (rw (c.as_str-in_default.ensures) at (c.is_piece_whole.ensures.ok clean))

pub returns-in_default-clause-known : goal.returns-in_default-clause-known
returns-in_default-clause-known g c clean live stores is =
    let old = behind g.S.Store c.args.tx.now in
    let now = behind g.S.Store c.loop.tx in
    let mid = behind g.S.Store c.end_of_piece.new.tx in
    let new = behind g.S.Store c.is_piece_whole.new.tx in
    let before = clean_before mid new _ c.is_piece_whole.ensures.reads.survives clean in
    let judged = still_judged old now mid c.loop.after c.loop.invariant.1 c.in_ok-to.ensures.reads.survives c.in_ok-to.ensures.reads.same in
    c.is_piece_whole.ensures.known clean (rw (c.as_str-in_default.ensures) (piece_stored old mid c.loop.after c.requires.cut judged before live beyond stores)) is
