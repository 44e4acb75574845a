use Rattle.std.proofs.Common.{◌∙◌}
use Rattle.osb_contexts.specs.Reads.{behind}
use Rattle.osb_contexts.proofs.StepLemmas.{clean_before}
use Rattle.osb_rows.proofs.ResultLemmas.{if_ok}
use Rattle.osb_statements.proofs.StoredPieceLemmas.{first_named, others_named}
use Rattle.osb_statements.proofs.pieces.may_be_cut.Goals as goal

pub returns-then-not-branch-2-clause-all : goal.returns-then-not-branch-2-clause-all
returns-then-not-branch-2-clause-all g c clean stores =
    let old = behind g.S.Store c.args.tx.now in
    let mid = behind g.S.Store c.is_version.new.tx in
    let new = behind g.S.Store c.are_first_named.new.tx in
    let before = clean_before mid new _ c.are_first_named.ensures.reads.survives clean in
    let same = (c.in_ok-is_version.ensures.reads.same before).0.now_is in
    let yes = first_named old.now mid.now same stores c.in_ok-are_first_named.field-0 (c.in_ok-are_first_named.ensures.ok clean).2 in
    let other = c.if-not-branch-2.true in
    cc

pub returns-clause-all : goal.returns-clause-all
returns-clause-all g c clean =
    let old = behind g.S.Store c.args.tx.now in
    let first = behind g.S.Store c.is_version.new.tx in
    let second = behind g.S.Store c.are_first_named.new.tx in
    let new = behind g.S.Store c.are_others_named.new.tx in
    let clean_second = clean_before second new _ c.are_others_named.ensures.reads.survives clean in
    let clean_first = clean_before first second _ c.are_first_named.ensures.reads.survives clean_second in
    let same = (c.in_ok-are_first_named.ensures.reads.same clean_second).0.now_is ∙ (c.in_ok-is_version.ensures.reads.same clean_first).0.now_is in
    if_ok c.are_others_named.result (λ yes says stores. others_named old.now second.now same stores yes says.2) (c.are_others_named.ensures.ok clean)
