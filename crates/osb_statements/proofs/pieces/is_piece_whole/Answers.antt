use Rattle.std.proofs.Common.{rules, sym, subst}
use Rattle.sqlite.specs.Effect.{Database}
use Rattle.sqlite.specs.Values.{bound_value}
use Rattle.sqlite_value.specs.Value.{owned}
use Rattle.osb_contexts.specs.Pieces.{piece}
use Rattle.osb_contexts.specs.Reads.{behind}
use Rattle.osb_contexts.proofs.StepLemmas.{clean_before}
use Rattle.osb_rows.proofs.ResultLemmas.{if_ok}
use Rattle.osb_statements.specs.StoredLives.{StoreLives}
use Rattle.osb_statements.proofs.FitLemmas.{lives_fit}
use Rattle.osb_statements.proofs.StoredPieceLemmas.{lives_hold_rows, piece_judged}
use Rattle.osb_statements.proofs.pieces.is_piece_whole.Goals as goal

pub returns-clause-ok : goal.returns-clause-ok
returns-clause-ok g c clean =
    let old = behind g.S.Store c.args.tx.now in
    let mid = behind g.S.Store c.read_piece.new.tx in
    let new = behind g.S.Store c.read_contexts_between.new.tx in
    let before = clean_before mid new _ c.read_contexts_between.ensures.reads.survives clean in
    if_ok c.are_lives.result (λ answer says. piece_judged old.now mid.now c.args.after.now _ c.in_ok-read.read c.in_ok-contexts.contexts.items answer (c.in_ok-read.ensures.reads.same before).0.now_is
    (c.in_ok-read.ensures.ok before) (c.in_ok-contexts.ensures.ok clean) says)
    (rw (c.deref.ensures.value) at c.are_lives.ensures.ok)

pub returns-in_err-read-clause-known : goal.returns-in_err-read-clause-known
returns-in_err-read-clause-known g c clean stores is = c.in_err-read.ensures.known clean (lives_hold_rows _ stores) (lives_fit _ stores) (search rules)

pub returns-in_err-contexts-clause-known : goal.returns-in_err-contexts-clause-known
returns-in_err-contexts-clause-known g c clean stores is =
    let old = behind g.S.Store c.args.tx.now in
    let mid = behind g.S.Store c.read_piece.new.tx in
    let new = behind g.S.Store c.read_contexts_between.new.tx in
    let before = clean_before mid new _ c.read_contexts_between.ensures.reads.survives clean in
    c.in_err-contexts.ensures.known clean (subst (λ (d : Database). StoreLives (piece c.args.after.now (bound_value (owned c.args.to)) d.trees)) (sym (c.in_ok-read.ensures.reads.same before).0.now_is) stores) (search rules)
