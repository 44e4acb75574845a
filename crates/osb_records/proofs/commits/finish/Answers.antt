use Rattle.std.proofs.Common.{rules, ◌≡◌, IsTrue, sym, ap, subst}
use Rattle.sqlite.specs.Held.{state}
use Rattle.sqlite.specs.State.{HasCleanDisk}
use Rattle.osb_statements.specs.Queries.{HasLives}
use Rattle.osb_statements.proofs.ContextLemmas.{ready_lives}
use Rattle.osb_statements.proofs.StepLemmas.{ready_of, tables_along, lives_along, standing_along, contexts_along, written_kept}
use Rattle.osb_records.proofs.commits.finish.Goals as goal

pub end_joined-requires-clause-lives : goal.end_joined-requires-clause-lives
end_joined-requires-clause-lives g c clean live =
    let old = state g.S.Store c.args.conn.now in
    let begun = state g.S.Store c.transaction-tx.result.conn.now in
    let same : begun.now ≡ old.now = ap (λ held. (state g.S.Store held).now) c.transaction-tx.ensures.begun in
    let clean_old : HasCleanDisk old = search rules in
    let live_old : IsTrue old.is_open = search rules in
    subst HasLives (sym same) (ready_lives old c.requires.ready clean_old live_old)

pub returns-clause-ready : goal.returns-clause-ready
returns-clause-ready g c = ready_of _ c.commit.result (search rules) (λ clean live. search (written_kept, rules)) (λ clean live. search (tables_along, lives_along, standing_along, contexts_along, rules))

pub returns-in_err-commit-clause-ready : goal.returns-in_err-commit-clause-ready
returns-in_err-commit-clause-ready g c = ready_of _ c.commit.result (search rules) (λ clean live. search (written_kept, rules)) (λ clean live. search (tables_along, lives_along, standing_along, contexts_along, rules))
