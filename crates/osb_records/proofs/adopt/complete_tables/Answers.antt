use Rattle.std.proofs.Common.{rules, ◌≡◌, inr, refl, ap, subst}
use Rattle.sqlite.specs.Held.{state}
use Rattle.sqlite.specs.Effect.{Database}
use Rattle.sqlite.specs.State.{HasCleanDisk}
use Rattle.sqlite.proofs.StateLemmas.{survives_weaker}
use Rattle.osb_records.specs.Opened.{HoldsSame, AreLivesOfDatabase}
use Rattle.osb_statements.specs.Steps.{stored}
use Rattle.osb_records.proofs.OpenedLemmas.{completed_same, lacking_second, taken}
use Rattle.osb_records.proofs.adopt.complete_tables.Goals as goal

pub returns-in_err-commit-clause-crash : goal.returns-in_err-commit-clause-crash
returns-in_err-commit-clause-crash g c =
    let old = state g.S.Store c.args.conn.now in
    let begun = state g.S.Store c.transaction-tx.result.conn.now in
    let mid = state g.S.Store c.index_tables.new.tx.conn.now in
    let same : begun.now ≡ old.now = ap (λ held. (state g.S.Store held).now) c.transaction-tx.ensures.begun in
    survives_weaker _ _ (λ db. db ≡ mid.now.trees) (HoldsSame old.now) (λ clean db is.
    let before : HasCleanDisk mid = search rules in
    let lives = c.in_ok-index_tables.ensures.lives before in
    subst (λ (d : Database). HoldsSame d db) same (completed_same begun mid db (lacking_second c.args.is_listed _ lives.0) lives.1 (c.in_ok-index_tables.ensures.ok before) is))
    (search rules)

pub returns-clause-crash : goal.returns-clause-crash
returns-clause-crash g c =
    let old = state g.S.Store c.args.conn.now in
    let begun = state g.S.Store c.transaction-tx.result.conn.now in
    let mid = state g.S.Store c.index_tables.new.tx.conn.now in
    let same : begun.now ≡ old.now = ap (λ held. (state g.S.Store held).now) c.transaction-tx.ensures.begun in
    survives_weaker _ _ (λ db. db ≡ mid.now.trees) (HoldsSame old.now) (λ clean db is.
    let before : HasCleanDisk mid = search rules in
    let lives = c.in_ok-index_tables.ensures.lives before in
    subst (λ (d : Database). HoldsSame d db) same (completed_same begun mid db (lacking_second c.args.is_listed _ lives.0) lives.1 (c.in_ok-index_tables.ensures.ok before) is))
    (search rules)

pub returns-clause-takes : goal.returns-clause-takes
returns-clause-takes g c =
    let old = state g.S.Store c.args.conn.now in
    let begun = state g.S.Store c.transaction-tx.result.conn.now in
    let mid = state g.S.Store c.index_tables.new.tx.conn.now in
    let new = state g.S.Store c.conn-2-1.given.0 in
    let same : begun.now ≡ old.now = ap (λ held. (state g.S.Store held).now) c.transaction-tx.ensures.begun in
    taken old begun mid new (stored begun) (search rules) (λ clean live.
    let before : HasCleanDisk mid = search rules in
    let stand = c.in_ok-index_tables.ensures.lives before in
    let now : new.now ≡ mid.now = search rules in
    let committed : new.now ≡ new.committed = search rules in
    (c.in_ok-index_tables.ensures.ok before, stand.1.lives, now, committed, subst (λ (d : Database). AreLivesOfDatabase d (stored begun)) same (inr (inr (lacking_second c.args.is_listed _ stand.0, stand.1, refl)))))
