use Rattle.std.proofs.Common.{rules, ◌≡◌, inl, inr, refl, ap, subst}
use Rattle.sqlite.specs.Held.{state}
use Rattle.sqlite.specs.Effect.{Database}
use Rattle.sqlite.specs.State.{HasCleanDisk}
use Rattle.sqlite.proofs.StateLemmas.{survives_weaker}
use Rattle.osb_records.specs.Opened.{HoldsSame, AreLivesOfDatabase}
use Rattle.osb_statements.specs.Stored.{bare_lives_in}
use Rattle.osb_records.proofs.OpenedLemmas.{migrated_same, made_first, taken}
use Rattle.osb_records.proofs.adopt.migrate_tables.Goals as goal

pub returns-in_err-commit-clause-crash : goal.returns-in_err-commit-clause-crash
returns-in_err-commit-clause-crash g c =
    let old = state g.S.Store c.args.conn.now in
    let begun = state g.S.Store c.transaction-tx.result.conn.now in
    let mid = state g.S.Store c.migrate_in.new.tx.conn.now in
    let same : begun.now ≡ old.now = ap (λ held. (state g.S.Store held).now) c.transaction-tx.ensures.begun in
    survives_weaker _ _ (λ db. db ≡ mid.now.trees) (HoldsSame old.now) (λ clean db is.
    let before : HasCleanDisk mid = search rules in
    let lives = c.in_ok-migrate_in.ensures.lives before in
    subst (λ (d : Database). HoldsSame d db) same (migrated_same begun mid db (made_first c.args.indexes _ lives.0) lives.1 (c.in_ok-migrate_in.ensures.ok before) is))
    (search rules)

pub returns-clause-crash : goal.returns-clause-crash
returns-clause-crash g c =
    let old = state g.S.Store c.args.conn.now in
    let begun = state g.S.Store c.transaction-tx.result.conn.now in
    let mid = state g.S.Store c.migrate_in.new.tx.conn.now in
    let same : begun.now ≡ old.now = ap (λ held. (state g.S.Store held).now) c.transaction-tx.ensures.begun in
    survives_weaker _ _ (λ db. db ≡ mid.now.trees) (HoldsSame old.now) (λ clean db is.
    let before : HasCleanDisk mid = search rules in
    let lives = c.in_ok-migrate_in.ensures.lives before in
    subst (λ (d : Database). HoldsSame d db) same (migrated_same begun mid db (made_first c.args.indexes _ lives.0) lives.1 (c.in_ok-migrate_in.ensures.ok before) is))
    (search rules)

pub returns-clause-takes : goal.returns-clause-takes
returns-clause-takes g c =
    let old = state g.S.Store c.args.conn.now in
    let begun = state g.S.Store c.transaction-tx.result.conn.now in
    let mid = state g.S.Store c.migrate_in.new.tx.conn.now in
    let new = state g.S.Store c.conn-2-1.given.0 in
    let same : begun.now ≡ old.now = ap (λ held. (state g.S.Store held).now) c.transaction-tx.ensures.begun in
    taken old begun mid new (bare_lives_in begun.now.trees) (search rules) (λ clean live.
    let before : HasCleanDisk mid = search rules in
    let stand = c.in_ok-migrate_in.ensures.lives before in
    let now : new.now ≡ mid.now = search rules in
    let committed : new.now ≡ new.committed = search rules in
    (c.in_ok-migrate_in.ensures.ok before, stand.1.lives, now, committed, subst (λ (d : Database). AreLivesOfDatabase d (bare_lives_in begun.now.trees)) same (inr (inl (made_first c.args.indexes _ stand.0, stand.1, refl)))))
