use Rattle.std.proofs.Common.{rules, ◌≡◌, IsTrue, sym, ap, subst}
use Rattle.sqlite.specs.Held.{state}
use Rattle.sqlite.specs.State.{HasCleanDisk}
use Rattle.osb_statements.specs.Queries.{HasLives}
use Rattle.osb_statements.proofs.ContextLemmas.{ready_lives}
use Rattle.osb_records.proofs.looking.read_next_id.Goals as goal

pub next_id-requires : goal.next_id-requires
next_id-requires g c clean live =
    let old = state g.S.Store c.args.conn.now in
    let begun = state g.S.Store c.transaction-tx.result.conn.now in
    let same : begun.now ≡ old.now = ap (λ held. (state g.S.Store held).now) c.transaction-tx.ensures.begun in
    let clean_old : HasCleanDisk old = search rules in
    let live_old : IsTrue old.is_open = search rules in
    subst HasLives (sym same) (ready_lives old c.requires clean_old live_old)
