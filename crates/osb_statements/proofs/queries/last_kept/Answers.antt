use Rattle.std.proofs.Common.{[], ap, ◌∙◌}
use Rattle.sqlite.specs.Effect.{Database}
use Rattle.sqlite.specs.Held.{state}
use Rattle.osb_orders.specs.declared.order.OrderKind.TheVariants.{Create, Update}
use Rattle.osb_orders.specs.Lives.{life_of}
use Rattle.osb_statements.specs.Asked.{is_kind_of}
use Rattle.osb_statements.specs.Steps.{bare_in}
use Rattle.osb_statements.specs.Stored.{bare_lives_in}
use Rattle.osb_rows.proofs.ResultLemmas.{if_ok}
use Rattle.osb_statements.proofs.SubjectLemmas.{then_last, kept_last}
use Rattle.osb_statements.proofs.queries.last_kept.Goals as goal
use Rattle.osb_contexts.proofs.StepLemmas.{clean_before}

pub returns-clause-ok : goal.returns-clause-ok
returns-clause-ok g c clean =
    let old = state g.S.Store c.args.tx.now.conn.now in
    let mid = state g.S.Store c.last_of_kind.new.tx.conn.now in
    let new = state g.S.Store c.later_of_kind.new.tx.conn.now in
    let id = c.args.instance.now in
    let between = clean_before mid new _ c.later_of_kind.ensures.reads.survives clean in
    let same = c.in_ok-created.ensures.reads.same between in
    let records = c.requires (clean_before old mid _ c.last_of_kind.ensures.reads.survives between) same.0.was_open in
    let life = ap (λ (db : Database). life_of (bare_lives_in db.trees) id) same.0.now_is in
    if_ok c.later_of_kind.result (λ last is. then_last (is_kind_of [] Create) (is_kind_of [] Update) c.in_ok-created.created last (life_of (bare_in old) id) (life_of (bare_in mid) id) (c.in_ok-created.ensures.ok between) life is ∙ kept_last (bare_in old) id records.lives) (c.later_of_kind.ensures.ok clean)
