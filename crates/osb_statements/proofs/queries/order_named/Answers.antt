use Rattle.std.proofs.Common.{ap, ◌∙◌}
use Rattle.sqlite.specs.Held.{state}
use Rattle.osb_orders.specs.Lives.{life_of}
use Rattle.osb_orders.specs.Named.{order_numbered}
use Rattle.osb_statements.specs.Asked.{only}
use Rattle.osb_statements.specs.Steps.{bare_in}
use Rattle.osb_statements.proofs.NamedLemmas.{is_named, named_found}
use Rattle.osb_rows.proofs.ResultLemmas.{if_ok}
use Rattle.osb_statements.proofs.queries.order_named.Goals as goal
use Rattle.osb_contexts.proofs.StepLemmas.{clean_before}

pub returns-clause-ok : goal.returns-clause-ok
returns-clause-ok g c clean =
    let old = state g.S.Store c.args.tx.now.conn.now in
    let new = state g.S.Store c.order_numbered.new.tx.conn.now in
    let id = c.args.instance.now in
    let name = c.args.name.now in
    let same = c.in_ok-found.ensures.reads.same clean in
    let records = c.requires (clean_before old new _ c.order_numbered.ensures.reads.survives clean) same.0.was_open in
    let found = c.in_ok-found.ensures.ok clean ∙ ap (λ n. order_numbered n (life_of (bare_in old) id)) c.unwrap_or-number.ensures in
    if_ok c.only_named.result (λ order is passes. named_found (bare_in old) id name c.number_named.result records.lives c.number_named.ensures order (is ∙ ap (only (is_named name)) found) passes) c.only_named.ensures
