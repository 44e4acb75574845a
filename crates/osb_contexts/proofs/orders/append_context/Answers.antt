use Rattle.std.proofs.Common.{ap, filter, ◌∙◌}
use Rattle.std.proofs.lemmas.Bool.{eqb-true}
use Rattle.osb_joined.specs.Contexts.{is_context}
use Rattle.osb_contexts.specs.Reads.{behind}
use Rattle.osb_contexts.proofs.StepLemmas.{clean_before}
use Rattle.osb_contexts.proofs.OrderLemmas.{still_free}
use Rattle.osb_contexts.proofs.orders.append_context.Goals as goal

pub put_standing-requires-clause-no_row : goal.put_standing-requires-clause-no_row
put_standing-requires-clause-no_row g c clean live first =
    let old = behind g.S.Store c.args.tx.now in
    let mid = behind g.S.Store c.insert_context.new.tx in
    let order = c.args.order.now in
    let before = clean_before old mid _ c.insert_context.ensures.inside.survives clean in
    let it = rw (c.as_str.ensures) at (c.in_ok-insert_context.ensures.ok clean) in
    ap (filter (is_context c.args.instance.now 0)) it.contexts_are ∙ still_free c.args.instance.now order _ first (c.requires.none_stands before it.within.was_open (eqb-true order.number 1 first))
