use Rattle.osb_contexts.specs.Reads.{behind}
use Rattle.osb_statements.proofs.ContextLemmas.{shows_records, still_contexts, still_running, may_bare, ended}
use Rattle.osb_statements.proofs.writing.end_joined.Goals as goal
use Rattle.osb_contexts.proofs.StepLemmas.{clean_before}

pub end_order-requires-clause-records : goal.end_order-requires-clause-records
end_order-requires-clause-records g c = shows_records (behind g.S.Store c.args.tx.now) c.requires.lives

pub end_order-requires-clause-last : goal.end_order-requires-clause-last
end_order-requires-clause-last g c clean live = may_bare (behind g.S.Store c.args.tx.now) (c.requires.lives clean live) c.args.instance.now c.args.number c.args.outcome.now (c.requires.last clean live)

pub end_context-requires : goal.end_context-requires
end_context-requires g c clean live =
    let old = behind g.S.Store c.args.tx.now in
    let mid = behind g.S.Store c.end_order.new.tx in
    let writes = c.in_ok-order.ensures.ok clean in
    let before = clean_before old mid _ c.end_order.ensures.inside.survives clean in
    still_contexts old (c.requires.lives before writes.within.was_open) c.args.instance.now mid _ writes

pub returns-clause-ok : goal.returns-clause-ok
returns-clause-ok g c clean =
    let old = behind g.S.Store c.args.tx.now in
    let mid = behind g.S.Store c.end_order.new.tx in
    let new = behind g.S.Store c.end_context.new.tx in
    let clean_mid = clean_before mid new _ c.end_context.ensures.inside.survives clean in
    let writes = c.in_ok-order.ensures.ok clean_mid in
    let before = clean_before old mid _ c.end_order.ensures.inside.survives clean_mid in
    let live = writes.within.was_open in
    ended old (c.requires.lives before live) c.args.instance.now c.args.number c.args.outcome.now (c.requires.last before live) mid new c.in_ok-order.order (c.requires.whole before live)
    (c.in_ok-order.ensures.ends clean_mid) writes (c.in_ok-end_context.ensures.ok clean (still_running old mid _ writes))
