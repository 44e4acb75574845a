use Rattle.osb_contexts.specs.Reads.{behind}
use Rattle.osb_statements.proofs.ContextLemmas.{still_contexts, whole_bare, no_row, none_stands, appended}
use Rattle.osb_statements.proofs.writing.append_joined.Goals as goal
use Rattle.osb_contexts.proofs.StepLemmas.{clean_before}

pub append_order-requires-clause-whole : goal.append_order-requires-clause-whole
append_order-requires-clause-whole g c clean live = whole_bare (behind g.S.Store c.args.tx.now) (c.requires.lives clean live) c.args.instance.now c.args.order.now (c.requires.whole clean live)

pub append_context-requires-clause-tables : goal.append_context-requires-clause-tables
append_context-requires-clause-tables g c clean live =
    let old = behind g.S.Store c.args.tx.now in
    let mid = behind g.S.Store c.append_order.new.tx in
    let writes = c.in_ok-append_order.ensures.ok clean in
    let before = clean_before old mid _ c.append_order.ensures.inside.survives clean in
    still_contexts old (c.requires.lives before writes.within.was_open) c.args.instance.now mid _ writes

pub append_context-requires-clause-no_row : goal.append_context-requires-clause-no_row
append_context-requires-clause-no_row g c clean live =
    let old = behind g.S.Store c.args.tx.now in
    let mid = behind g.S.Store c.append_order.new.tx in
    let writes = c.in_ok-append_order.ensures.ok clean in
    let before = clean_before old mid _ c.append_order.ensures.inside.survives clean in
    no_row old (c.requires.lives before writes.within.was_open) c.args.instance.now c.args.order.now (c.requires.whole before writes.within.was_open) mid _ writes

pub append_context-requires-clause-none_stands : goal.append_context-requires-clause-none_stands
append_context-requires-clause-none_stands g c clean live =
    let old = behind g.S.Store c.args.tx.now in
    let mid = behind g.S.Store c.append_order.new.tx in
    let writes = c.in_ok-append_order.ensures.ok clean in
    let before = clean_before old mid _ c.append_order.ensures.inside.survives clean in
    none_stands old (c.requires.lives before writes.within.was_open) c.args.instance.now c.args.order.now (c.requires.whole before writes.within.was_open) mid _ writes

pub returns-clause-ok : goal.returns-clause-ok
returns-clause-ok g c clean =
    let old = behind g.S.Store c.args.tx.now in
    let mid = behind g.S.Store c.append_order.new.tx in
    let new = behind g.S.Store c.append_context.new.tx in
    let clean_mid = clean_before mid new _ c.append_context.ensures.inside.survives clean in
    let writes = c.in_ok-append_order.ensures.ok clean_mid in
    let before = clean_before old mid _ c.append_order.ensures.inside.survives clean_mid in
    let live = writes.within.was_open in
    appended old (c.requires.lives before live) c.args.instance.now c.args.order.now (c.requires.whole before live) mid new writes (c.in_ok-append_context.ensures.ok clean)
