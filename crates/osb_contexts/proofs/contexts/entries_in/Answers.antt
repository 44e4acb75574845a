use Rattle.std.proofs.Common.{rules}
use Rattle.osb_contexts.specs.Contexts.{context_row, ContextFits}
use Rattle.osb_contexts.specs.Read.{context_columns}
use Rattle.osb_contexts.proofs.ReadLemmas.{told_more, row_of, row_in_utf8, utf8_more}
use Rattle.osb_contexts.proofs.contexts.entries_in.Goals as goal

pub loop-row-preserved : goal.loop-row-preserved
loop-row-preserved c = (
  told_more context_row context_columns c.args.rows.now c.loop-row.row-index c.row-item.result c.loop-row.entries.items c.push.new.self.items _ c.loop-row-test.true c.row-item.is c.loop-row.invariant.0 c.in_ok-entry_in.ensures.told c.in_ok-push.ensures.items,
  utf8_more context_row c.loop-row.entries.items c.push.new.self.items _ c.loop-row.invariant.1 c.in_ok-entry_in.ensures.texts c.in_ok-push.ensures.items,
)

pub returns-in_err-entry_in-clause-known : goal.returns-in_err-entry_in-clause-known
returns-in_err-entry_in-clause-known c entries are fit texts =
    let at = row_of context_row ContextFits c.args.rows.now entries c.loop-row.row-index c.row-item.result c.loop-row-test.true c.row-item.is are fit in
    let utf8 = row_in_utf8 context_row c.args.rows.now entries c.loop-row.row-index c.row-item.result c.loop-row-test.true c.row-item.is are texts in
    let other = c.in_err-entry_in.ensures.known at.0 at.1 at.2 utf8 in
    search rules
