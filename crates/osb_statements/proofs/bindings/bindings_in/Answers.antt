use Rattle.std.proofs.Common.{rules}
use Rattle.std.specs.Prelude.{⊤}
use Rattle.sqlite_keyed.proofs.ListLemmas.{all_of}
use Rattle.osb_statements.specs.Bindings.{binding_row}
use Rattle.osb_statements.specs.Read.{binding_columns}
use Rattle.osb_statements.proofs.bindings.bindings_in.Goals as goal
use Rattle.osb_contexts.proofs.ReadLemmas.{told_more, row_of, row_in_utf8, utf8_more}

pub loop-row-preserved : goal.loop-row-preserved
loop-row-preserved c = (
  told_more binding_row binding_columns c.args.rows.now c.loop-row.row-index c.row-item.result c.loop-row.entries.items c.push.new.self.items _ c.loop-row-test.true c.row-item.is c.loop-row.invariant.0 c.in_ok-binding_entry_in.ensures.told c.in_ok-push.ensures.items,
  utf8_more binding_row c.loop-row.entries.items c.push.new.self.items _ c.loop-row.invariant.1 c.in_ok-binding_entry_in.ensures.texts c.in_ok-push.ensures.items,
)

pub returns-in_err-binding_entry_in-clause-known : goal.returns-in_err-binding_entry_in-clause-known
returns-in_err-binding_entry_in-clause-known c entries are texts is =
    let at = row_of binding_row (λ _. ⊤) c.args.rows.now entries c.loop-row.row-index c.row-item.result c.loop-row-test.true c.row-item.is are (all_of (λ _. ⊤) (λ _. tt) entries) in
    let utf8 = row_in_utf8 binding_row c.args.rows.now entries c.loop-row.row-index c.row-item.result c.loop-row-test.true c.row-item.is are texts in
    c.in_err-binding_entry_in.ensures.known at.0 at.1 tt utf8 (search rules)
