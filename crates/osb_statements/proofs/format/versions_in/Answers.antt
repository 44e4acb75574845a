use Rattle.std.proofs.Common.{rules, ℕ, ◌<◌, ◌^◌, ap, sym, [], ◌∷◌}
use Rattle.sqlite.specs.Order.{column}
use Rattle.osb_contexts.specs.Format.{version_row}
use Rattle.osb_statements.specs.Read.{version_columns}
use Rattle.osb_statements.proofs.format.versions_in.Goals as goal
use Rattle.osb_contexts.proofs.ReadLemmas.{told_more, row_of}

pub loop-row-preserved : goal.loop-row-preserved
loop-row-preserved c = told_more version_row version_columns c.args.rows.now c.loop-row.row-index c.row-item.result c.loop-row.versions.items c.push.new.self.items _ c.loop-row-test.true c.row-item.is c.loop-row.invariant (ap (λ value. value ∷ []) (sym c.in_ok-number_in.ensures.held)) c.in_ok-push.ensures.items

pub returns-in_err-number_in-clause-known : goal.returns-in_err-number_in-clause-known
returns-in_err-number_in-clause-known c version are low is =
    let at = row_of version_row (λ (n : ℕ). n < 2 ^ 32) c.args.rows.now (version ∷ []) c.loop-row.row-index c.row-item.result c.loop-row-test.true c.row-item.is are (low, tt) in
    c.in_err-number_in.ensures.known at.0 (ap (λ cells. column cells 0) at.1) at.2 (search rules)
