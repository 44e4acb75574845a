use Rattle.std.proofs.Common.{rules, ap}
use Rattle.sqlite.specs.Order.{column}
use Rattle.osb_statements.proofs.orders.order_in.Goals as goal

pub returns-in_err-outcome_in-clause-known : goal.returns-in_err-outcome_in-clause-known
returns-in_err-outcome_in-clause-known c entry row fit utf8 is = c.in_err-outcome_in.ensures.known entry.1.outcome.state (ap (λ cells. column cells 10) row) utf8 (search rules)
