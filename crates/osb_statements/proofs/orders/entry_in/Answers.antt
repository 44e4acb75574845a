use Rattle.std.proofs.Common.{rules, ◌∷◌, ap, sym, ◌∙◌}
use Rattle.sqlite.specs.Order.{column}
use Rattle.osb_statements.specs.Stored.{order_row}
use Rattle.osb_statements.proofs.orders.entry_in.Goals as goal

pub returns-clause-entry : goal.returns-clause-entry
returns-clause-entry c = record {
  told = ap (λ cell. cell ∷ order_row c.in_ok-order_in.field-0) (sym c.in_ok-text_in.ensures.held) ∙ ap (λ cells. column c.args.row.now 0 ∷ cells) (sym c.in_ok-order_in.ensures.held);
  texts = (c.in_ok-text_in.ensures.utf8, c.in_ok-order_in.ensures.texts);
  known = λ entry row fit utf8 is. search rules;
}
