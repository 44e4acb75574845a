use Rattle.std.proofs.Common.{rules}
use Rattle.osb_statements.proofs.BareLemmas.{bare_edit_follows}
use Rattle.osb_statements.proofs.standing.edit_from.Goals as goal

pub returns-clause-follows : goal.returns-clause-follows
returns-clause-follows c life change written told = bare_edit_follows life change c.args.order.now c.args.old c.in_ok-edit.edit written told (search rules)
