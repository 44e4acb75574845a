use Rattle.std.proofs.Common.{sym, ◌∙◌}
use Rattle.osb_statements.proofs.EditLemmas.{no_entries}
use Rattle.osb_statements.proofs.standing.apply_edit.Goals as goal

pub insert_binding-requires-clause-no_row : goal.insert_binding-requires-clause-no_row
insert_binding-requires-clause-no_row g c clean live = no_entries _ (sym (c.requires.had clean live c.in-Put-2.row c.in-Put-2.is) ∙ c.if-had.false)
