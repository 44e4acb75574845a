use Rattle.osb_standing.proofs.RowLemmas.{bindings_stand}
use Rattle.osb_standing.proofs.binding.binding_edit.Goals as goal

pub returns-clause-follows : goal.returns-clause-follows
returns-clause-follows c = λ life change w old. bindings_stand life change w old _ c.edit_of.ensures
