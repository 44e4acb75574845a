use Rattle.osb_standing.proofs.RowLemmas.{row_stands}
use Rattle.osb_standing.proofs.instance.instance_row_after.Goals as goal

pub returns-clause-follows : goal.returns-clause-follows
returns-clause-follows c = λ life change w old failed. row_stands life change w old failed _ c.row_after.ensures
