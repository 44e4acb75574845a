use Rattle.osb_standing.proofs.RowLemmas.{standing_is}
use Rattle.osb_standing.proofs.ReadLemmas.{count_is}
use Rattle.osb_standing.proofs.laws.instance_rows_tell.Goals as goal

pub returns : goal.returns
returns c = record { standing = standing_is; count = count_is }
