use Rattle.osb_standing.proofs.RowLemmas.{bindings_are}
use Rattle.osb_standing.proofs.ReadLemmas.{bound_is}
use Rattle.osb_standing.proofs.laws.binding_rows_tell.Goals as goal

pub returns : goal.returns
returns c = record { bindings = bindings_are; remain = bound_is }
