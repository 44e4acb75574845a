use Rattle.osb_catalog.proofs.FoundLemmas.{has_place}
use Rattle.osb_catalog.proofs.laws.placed.Goals as goal

pub returns : goal.returns
returns c = has_place
