use Rattle.osb_text.proofs.ReadableLemmas.{empty_object}
use Rattle.osb_text.proofs.laws.empty_object.Goals as goal

pub returns : goal.returns
returns c = empty_object
