use Rattle.osb_text.proofs.ReadableLemmas.{object_text}
use Rattle.osb_text.proofs.laws.object_text.Goals as goal

pub returns : goal.returns
returns c = object_text
