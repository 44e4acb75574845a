use Rattle.osb_text.proofs.ReadableLemmas.{readable}
use Rattle.osb_text.proofs.laws.readable.Goals as goal

pub returns : goal.returns
returns c = readable
