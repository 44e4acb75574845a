use Rattle.osb_text.proofs.ReadableLemmas.{reads_back}
use Rattle.osb_text.proofs.laws.reads_back.Goals as goal

pub returns : goal.returns
returns c = reads_back
