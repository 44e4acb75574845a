use Rattle.osb_text.proofs.Exactly.{exactly}
use Rattle.osb_text.proofs.laws.exact.Goals as goal

pub returns : goal.returns
returns c = exactly
