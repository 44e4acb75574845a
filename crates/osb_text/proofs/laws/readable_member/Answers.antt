use Rattle.osb_text.proofs.ReadableLemmas.{readable_member}
use Rattle.osb_text.proofs.laws.readable_member.Goals as goal

pub returns : goal.returns
returns c = readable_member
