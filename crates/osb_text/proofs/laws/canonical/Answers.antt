use Rattle.osb_text.proofs.CompactTexts.{one_value}
use Rattle.osb_text.proofs.laws.canonical.Goals as goal

pub returns : goal.returns
returns c = one_value
