use Rattle.osb_broker.proofs.TextLemmas.{of_cut}
use Rattle.osb_broker.proofs.laws.texts_are_of_the_cut.Goals as goal

pub returns : goal.returns
returns c = of_cut
