use Rattle.osb_bare.proofs.ContextLemmas.{context_stands}
use Rattle.osb_bare.proofs.context_that_stands.Goals as goal

pub returns : goal.returns
returns c = context_stands
