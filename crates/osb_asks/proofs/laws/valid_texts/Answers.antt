use Rattle.osb_asks.proofs.AskLemmas.{valid_texts, offered}
use Rattle.osb_asks.proofs.laws.valid_texts.Goals as goal

pub returns-clause-valid_texts : goal.returns-clause-valid_texts
returns-clause-valid_texts c = valid_texts

pub returns-clause-offered : goal.returns-clause-offered
returns-clause-offered c = offered
