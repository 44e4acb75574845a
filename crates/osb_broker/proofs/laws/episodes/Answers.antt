use Rattle.osb_broker.proofs.ConversationLemmas.{go_on, are_histories}
use Rattle.osb_broker.proofs.laws.episodes.Goals as goal

pub returns-clause-histories : goal.returns-clause-histories
returns-clause-histories c = are_histories

pub returns-clause-together : goal.returns-clause-together
returns-clause-together c = go_on
