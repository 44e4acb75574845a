use Rattle.osb_broker.proofs.ShardLemmas.{shards_apart, shards_keep_out, left_out, runs_one, go_on}
use Rattle.osb_broker.proofs.ShardExchangeLemmas.{exchanges_one}
use Rattle.osb_broker.proofs.laws.shards.Goals as goal

pub returns-clause-apart : goal.returns-clause-apart
returns-clause-apart c = shards_apart

pub returns-clause-out : goal.returns-clause-out
returns-clause-out c = shards_keep_out

pub returns-clause-unnamed : goal.returns-clause-unnamed
returns-clause-unnamed c = left_out

pub returns-clause-one : goal.returns-clause-one
returns-clause-one c = runs_one

pub returns-clause-histories : goal.returns-clause-histories
returns-clause-histories c = go_on

pub returns-clause-exchanges : goal.returns-clause-exchanges
returns-clause-exchanges c = exchanges_one
