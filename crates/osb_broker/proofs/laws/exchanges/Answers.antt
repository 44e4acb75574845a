use Rattle.osb_broker.proofs.ExchangeLemmas.{one_request_each, by_themselves, runs_go_on}
use Rattle.osb_broker.proofs.ExchangeGroupLemmas.{groups_are_exchanges}
use Rattle.osb_broker.proofs.AskedLemmas.{acts_once, acts_at_most_once}
use Rattle.osb_broker.proofs.AskedCountLemmas.{opens_one}
use Rattle.osb_broker.proofs.OpenGroupLemmas.{open_groups_are}
use Rattle.osb_broker.proofs.laws.exchanges.Goals as goal

pub returns-clause-one_each : goal.returns-clause-one_each
returns-clause-one_each c = one_request_each

pub returns-clause-alone : goal.returns-clause-alone
returns-clause-alone c = by_themselves

pub returns-clause-groups : goal.returns-clause-groups
returns-clause-groups c = groups_are_exchanges

pub returns-clause-runs : goal.returns-clause-runs
returns-clause-runs c = runs_go_on

pub returns-clause-once : goal.returns-clause-once
returns-clause-once c = acts_once

pub returns-clause-most : goal.returns-clause-most
returns-clause-most c = acts_at_most_once

pub returns-clause-opens : goal.returns-clause-opens
returns-clause-opens c = opens_one

pub returns-clause-open_groups : goal.returns-clause-open_groups
returns-clause-open_groups c = open_groups_are
