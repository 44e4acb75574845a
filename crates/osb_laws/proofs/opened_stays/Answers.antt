use Rattle.osb_laws.proofs.OpenedLemmas.{opened_once, created_stays, bound_stays}
use Rattle.osb_laws.proofs.ReportedLemmas.{reported_once}
use Rattle.osb_laws.proofs.opened_stays.Goals as goal

pub returns-clause-opened : goal.returns-clause-opened
returns-clause-opened c = opened_once

pub returns-clause-reported : goal.returns-clause-reported
returns-clause-reported c = reported_once

pub returns-clause-created : goal.returns-clause-created
returns-clause-created c = created_stays

pub returns-clause-bound : goal.returns-clause-bound
returns-clause-bound c = bound_stays
