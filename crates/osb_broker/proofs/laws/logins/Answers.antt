use Rattle.osb_broker.proofs.LoginLemmas.{asks_have_logins, platform_reports_nothing}
use Rattle.osb_broker.proofs.laws.logins.Goals as goal

pub returns-clause-own : goal.returns-clause-own
returns-clause-own c = asks_have_logins (λ e named. (c.one_place.ensures e.door e.behind named).0)

pub returns-clause-platform : goal.returns-clause-platform
returns-clause-platform c = platform_reports_nothing (λ e named. (c.one_place.ensures e.door e.behind named).0)
