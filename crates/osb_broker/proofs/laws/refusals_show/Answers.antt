use Rattle.osb_broker.specs.Steps.{machine, capped}
use Rattle.osb_broker.proofs.FailureLemmas.{failures_stay}
use Rattle.osb_broker.proofs.RefusalLemmas.{marks_show, shows_all, run_shows}
use Rattle.osb_broker.proofs.laws.refusals_show.Goals as goal

pub returns-clause-stays : goal.returns-clause-stays
returns-clause-stays c rules = failures_stay (machine rules) (c.never_fails.ensures.machine rules)

pub returns-clause-capped_stays : goal.returns-clause-capped_stays
returns-clause-capped_stays c rules = failures_stay (capped rules) (c.never_fails.ensures.capped rules)

pub returns-clause-marks : goal.returns-clause-marks
returns-clause-marks c rules limits = marks_show (machine rules) (c.never_fails.ensures.machine rules) limits

pub returns-clause-capped_marks : goal.returns-clause-capped_marks
returns-clause-capped_marks c rules limits = marks_show (capped rules) (c.never_fails.ensures.capped rules) limits

pub returns-clause-output : goal.returns-clause-output
returns-clause-output c rules limits = shows_all (machine rules) (c.never_fails.ensures.machine rules) limits

pub returns-clause-capped_output : goal.returns-clause-capped_output
returns-clause-capped_output c rules limits = shows_all (capped rules) (c.never_fails.ensures.capped rules) limits

pub returns-clause-outputs : goal.returns-clause-outputs
returns-clause-outputs c rules limits = run_shows (machine rules) (c.never_fails.ensures.machine rules) limits

pub returns-clause-capped_outputs : goal.returns-clause-capped_outputs
returns-clause-capped_outputs c rules limits = run_shows (capped rules) (c.never_fails.ensures.capped rules) limits
