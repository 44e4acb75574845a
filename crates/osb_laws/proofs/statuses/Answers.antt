use Rattle.osb_laws.proofs.StatusLemmas.{statuses_say, polls_say, binding_polls_say}
use Rattle.osb_laws.proofs.FailureLemmas.{errors_change_nothing}
use Rattle.osb_laws.proofs.StateLemmas.{states_show}
use Rattle.osb_laws.proofs.GoneLemmas.{gone_is_absent, gone_binding_is_absent}
use Rattle.osb_laws.proofs.NameLemmas.{names_find}
use Rattle.osb_laws.proofs.statuses.Goals as goal

pub returns-clause-says : goal.returns-clause-says
returns-clause-says c = statuses_say

pub returns-clause-errors : goal.returns-clause-errors
returns-clause-errors c = errors_change_nothing

pub returns-clause-polls : goal.returns-clause-polls
returns-clause-polls c = polls_say

pub returns-clause-binding_polls : goal.returns-clause-binding_polls
returns-clause-binding_polls c = binding_polls_say

pub returns-clause-states : goal.returns-clause-states
returns-clause-states c = states_show

pub returns-clause-gone : goal.returns-clause-gone
returns-clause-gone c = gone_is_absent

pub returns-clause-binding_gone : goal.returns-clause-binding_gone
returns-clause-binding_gone c = gone_binding_is_absent

pub returns-clause-names : goal.returns-clause-names
returns-clause-names c = names_find
