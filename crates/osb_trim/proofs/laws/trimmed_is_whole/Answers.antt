use Rattle.osb_trim.proofs.WholeLemmas.{trimmed_whole}
use Rattle.osb_trim.proofs.LivesLemmas.{entries-trimmed, get-trimmed, lives_whole}
use Rattle.osb_trim.proofs.laws.trimmed_is_whole.Goals as goal

pub returns-clause-each : goal.returns-clause-each
returns-clause-each c = get-trimmed

pub returns-clause-entries : goal.returns-clause-entries
returns-clause-entries c = entries-trimmed

pub returns-clause-life : goal.returns-clause-life
returns-clause-life c = trimmed_whole

pub returns-clause-lives : goal.returns-clause-lives
returns-clause-lives c = lives_whole
